-- What a call leaves in the output buffer is read back.
use Rattle.std.proofs.Common.{◌≡◌, ℕ, ◌≤◌, true, leb, List, [], ◌∷◌, ◌++◌, map, length, take, drop, Ok, refl, ap, ◌∙◌, ap₂, inl, inr, append_assoc, arith}
use lib.Seq.{take-append_seam, drop-append_seam}
use Rattle.std.proofs.lemmas.Bool.{and_parts, cond-true, cond_both, leb-true, le-leb}
use Rattle.terms.specs.declared.numbers.Change.{Change}
use Rattle.terms.specs.declared.refusals.Refusal.{Refusal}
use Rattle.terms.specs.declared.refusals.RuleCause.{RuleCause}
use Rattle.terms.specs.declared.sizes.Sizes.{Sizes}
use Rattle.letters.specs.Bodies.{letter}
use Rattle.letters.specs.Bytes.{written}
use Rattle.letters.specs.Layout.{layout}
use Rattle.letters.specs.Ranges.{is_word}
use Rattle.posting.specs.declared.few.AtMostTwo.{AtMostTwo}
use Rattle.posting.specs.declared.few.AtMostTwo.TheVariants.{Nothing, One, Two}
use Rattle.posting.specs.declared.few.Seals.{Seals}
use Rattle.posting.specs.Calls.{has_room, pointed, Went, finished, called}
use Rattle.posting.specs.Posting.{letters_of, bytes_of, lengths_of, are_words, needed, fits}
use Rattle.posting.specs.Replies.{Bodies, Reply, refused, served, after}
use Rattle.locks.specs.Rules.{replied}
use Rattle.office.specs.Rules.{order_reply}
use Rattle.steps.specs.Steps.{sent_in, controller_reply, lock_reply}
use Rattle.steps.specs.RangeLaws.{ReadBack}
use Rattle.steps.specs.Outputs.{letter_in, letters_in, OutputIsReadBack, RoomSuffices}
use Rattle.steps.proofs.Within.{letters_sent_are_read_back, little_is_sent}

first_word : (zs : Seals) → are_words zs ≡ true → is_word zs.first.0 ≡ true
first_word zs w = (and_parts (is_word zs.first.0) (is_word zs.second.0) w).0

second_word : (zs : Seals) → are_words zs ≡ true → is_word zs.second.0 ≡ true
second_word zs w = (and_parts (is_word zs.first.0) (is_word zs.second.0) w).1

module _ (sizes : Sizes) (t : Change) (zs : Seals) (one : is_word zs.first.0 ≡ true) (two : is_word zs.second.0 ≡ true) where
  -- the letters stand at the start of the buffer
  buffer_read : (bs : Bodies) (out : List ℕ) → ReadBack sizes t bs → letters_in sizes (lengths_of t bs zs) (written (bytes_of t bs zs) out) ≡ map Ok (letters_of t bs zs)
  buffer_read Nothing out r = refl
  buffer_read (One b) out r =
      let x = layout (letter t b zs.first) in
      ap (λ y. y ∷ []) (ap (letter_in sizes) (take-append_seam x (drop (length x) out)) ∙ r b zs.first refl one)
  buffer_read (Two b c) out r =
      let x = layout (letter t b zs.first) in
      let y = layout (letter t c zs.second) in
      let rest = drop (length (x ++ y)) out in
      let apart : (x ++ y) ++ rest ≡ x ++ (y ++ rest) = append_assoc x y rest in
      let first : take (length x) ((x ++ y) ++ rest) ≡ x = ap (take (length x)) apart ∙ take-append_seam x (y ++ rest) in
      let second : take (length y) (drop (length x) ((x ++ y) ++ rest)) ≡ y = ap (λ zs. take (length y) (drop (length x) zs)) apart ∙ ap (take (length y)) (drop-append_seam x (y ++ rest)) ∙ take-append_seam y rest in
      ap₂ (λ p q. p ∷ q ∷ []) (ap (letter_in sizes) first ∙ r b zs.first (inl refl) one) (ap (letter_in sizes) second ∙ r c zs.second (inr refl) two)

  module _ {U : Type 0} (u : U) (out scratch : List ℕ) where
    finished_read : (r : Reply Refusal U) (lengths : AtMostTwo ℕ) → ReadBack sizes t (sent_in r) → (finished t u out scratch zs r).answer ≡ Ok lengths → letters_in sizes lengths (finished t u out scratch zs r).out ≡ map Ok (letters_of t (sent_in r) zs)
    finished_read (refused c) lengths k e = absurd (grind (arith, e))
    finished_read (served v bs) lengths k e =
        cond_both (fits t bs out) _ _ (λ (w : Went U). w.answer ≡ Ok lengths → letters_in sizes lengths w.out ≡ map Ok (letters_of t bs zs))
        (λ _ q. let n : lengths ≡ lengths_of t bs zs = cc in ap (λ n. letters_in sizes n (written (bytes_of t bs zs) out)) n ∙ buffer_read bs out k)
        (λ _ q. absurd (grind (arith, q)))
        e

    called_read : (r : Reply Refusal U) (lengths : AtMostTwo ℕ) → ReadBack sizes t (sent_in r) → (called t u out scratch zs r).answer ≡ Ok lengths → letters_in sizes lengths (called t u out scratch zs r).out ≡ map Ok (letters_of t (sent_in r) zs)
    called_read r lengths k e =
        cond_both (has_room out scratch) _ _ (λ (w : Went U). w.answer ≡ Ok lengths → letters_in sizes lengths w.out ≡ map Ok (letters_of t (sent_in r) zs))
        (λ _ q. finished_read r lengths k q)
        (λ _ q. absurd (grind (arith, q)))
        e

pointed_read : {U : Type 0} (sizes : Sizes) (t : Change) (sender : ℕ) (r : Reply RuleCause U) → ReadBack sizes t (sent_in r) → ReadBack sizes t (sent_in (pointed sender r))
pointed_read sizes t sender (refused c) k = k
pointed_read sizes t sender (served u bs) k = k

pub output_is_read_back : OutputIsReadBack
output_is_read_back = record {
  of_controllers = λ sizes t u s sender c f g zs out scratch lengths words e. called_read sizes t zs (first_word zs words) (second_word zs words) u out scratch (pointed sender (controller_reply sizes t u s zs.first)) lengths (pointed_read sizes t sender (controller_reply sizes t u s zs.first) (letters_sent_are_read_back.of_controllers sizes t u s zs.first c f (first_word zs words) g)) e;
  of_locks = λ sizes t k m s sender c f g zs out scratch lengths words e. called_read sizes t zs (first_word zs words) (second_word zs words) k out scratch (pointed sender (replied (lock_reply sizes t k m s))) lengths (pointed_read sizes t sender (replied (lock_reply sizes t k m s)) (letters_sent_are_read_back.of_locks sizes t k m s c f g)) e;
  of_the_office = λ sizes t o n c zs out scratch lengths words e. called_read sizes t zs (first_word zs words) (second_word zs words) o out scratch (order_reply o n) lengths (letters_sent_are_read_back.of_the_office sizes t o n c) e;
}

-- ---- room

pointed_room : {U : Type 0} (t : Change) (sender : ℕ) (r : Reply RuleCause U) → needed t (sent_in r) ≤ 253 → needed t (sent_in (pointed sender r)) ≤ 253
pointed_room t sender (refused c) k = k
pointed_room t sender (served u bs) k = k

called_unit : {U : Type 0} (t : Change) (u : U) (zs : Seals) (out scratch : List ℕ) (r : Reply Refusal U) → needed t (sent_in r) ≤ 253 → has_room out scratch ≡ true → (called t u out scratch zs r).unit ≡ after u r
called_unit {U} t u zs out scratch r k h = ap (λ (w : Went U). w.unit) (cond-true (has_room out scratch) _ _ h) ∙ go r k
  where
    go : (r : Reply Refusal U) → needed t (sent_in r) ≤ 253 → (finished t u out scratch zs r).unit ≡ after u r
    go (refused c) k = refl
    go (served v bs) k =
        let l = leb-true _ _ (and_parts (leb 256 (length out)) (leb 24 (length scratch)) h).0 in
        ap (λ (w : Went U). w.unit) (cond-true (fits t bs out) _ _ (le-leb _ _ (omega (arith, k, l))))

pub room_suffices : RoomSuffices
room_suffices = record {
  of_controllers = λ sizes t u s sender f g zs out scratch w h. called_unit t u zs out scratch (pointed sender (controller_reply sizes t u s zs.first)) (pointed_room t sender (controller_reply sizes t u s zs.first) (little_is_sent.of_controllers sizes t u s zs.first f (first_word zs w) g)) h;
  of_locks = λ sizes t k m s sender f g zs out scratch w h. called_unit t k zs out scratch (pointed sender (replied (lock_reply sizes t k m s))) (pointed_room t sender (replied (lock_reply sizes t k m s)) (little_is_sent.of_locks sizes t k m s f g)) h;
  of_the_office = λ sizes t o n zs out scratch w h. called_unit t o zs out scratch (order_reply o n) (little_is_sent.of_the_office sizes t o n) h;
}
