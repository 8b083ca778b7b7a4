-- Each field of a letter: its bytes are read as its value, and what is read has those bytes.
use Rattle.std.proofs.Common.{◌≡◌, ℕ, ◌+◌, ◌%◌, ◌^◌, ◌<◌, ◌≤◌, Bool, true, false, List, [], ◌∷◌, length, is_some, Some, None, Ok, Err, Option, Result, sym, refl, ap, ◌∙◌, subst, arith}
use Rattle.std.proofs.lemmas.Bool.Decides.{nat_tests}
use Rattle.std.proofs.lemmas.Bool.{leb-true, ltb-true, cond-true}
use Rattle.terms.specs.declared.numbers.Change.{Change}
use Rattle.terms.specs.declared.numbers.KeyNumber.{KeyNumber}
use Rattle.terms.specs.declared.numbers.Place.{Place}
use Rattle.terms.specs.declared.numbers.Seat.{Seat}
use Rattle.terms.specs.declared.numbers.View.{View}
use Rattle.terms.specs.declared.parties.Outcome.{Outcome}
use Rattle.terms.specs.declared.parties.Outcome.TheVariants.{Keep, Number}
use Rattle.terms.specs.declared.parties.Party.{Party}
use Rattle.terms.specs.declared.parties.Party.TheVariants.{Controller, Lock, Office}
use Rattle.terms.specs.declared.refusals.Refusal.{Refusal}
use Rattle.terms.specs.declared.sizes.Sizes.{Sizes}
use Rattle.terms.specs.Numbers.{is_change, is_key, change_of, key_of, view_of}
use Rattle.terms.specs.Parties.{party_number, party_in, place_in}
use Rattle.letters.specs.declared.sorts.Answer.{Answer}
use Rattle.letters.specs.declared.sorts.Digest.{Digest}
use Rattle.letters.specs.declared.sorts.Kind.{Kind}
use Rattle.letters.specs.declared.sorts.Seal.{Seal}
use Rattle.letters.specs.Bytes.{le4, le8}
use Rattle.letters.specs.Certificates.{number_bytes}
use Rattle.letters.specs.Ranges.{is_byte, is_word, number_fits, seat_fits, place_fits}
use Rattle.letters.specs.Sorts.{seal, digest, kind_number, kind_of, answer_number, answer_of}
use Rattle.letters.specs.Statements.{outcome_number}
use Rattle.reading.specs.Bind.{◌>>=◌}
use Rattle.reading.specs.Fields as F
use Rattle.reading.specs.Fields.{Read, ranged, byte, four, eight}
use Rattle.roundtrip.specs.Laws.{Bytes}
use Rattle.roundtrip.proofs.Pieces.{Piece, nothing}
use Rattle.roundtrip.proofs.Steps.{after, came, ok_same, picked, picked_reads, picked_found, byte_reads, four_reads, eight_reads, byte_found, four_found, eight_found}

-- a value within range, whose bytes stand at `a` up to the offset beside it
pub record Stands {A : Type 0} (bytes : A → List ℕ) (fits : A → Bool) (xs : List ℕ) (a : ℕ) (p : A × ℕ) : Type 0 where
  pub piece : Piece xs a (bytes p.0) p.1
  pub fit : fits p.0 ≡ true

-- ---- bytes of each field

abbrev pub kind_bytes : Kind → List ℕ
kind_bytes k = kind_number k ∷ []

abbrev pub change_bytes : Change → List ℕ
change_bytes t = (t.0 % 256) ∷ []

abbrev pub party_bytes : Party → List ℕ
party_bytes q = (party_number q % 256) ∷ []

abbrev pub place_bytes : Place → List ℕ
place_bytes p = p.0 ∷ []

abbrev pub view_bytes : View → List ℕ
view_bytes v = v.0 ∷ []

abbrev pub answer_bytes : Answer → List ℕ
answer_bytes a = answer_number a ∷ []

-- ---- kind

pub kind_reads : {xs : List ℕ} {a b : ℕ} (k : Kind) → Piece xs a (kind_bytes k) b → F.kind_field xs a ≡ Ok (k, b)
kind_reads {xs} {a} {b} k p = picked_reads byte xs a kind_of (kind_number k) k b (byte_reads p) (grind arith)

-- the bytes of a number, and the value that it stands for
module _ {A : Type 0} (r : List ℕ → ℕ → Read ℕ) (spelled : ℕ → List ℕ) (Small : ℕ → Type 0) (o : ℕ → Option A) (number : A → ℕ) (fits : A → Bool) (xs : List ℕ) (a : ℕ) (p : A × ℕ) where
  picked_stands : ((q : ℕ × ℕ) → r xs a ≡ Ok q → Piece xs a (spelled q.0) q.1 × Small q.0) → ((n : ℕ) → Small n → o n ≡ Some p.0 → (number p.0 ≡ n) × (fits p.0 ≡ true)) → picked r o xs a ≡ Ok p → Stands (λ v. spelled (number v)) fits xs a p
  picked_stands found is e =
      let (n, e1, e2) = picked_found r xs a o p e in
      let q = found (n, p.1) e1 in
      let i = is n q.1 e2 in
      record { piece = rw i.0 q.0; fit = i.1 }

module _ {A : Type 0} (o : ℕ → Option A) (number : A → ℕ) (fits : A → Bool) (xs : List ℕ) (bytes : Bytes xs) (a : ℕ) (p : A × ℕ) where
  byte_picked : ((n : ℕ) → n < 256 → o n ≡ Some p.0 → (number p.0 ≡ n) × (fits p.0 ≡ true)) → picked byte o xs a ≡ Ok p → Stands (λ v. number v ∷ []) fits xs a p
  byte_picked is e = picked_stands byte (λ n. n ∷ []) (λ n. n < 256) o number fits xs a p (byte_found xs bytes a) is e

pub kind_found : (xs : List ℕ) → Bytes xs → (a : ℕ) (p : Kind × ℕ) → F.kind_field xs a ≡ Ok p → Piece xs a (kind_bytes p.0) p.1
kind_found xs bytes a p e = (byte_picked kind_of kind_number (λ k. true) xs bytes a p (λ n h f. grind (arith, nat_tests)) e).piece

-- ---- change

pub change_reads : {xs : List ℕ} {a : ℕ} {p : Change × ℕ} → Stands change_bytes (λ t. is_change t.0) xs a p → F.change_field xs a ≡ Ok p
change_reads {xs} {a} {p} s = picked_reads byte xs a change_of _ p.0 p.1 (byte_reads s.piece) (grind (arith, nat_tests, s.fit))

pub change_found : (xs : List ℕ) → Bytes xs → (a : ℕ) (p : Change × ℕ) → F.change_field xs a ≡ Ok p → Stands change_bytes (λ t. is_change t.0) xs a p
change_found xs bytes a p e = byte_picked change_of (λ t. t.0 % 256) (λ t. is_change t.0) xs bytes a p (λ n h f. grind (arith, nat_tests)) e

-- ---- place

pub place_reads : (sizes : Sizes) {xs : List ℕ} {a : ℕ} {p : Place × ℕ} → Stands place_bytes (place_fits sizes) xs a p → F.place_field sizes xs a ≡ Ok p
place_reads sizes {xs} {a} {p} s = picked_reads byte xs a (place_in sizes) _ p.0 p.1 (byte_reads s.piece) (cond-true (place_fits sizes p.0) (Some p.0) None s.fit)

pub place_found : (sizes : Sizes) (xs : List ℕ) → Bytes xs → (a : ℕ) (p : Place × ℕ) → F.place_field sizes xs a ≡ Ok p → Stands place_bytes (place_fits sizes) xs a p
place_found sizes xs bytes a p e = byte_picked (place_in sizes) (λ q. q.0) (place_fits sizes) xs bytes a p (λ n h f. grind (arith, nat_tests)) e

-- ---- sender

assoc : {A B C : Type 0} (r : Result A Refusal) (f : A → Result B Refusal) (g : B → Result C Refusal) → (r >>= f >>= g) ≡ (r >>= (λ x. f x >>= g))
assoc (Ok x) f g = refl
assoc (Err e) f g = refl

-- a sender as one step from its byte
sender : {A : Type 0} (sizes : Sizes) (o : Option Party → Option A) (xs : List ℕ) (a : ℕ)
    → (F.party_field sizes xs a >>= (λ (q : Option Party × ℕ). ranged (o q.0) a >>= (λ (v : A). Ok (v, q.1)))) ≡ picked byte (λ n. o (party_in sizes n)) xs a
sender sizes o xs a = assoc (byte xs a) _ _

pub lock_reads : (sizes : Sizes) {xs : List ℕ} {a : ℕ} {p : Place × ℕ} → Stands (λ q. party_bytes (Lock q)) (place_fits sizes) xs a p → F.lock_field sizes xs a ≡ Ok p
lock_reads sizes {xs} {a} {p} s = sender sizes F.lock_of xs a ∙ picked_reads byte xs a _ _ p.0 p.1 (byte_reads s.piece) (grind (arith, nat_tests, s.fit))

pub lock_found : (sizes : Sizes) (xs : List ℕ) → Bytes xs → (a : ℕ) (p : Place × ℕ) → F.lock_field sizes xs a ≡ Ok p → Stands (λ q. party_bytes (Lock q)) (place_fits sizes) xs a p
lock_found sizes xs bytes a p e = byte_picked (λ n. F.lock_of (party_in sizes n)) (λ q. (32 + q.0) % 256) (place_fits sizes) xs bytes a p (λ n h f. grind (arith, nat_tests)) (sym (sender sizes F.lock_of xs a) ∙ e)

pub controller_reads : (sizes : Sizes) {xs : List ℕ} {a : ℕ} {p : Seat × ℕ} → Stands (λ q. party_bytes (Controller q)) (seat_fits sizes) xs a p → F.controller_field sizes xs a ≡ Ok p
controller_reads sizes {xs} {a} {p} s = sender sizes F.controller_of xs a ∙ picked_reads byte xs a _ _ p.0 p.1 (byte_reads s.piece) (grind (arith, nat_tests, s.fit))

pub controller_found : (sizes : Sizes) (xs : List ℕ) → Bytes xs → (a : ℕ) (p : Seat × ℕ) → F.controller_field sizes xs a ≡ Ok p → Stands (λ q. party_bytes (Controller q)) (seat_fits sizes) xs a p
controller_found sizes xs bytes a p e = byte_picked (λ n. F.controller_of (party_in sizes n)) (λ q. q.0 % 256) (seat_fits sizes) xs bytes a p (λ n h f. grind (arith, nat_tests)) (sym (sender sizes F.controller_of xs a) ∙ e)

pub office_reads : (sizes : Sizes) {xs : List ℕ} {a b : ℕ} → Piece xs a (party_bytes Office) b → F.office_field sizes xs a ≡ Ok (tt, b)
office_reads sizes {xs} {a} {b} p = sender sizes F.office_of xs a ∙ picked_reads byte xs a _ _ tt b (byte_reads p) refl

pub office_found : (sizes : Sizes) (xs : List ℕ) → Bytes xs → (a : ℕ) (p : Unit {0} × ℕ) → F.office_field sizes xs a ≡ Ok p → Piece xs a (party_bytes Office) p.1
office_found sizes xs bytes a p e = (byte_picked (λ n. F.office_of (party_in sizes n)) (λ q. 64) (λ q. true) xs bytes a p (λ n h f. grind (arith, nat_tests)) (sym (sender sizes F.office_of xs a) ∙ e)).piece

-- ---- view, answer

pub view_reads : {xs : List ℕ} {a : ℕ} {p : View × ℕ} → Piece xs a (view_bytes p.0) p.1 → F.view_field xs a ≡ Ok p
view_reads {xs} {a} {p} s = picked_reads byte xs a (λ n. Some (view_of n)) _ p.0 p.1 (byte_reads s) refl

pub view_found : (xs : List ℕ) → Bytes xs → (a : ℕ) (p : View × ℕ) → F.view_field xs a ≡ Ok p → Stands view_bytes (λ v. is_byte v.0) xs a p
view_found xs bytes a p e = byte_picked (λ n. Some (view_of n)) (λ v. v.0) (λ v. is_byte v.0) xs bytes a p (λ n h f. grind (arith, nat_tests)) e

pub answer_reads : {xs : List ℕ} {a : ℕ} {p : Answer × ℕ} → Piece xs a (answer_bytes p.0) p.1 → F.answer_field xs a ≡ Ok p
answer_reads {xs} {a} {p} s = picked_reads byte xs a answer_of _ p.0 p.1 (byte_reads s) (grind arith)

pub answer_found : (xs : List ℕ) → Bytes xs → (a : ℕ) (p : Answer × ℕ) → F.answer_field xs a ≡ Ok p → Piece xs a (answer_bytes p.0) p.1
answer_found xs bytes a p e = (byte_picked answer_of answer_number (λ q. true) xs bytes a p (λ n h f. grind (arith, nat_tests)) e).piece

-- ---- words

abbrev pub digest_bytes : Digest → List ℕ
digest_bytes d = le8 d.0

abbrev pub digest_fits : Digest → Bool
digest_fits d = is_word d.0

abbrev pub seal_of : Seal → List ℕ
seal_of z = le8 z.0

abbrev pub seal_fits : Seal → Bool
seal_fits z = is_word z.0

pub digest_reads : {xs : List ℕ} {a : ℕ} {p : Digest × ℕ} → Stands digest_bytes digest_fits xs a p → F.digest_field xs a ≡ Ok p
digest_reads {xs} {a} {p} s = picked_reads eight xs a (λ n. Some (digest n)) _ p.0 p.1 (eight_reads s.piece (ltb-true _ _ s.fit)) refl

pub digest_found : (xs : List ℕ) → Bytes xs → (a : ℕ) (p : Digest × ℕ) → F.digest_field xs a ≡ Ok p → Stands digest_bytes digest_fits xs a p
digest_found xs bytes a p e = picked_stands eight le8 (λ n. n < 2 ^ 64) (λ n. Some (digest n)) (λ d. d.0) digest_fits xs a p (eight_found xs bytes a) (λ n h f. grind (arith, nat_tests)) e

pub seal_reads : {xs : List ℕ} {a : ℕ} {p : Seal × ℕ} → Stands seal_of seal_fits xs a p → F.seal_field xs a ≡ Ok p
seal_reads {xs} {a} {p} s = picked_reads eight xs a (λ n. Some (seal n)) _ p.0 p.1 (eight_reads s.piece (ltb-true _ _ s.fit)) refl

pub seal_found : (xs : List ℕ) → Bytes xs → (a : ℕ) (p : Seal × ℕ) → F.seal_field xs a ≡ Ok p → Stands seal_of seal_fits xs a p
seal_found xs bytes a p e = picked_stands eight le8 (λ n. n < 2 ^ 64) (λ n. Some (seal n)) (λ z. z.0) seal_fits xs a p (eight_found xs bytes a) (λ n h f. grind (arith, nat_tests)) e

-- ---- number and outcome

abbrev pub key_bytes : KeyNumber → List ℕ
key_bytes n = le4 n.0

abbrev pub key_fits : KeyNumber → Bool
key_fits n = is_key n.0

pub number_reads : {xs : List ℕ} {a : ℕ} {p : KeyNumber × ℕ} → Stands key_bytes key_fits xs a p → F.number_field xs a ≡ Ok p
number_reads {xs} {a} {p} s =
    let h = leb-true _ _ s.fit in
    picked_reads four xs a key_of p.0.0 p.0 p.1 (four_reads s.piece (omega arith)) (cond-true (is_key p.0.0) (Some p.0) None s.fit)

pub number_found : (xs : List ℕ) → Bytes xs → (a : ℕ) (p : KeyNumber × ℕ) → F.number_field xs a ≡ Ok p → Stands key_bytes key_fits xs a p
number_found xs bytes a p e = picked_stands four le4 (λ n. n < 4294967296) key_of (λ n. n.0) key_fits xs a p (four_found xs bytes a) (λ n h f. grind (arith, nat_tests)) e

pub number_if_reads : {xs : List ℕ} {a : ℕ} (n : Option KeyNumber) (b : ℕ) → Stands number_bytes number_fits xs a (n, b) → F.number_if (is_some n) xs a ≡ Ok (n, b)
number_if_reads {xs} {a} None b s = ap (λ k. Ok (None, k)) (omega (arith, s.piece.ends))
number_if_reads {xs} {a} (Some n) b s = after _ (number_reads (record { piece = s.piece; fit = s.fit })) refl

pub number_if_found : (t : Bool) (xs : List ℕ) → Bytes xs → (a : ℕ) → a ≤ length xs → (p : Option KeyNumber × ℕ) → F.number_if t xs a ≡ Ok p → Stands number_bytes number_fits xs a p × (t ≡ is_some p.0)
number_if_found false xs bytes a h p e = subst (λ (q : Option KeyNumber × ℕ). Stands number_bytes number_fits xs a q × (false ≡ is_some q.0)) (ok_same e) (record { piece = nothing xs a h; fit = refl }, refl)
number_if_found true xs bytes a h p e =
    let (q, e1, e2) = came (F.number_field xs a) _ p e in
    let s = number_found xs bytes a q e1 in
    subst (λ (q : Option KeyNumber × ℕ). Stands number_bytes number_fits xs a q × (true ≡ is_some q.0)) (ok_same e2) (record { piece = s.piece; fit = s.fit }, refl)

abbrev pub outcome_bytes : Outcome → List ℕ
outcome_bytes x = number_bytes (outcome_number x)

abbrev pub outcome_fits : Outcome → Bool
outcome_fits x = number_fits (outcome_number x)

abbrev pub changes : Outcome → Bool
changes x = is_some (outcome_number x)

pub outcome_reads : {xs : List ℕ} {a : ℕ} (x : Outcome) (b : ℕ) → Stands outcome_bytes outcome_fits xs a (x, b) → F.outcome_if (changes x) xs a ≡ Ok (x, b)
outcome_reads {xs} {a} Keep b s = ap (λ k. Ok (Keep, k)) (omega (arith, s.piece.ends))
outcome_reads {xs} {a} (Number n) b s = after _ (number_reads (record { piece = s.piece; fit = s.fit })) refl

pub outcome_found : (t : Bool) (xs : List ℕ) → Bytes xs → (a : ℕ) → a ≤ length xs → (p : Outcome × ℕ) → F.outcome_if t xs a ≡ Ok p → Stands outcome_bytes outcome_fits xs a p × (t ≡ changes p.0)
outcome_found false xs bytes a h p e = subst (λ (q : Outcome × ℕ). Stands outcome_bytes outcome_fits xs a q × (false ≡ changes q.0)) (ok_same e) (record { piece = nothing xs a h; fit = refl }, refl)
outcome_found true xs bytes a h p e =
    let (q, e1, e2) = came (F.number_field xs a) _ p e in
    let s = number_found xs bytes a q e1 in
    subst (λ (q : Outcome × ℕ). Stands outcome_bytes outcome_fits xs a q × (true ≡ changes q.0)) (ok_same e2) (record { piece = s.piece; fit = s.fit }, refl)
