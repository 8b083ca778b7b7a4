-- A call of a unit: what it answers, and what it leaves of the unit and of the two buffers.
use Rattle.std.specs.Prelude.{◌≡◌, ◌↔◌, ℕ, Bool, true, false, cond, ◌&&◌, List, length, is_ok, Ok, Err, Result, nat_le}
use Rattle.terms.specs.declared.numbers.Change.{Change}
use Rattle.terms.specs.declared.refusals.Cause.TheVariants as Cause
use Rattle.terms.specs.declared.refusals.Refusal.{Refusal}
use Rattle.terms.specs.declared.refusals.RuleCause.{RuleCause}
use Rattle.terms.specs.Refusals.{no_room}
use Rattle.letters.specs.declared.sorts.Seal.{Seal}
use Rattle.letters.specs.Bytes.{written}
use Rattle.seals.specs.Opening.{Relation}
use Rattle.seals.specs.Scratch.{cleared, scratch_after}
use Rattle.posting.specs.declared.few.AtMostTwo.{AtMostTwo}
use Rattle.posting.specs.declared.few.Posted.{Posted}
use Rattle.posting.specs.declared.few.Seals.{Seals}
use Rattle.posting.specs.Posting.{are_words, bytes_of, lengths_of, all_sealed, fits, post_answer, post_buffer}
use Rattle.posting.specs.Replies.{Bodies, Reply, refused, served}

-- 256 bytes of output buffer hold any letter of a vault, 24 of scratch buffer a statement
abbrev pub enough : ℕ → ℕ → Bool
enough out scratch = nat_le 256 out && nat_le 24 scratch

abbrev pub has_room : List ℕ → List ℕ → Bool
has_room out scratch = enough (length out) (length scratch)

abbrev pub room_answer : ℕ → ℕ → Result (Unit {0}) Refusal
room_answer out scratch = cond (enough out scratch) (Ok tt) (Err no_room)

-- a refusal by the rules points to the letter's sender, or to 0 without a letter
abbrev pub ruled : RuleCause → ℕ → Refusal
ruled c sender = record { cause = Cause.Rule c; place = sender }

abbrev pub pointed : {U : Type 0} → ℕ → Reply RuleCause U → Reply Refusal U
pointed sender (refused c) = refused (ruled c sender)
pointed sender (served u bs) = served u bs

-- what a call answers, and what it leaves
pub record Went (U : Type 0) : Type 0 where
  pub answer : Result (AtMostTwo ℕ) Refusal
  pub unit : U
  pub out : List ℕ
  pub scratch : List ℕ

abbrev pub went : {U : Type 0} → Result (AtMostTwo ℕ) Refusal → U → List ℕ → List ℕ → Went U
went a u o s = record { answer = a; unit = u; out = o; scratch = s }

-- a refusal changes nothing but the scratch buffer; letters for which there is no room are refused too
abbrev pub finished : {U : Type 0} → Change → U → List ℕ → List ℕ → Seals → Reply Refusal U → Went U
finished t u out scratch zs (refused e) = went (Err e) u out (cleared scratch)
finished t u out scratch zs (served v bs) =
    cond (fits t bs out) (went (Ok (lengths_of t bs zs)) v (written (bytes_of t bs zs) out) (cleared scratch)) (went (Err no_room) u out (cleared scratch))

-- too little room changes nothing at all
abbrev pub called : {U : Type 0} → Change → U → List ℕ → List ℕ → Seals → Reply Refusal U → Went U
called t u out scratch zs r = cond (has_room out scratch) (finished t u out scratch zs r) (went (Err no_room) u out scratch)

abbrev pub reply_sealed : {E U : Type 0} → Relation → Change → Seals → Reply E U → Bool
reply_sealed holds t zs (refused e) = true
reply_sealed holds t zs (served u bs) = all_sealed holds t bs zs

-- a call goes by a rule, with some seals in the relation under what it sends; a rule may keep the first of them in the unit
pub record Goes {U : Type 0} (holds : Relation) (t : Change) (u : U) (out scratch : List ℕ) (rule : Seal → Reply Refusal U) (w : Went U) : Type 0 where
  pub seals : Seals
  pub words : are_words seals ≡ true
  pub goes : w ≡ called t u out scratch seals (rule seals.first)
  pub sealed : is_ok w.answer ≡ true → reply_sealed holds t seals (rule seals.first) ≡ true

-- a call is refused for want of room only where the buffers are too short to begin with
abbrev pub RoomSuffices : Result (AtMostTwo ℕ) Refusal → List ℕ → List ℕ → Type 0
RoomSuffices a out scratch = (a ≡ Err no_room) ↔ (has_room out scratch ≡ false)

-- ---- the end of a call: what its rule replies is answered, and what it sends is posted

pub record Ending : Type 0 where
  pub answer : Result Posted Refusal
  pub out : List ℕ
  pub scratch : List ℕ

abbrev pub ending : Result Posted Refusal → List ℕ → List ℕ → Ending
ending a o s = record { answer = a; out = o; scratch = s }

abbrev pub ended : Change → ℕ → Result Bodies RuleCause → Seals → List ℕ → List ℕ → Ending
ended t sender (Err c) zs out scratch = ending (Err (ruled c sender)) out (scratch_after scratch)
ended t sender (Ok bs) zs out scratch = ending (post_answer t bs zs scratch out) (post_buffer t bs zs scratch out) (scratch_after scratch)

abbrev pub sent_sealed : Relation → Change → Result Bodies RuleCause → Seals → Bool
sent_sealed holds t (Err c) zs = true
sent_sealed holds t (Ok bs) zs = all_sealed holds t bs zs

-- how long the letters are, or the refusal
abbrev pub answered : Result Posted Refusal → Result (AtMostTwo ℕ) Refusal
answered (Ok p) = Ok p.lengths
answered (Err e) = Err e

-- a call that is refused keeps the unit as it was
abbrev pub keeping : {U : Type 0} → U → U → Result Posted Refusal → U
keeping u v (Ok p) = v
keeping u v (Err e) = u
