-- What a call leaves in the output buffer is read back as the letters that its rule sends.
use Rattle.std.specs.Prelude.{◌≡◌, ℕ, ◌≤◌, true, List, [], ◌∷◌, map, take, drop, Ok, Option, Result}
use Rattle.terms.specs.declared.numbers.Change.{Change}
use Rattle.terms.specs.declared.refusals.Refusal.{Refusal}
use Rattle.terms.specs.declared.sizes.Sizes.{Sizes}
use Rattle.terms.specs.Numbers.{is_change}
use Rattle.letters.specs.declared.sorts.Seal.{Seal}
use Rattle.letters.specs.declared.certificates.Basis.{Basis}
use Rattle.letters.specs.declared.certificates.Certificate.{Certificate}
use Rattle.letters.specs.declared.bodies.Letter.{Letter}
use Rattle.letters.specs.Ranges.{is_word}
use Rattle.reading.specs.Form.{read}
use Rattle.roundtrip.specs.Laws.{kept_result}
use Rattle.boards.specs.Boards.{Meaning}
use Rattle.posting.specs.declared.few.AtMostTwo.{AtMostTwo}
use Rattle.posting.specs.declared.few.AtMostTwo.TheVariants.{Nothing, One, Two}
use Rattle.posting.specs.declared.few.Seals.{Seals}
use Rattle.posting.specs.Calls.{has_room, pointed, called}
use Rattle.posting.specs.Posting.{letters_of, are_words, needed}
use Rattle.posting.specs.Replies.{Reply, after}
use Rattle.controllers.specs.declared.controller.Controller.{Controller}
use Rattle.locks.specs.declared.lock.Lock.{Lock}
use Rattle.locks.specs.Rules.{replied}
use Rattle.office.specs.declared.Office.{Office}
use Rattle.office.specs.Rules.{order_reply}
use Rattle.steps.specs.Steps.{sent_in, ControllerStep, controller_reply, controller_sends, LockStep, lock_reply, lock_sends, office_sends}
use Rattle.steps.specs.Ranges.{ControllerFits, LockFits, controller_step_fits, lock_step_fits}

-- a letter that is read from bytes
abbrev pub letter_in : Sizes → List ℕ → Result (Letter Certificate Basis) Refusal
letter_in sizes xs = kept_result (read sizes xs)

-- the letters that are read from a buffer, by their lengths, one right after the other
abbrev pub letters_in : Sizes → AtMostTwo ℕ → List ℕ → List (Result (Letter Certificate Basis) Refusal)
letters_in sizes Nothing out = []
letters_in sizes (One n) out = letter_in sizes (take n out) ∷ []
letters_in sizes (Two n m) out = letter_in sizes (take n out) ∷ letter_in sizes (take m (drop n out)) ∷ []

-- a call that goes by a rule and is served: reading the output buffer by the lengths answered gives the letters sent, under their seals
abbrev pub OutputReadBack : {U : Type 0} → Sizes → Change → U → (Seal → Reply Refusal U) → Type 0
OutputReadBack sizes t u rule = (zs : Seals) (out scratch : List ℕ) (lengths : AtMostTwo ℕ) → are_words zs ≡ true → (called t u out scratch zs (rule zs.first)).answer ≡ Ok lengths → letters_in sizes lengths (called t u out scratch zs (rule zs.first)).out ≡ map Ok (letters_of t (sent_in (rule zs.first)) zs)

-- of every unit of a vault within range, at every step, whoever a refusal would point to
pub record OutputIsReadBack : Type 0 where
  pub of_controllers : (sizes : Sizes) (t : Change) (u : Controller) (s : ControllerStep) (sender : ℕ) → is_change t.0 ≡ true → controller_step_fits sizes s ≡ true → ControllerFits sizes t u → OutputReadBack sizes t u (λ own. pointed sender (controller_reply sizes t u s own))
  pub of_locks : (sizes : Sizes) (t : Change) (k : Lock) (m : Meaning) (s : LockStep) (sender : ℕ) → is_change t.0 ≡ true → lock_step_fits sizes s ≡ true → LockFits sizes k → OutputReadBack sizes t k (λ _. pointed sender (replied (lock_reply sizes t k m s)))
  pub of_the_office : (sizes : Sizes) (t : Change) (o : Office) (n : Option ℕ) → is_change t.0 ≡ true → OutputReadBack sizes t o (λ _. order_reply o n)

-- 253 bytes hold all that a unit within range sends at a step
pub record LittleIsSent : Type 0 where
  pub of_controllers : (sizes : Sizes) (t : Change) (u : Controller) (s : ControllerStep) (own : Seal) → controller_step_fits sizes s ≡ true → is_word own.0 ≡ true → ControllerFits sizes t u → needed t (controller_sends sizes t u s own) ≤ 253
  pub of_locks : (sizes : Sizes) (t : Change) (k : Lock) (m : Meaning) (s : LockStep) → lock_step_fits sizes s ≡ true → LockFits sizes k → needed t (lock_sends sizes t k m s) ≤ 253
  pub of_the_office : (sizes : Sizes) (t : Change) (o : Office) (n : Option ℕ) → needed t (office_sends o n) ≤ 253

-- a call with 256 bytes of output buffer and 24 of scratch buffer leaves the unit as its rule says
abbrev pub GoesByItsRule : {U : Type 0} → Change → U → (Seal → Reply Refusal U) → Type 0
GoesByItsRule t u rule = (zs : Seals) (out scratch : List ℕ) → are_words zs ≡ true → has_room out scratch ≡ true → (called t u out scratch zs (rule zs.first)).unit ≡ after u (rule zs.first)

-- of every unit of a vault within range, at every step
pub record RoomSuffices : Type 0 where
  pub of_controllers : (sizes : Sizes) (t : Change) (u : Controller) (s : ControllerStep) (sender : ℕ) → controller_step_fits sizes s ≡ true → ControllerFits sizes t u → GoesByItsRule t u (λ own. pointed sender (controller_reply sizes t u s own))
  pub of_locks : (sizes : Sizes) (t : Change) (k : Lock) (m : Meaning) (s : LockStep) (sender : ℕ) → lock_step_fits sizes s ≡ true → LockFits sizes k → GoesByItsRule t k (λ _. pointed sender (replied (lock_reply sizes t k m s)))
  pub of_the_office : (sizes : Sizes) (t : Change) (o : Office) (n : Option ℕ) → GoesByItsRule t o (λ _. order_reply o n)
