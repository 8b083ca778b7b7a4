-- Units stay within range, and so are the letters that they send.
use Rattle.std.specs.Prelude.{◌≡◌, ℕ, ◌≤◌, true, Some, Ok, Option}
use Rattle.terms.specs.declared.numbers.Change.{Change}
use Rattle.terms.specs.declared.numbers.Place.{Place}
use Rattle.terms.specs.declared.numbers.Seat.{Seat}
use Rattle.terms.specs.declared.sizes.Sizes.{Sizes}
use Rattle.terms.specs.Numbers.{is_change}
use Rattle.letters.specs.declared.sorts.Seal.{Seal}
use Rattle.letters.specs.declared.certificates.Basis.{Basis}
use Rattle.letters.specs.declared.certificates.Certificate.{Certificate}
use Rattle.letters.specs.declared.bodies.Body.{Body}
use Rattle.letters.specs.Bodies.{letter}
use Rattle.letters.specs.Layout.{layout}
use Rattle.letters.specs.Ranges.{is_word, seat_fits, place_fits, body_fits}
use Rattle.reading.specs.Form.{read}
use Rattle.roundtrip.specs.Laws.{kept_result}
use Rattle.boards.specs.Boards.{Meaning}
use Rattle.posting.specs.Replies.{Bodies}
use Rattle.controllers.specs.declared.controller.Controller.{Controller}
use Rattle.controllers.specs.Letters.{fresh_controller}
use Rattle.locks.specs.declared.lock.Lock.{Lock}
use Rattle.locks.specs.Fresh.{fresh_lock}
use Rattle.office.specs.declared.Office.{Office}
use Rattle.steps.specs.Steps.{Sends, ControllerStep, controller_next, controller_sends, LockStep, lock_next, lock_sends, office_sends}
use Rattle.steps.specs.Ranges.{ControllerFits, LockFits, controller_step_fits, lock_step_fits}

-- every letter that is sent is within range, whatever word its seal is
abbrev pub SendsInRange : Sizes → Change → Bodies → Type 0
SendsInRange sizes t bs = (b : Body Certificate Basis) → Sends bs b → body_fits sizes t b ≡ true

-- ---- a new unit is within range

-- a new controller at a seat of the vault
abbrev pub NewControllersAreInRange : Type 0
NewControllersAreInRange = (sizes : Sizes) (t : Change) (s : Seat) → seat_fits sizes s ≡ true → ControllerFits sizes t (fresh_controller s)

-- a new lock at a place of the vault
abbrev pub NewLocksAreInRange : Type 0
NewLocksAreInRange = (sizes : Sizes) (p : Place) → place_fits sizes p ≡ true → LockFits sizes (fresh_lock p)

-- ---- and each step keeps it so; what it sends is within range

-- a controller, given a letter within range, or rung, or proposing, with a word as its seal
abbrev pub ControllersStayInRange : Type 0
ControllersStayInRange = (sizes : Sizes) (t : Change) (u : Controller) (s : ControllerStep) (own : Seal) → controller_step_fits sizes s ≡ true → is_word own.0 ≡ true → ControllerFits sizes t u → ControllerFits sizes t (controller_next sizes t u s own)

-- and what it sends
abbrev pub ControllersSendInRange : Type 0
ControllersSendInRange = (sizes : Sizes) (t : Change) (u : Controller) (s : ControllerStep) (own : Seal) → controller_step_fits sizes s ≡ true → is_word own.0 ≡ true → ControllerFits sizes t u → SendsInRange sizes t (controller_sends sizes t u s own)

-- a lock, given any letter at any board
abbrev pub LocksStayInRange : Type 0
LocksStayInRange = (sizes : Sizes) (t : Change) (k : Lock) (m : Meaning) (s : LockStep) → LockFits sizes k → LockFits sizes (lock_next sizes t k m s)

-- and what it sends, given a letter within range
abbrev pub LocksSendInRange : Type 0
LocksSendInRange = (sizes : Sizes) (t : Change) (k : Lock) (m : Meaning) (s : LockStep) → lock_step_fits sizes s ≡ true → LockFits sizes k → SendsInRange sizes t (lock_sends sizes t k m s)

-- what the office sends
abbrev pub OfficeSendsInRange : Type 0
OfficeSendsInRange = (sizes : Sizes) (t : Change) (o : Office) (n : Option ℕ) → SendsInRange sizes t (office_sends o n)

-- the own basis is of the present view or an earlier one
abbrev pub OwnBasisIsNotLater : Type 0
OwnBasisIsNotLater = (sizes : Sizes) (t : Change) (u : Controller) (b : Basis) → ControllerFits sizes t u → u.basis ≡ Some b → b.view.0 ≤ u.view.0

-- ---- so the letters that are sent are read back from their bytes

-- each letter under a word as its seal
abbrev pub ReadBack : Sizes → Change → Bodies → Type 0
ReadBack sizes t bs = (b : Body Certificate Basis) (z : Seal) → Sends bs b → is_word z.0 ≡ true → kept_result (read sizes (layout (letter t b z))) ≡ Ok (letter t b z)

abbrev pub LettersOfControllersAreReadBack : Type 0
LettersOfControllersAreReadBack = (sizes : Sizes) (t : Change) (u : Controller) (s : ControllerStep) (own : Seal) → is_change t.0 ≡ true → controller_step_fits sizes s ≡ true → is_word own.0 ≡ true → ControllerFits sizes t u → ReadBack sizes t (controller_sends sizes t u s own)

abbrev pub LettersOfLocksAreReadBack : Type 0
LettersOfLocksAreReadBack = (sizes : Sizes) (t : Change) (k : Lock) (m : Meaning) (s : LockStep) → is_change t.0 ≡ true → lock_step_fits sizes s ≡ true → LockFits sizes k → ReadBack sizes t (lock_sends sizes t k m s)

abbrev pub LettersOfTheOfficeAreReadBack : Type 0
LettersOfTheOfficeAreReadBack = (sizes : Sizes) (t : Change) (o : Office) (n : Option ℕ) → is_change t.0 ≡ true → ReadBack sizes t (office_sends o n)

-- of every unit of a vault
pub record LettersSentAreReadBack : Type 0 where
  pub of_controllers : LettersOfControllersAreReadBack
  pub of_locks : LettersOfLocksAreReadBack
  pub of_the_office : LettersOfTheOfficeAreReadBack
