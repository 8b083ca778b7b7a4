-- What may happen to a unit, and what the unit then becomes and sends.
use Rattle.std.specs.Prelude.{◌≡◌, ℕ, ◌⊎◌, Option}
use Rattle.terms.specs.declared.numbers.Change.{Change}
use Rattle.terms.specs.declared.sizes.Sizes.{Sizes}
use Rattle.letters.specs.declared.sorts.Seal.{Seal}
use Rattle.letters.specs.declared.certificates.Basis.{Basis}
use Rattle.letters.specs.declared.certificates.Certificate.{Certificate}
use Rattle.letters.specs.declared.bodies.Body.{Body}
use Rattle.letters.specs.declared.bodies.Letter.{Letter}
use Rattle.boards.specs.Boards.{Meaning}
use Rattle.posting.specs.declared.few.AtMostTwo.TheVariants.{Nothing, One, Two}
use Rattle.posting.specs.Replies as Replies
use Rattle.posting.specs.Replies.{Bodies, after}
use Rattle.controllers.specs.declared.controller.Controller.{Controller}
use Rattle.controllers.specs.Letters as Controllers
use Rattle.controllers.specs.Rules as ControllerRules
use Rattle.controllers.specs.Rules.{ring_rule, propose_rule}
use Rattle.locks.specs.declared.lock.Lock.{Lock}
use Rattle.locks.specs.Letters as Locks
use Rattle.locks.specs.Rules as LockRules
use Rattle.locks.specs.Rules.{lock_after, board_after, replied, enrol_rule, decline_rule}
use Rattle.office.specs.declared.Office.{Office}
use Rattle.office.specs.Rules.{order_reply}

-- a letter is one of those that are sent
abbrev pub Sends : Bodies → Body Certificate Basis → Type 0
Sends Nothing b = ⊥
Sends (One c) b = c ≡ b
Sends (Two c d) b = (c ≡ b) ⊎ (d ≡ b)

-- what a reply sends; a refusal sends nothing
abbrev pub sent_in : {E U : Type 0} → Replies.Reply E U → Bodies
sent_in (Replies.refused c) = Nothing
sent_in (Replies.served u bs) = bs

-- ---- controllers

-- a controller is given a letter, is rung, or is to propose
pub data ControllerStep : Type 0 where
  to_controller : Letter Certificate Basis → ControllerStep
  rings : ControllerStep
  proposes : ControllerStep

-- what the rules say to it; `own` is the seal under what the controller sends first
unfoldable pub controller_reply : Sizes → Change → Controller → ControllerStep → Seal → ControllerRules.Reply
controller_reply sizes t u (to_controller l) own = Controllers.letter_rule sizes t u l own
controller_reply sizes t u rings own = ring_rule u
controller_reply sizes t u proposes own = propose_rule sizes t u own

-- the controller after the step
abbrev pub controller_next : Sizes → Change → Controller → ControllerStep → Seal → Controller
controller_next sizes t u s own = after u (controller_reply sizes t u s own)

-- what it sends at the step
abbrev pub controller_sends : Sizes → Change → Controller → ControllerStep → Seal → Bodies
controller_sends sizes t u s own = sent_in (controller_reply sizes t u s own)

-- ---- locks

-- a lock is given a letter, is to enrol, or is to decline
pub data LockStep : Type 0 where
  to_lock : Letter Certificate Basis → LockStep
  enrols : LockStep
  declines : LockStep

-- what the rules say to it, at a board
unfoldable pub lock_reply : Sizes → Change → Lock → Meaning → LockStep → LockRules.Reply
lock_reply sizes t k m (to_lock l) = Locks.letter_rule sizes t k m l
lock_reply sizes t k m enrols = enrol_rule k
lock_reply sizes t k m declines = decline_rule k

-- the lock after the step
abbrev pub lock_next : Sizes → Change → Lock → Meaning → LockStep → Lock
lock_next sizes t k m s = lock_after k (lock_reply sizes t k m s)

-- the board after the step
abbrev pub board_next : Sizes → Change → Lock → Meaning → LockStep → Meaning
board_next sizes t k m s = board_after m k.place (lock_reply sizes t k m s)

-- what it sends at the step
abbrev pub lock_sends : Sizes → Change → Lock → Meaning → LockStep → Bodies
lock_sends sizes t k m s = sent_in (replied (lock_reply sizes t k m s))

-- ---- the office

-- the office after it is to order a number, or a cancel
abbrev pub office_next : Office → Option ℕ → Office
office_next o n = after o (order_reply o n)

-- what it sends then
abbrev pub office_sends : Office → Option ℕ → Bodies
office_sends o n = sent_in (order_reply o n)
