-- What holds of every step of a unit, whatever its sizes, change, letters and seals are.
use Rattle.std.specs.Prelude.{◌≡◌, ℕ, ◌<◌, ◌≤◌, true, length, is_some, Some, None, Option, ◌≢◌, nat_le, slice_index_or}
use Rattle.terms.specs.declared.numbers.Change.{Change}
use Rattle.terms.specs.declared.numbers.Place.{Place}
use Rattle.terms.specs.declared.numbers.Seat.{Seat}
use Rattle.terms.specs.declared.numbers.View.{View}
use Rattle.terms.specs.declared.parties.Outcome.{Outcome}
use Rattle.terms.specs.declared.sizes.Sizes.{Sizes}
use Rattle.letters.specs.declared.sorts.Digest.{Digest}
use Rattle.letters.specs.declared.sorts.Seal.{Seal}
use Rattle.letters.specs.declared.certificates.Basis.{Basis}
use Rattle.letters.specs.declared.certificates.Certificate.{Certificate}
use Rattle.letters.specs.declared.certificates.Order.{Order}
use Rattle.letters.specs.declared.bodies.Body.{Body}
use Rattle.letters.specs.declared.bodies.Body.TheVariants as B
use Rattle.letters.specs.Certificates.{certificate_digest}
use Rattle.boards.specs.Boards.{Meaning, door_at, in_force}
use Rattle.posting.specs.declared.few.AtMostTwo.TheVariants.{Nothing}
use Rattle.posting.specs.Replies.{Bodies}
use Rattle.controllers.specs.declared.controller.Controller.{Controller}
use Rattle.controllers.specs.declared.controller.Proposal.{Proposal}
use Rattle.locks.specs.declared.lock.Lock.{Lock}
use Rattle.locks.specs.Rules.{rank}
use Rattle.office.specs.declared.Office.{Office}
use Rattle.steps.specs.Steps.{Sends, ControllerStep, controller_next, controller_sends, LockStep, lock_next, board_next, office_next, office_sends}

-- ---- controllers

-- a controller keeps its seat
abbrev pub SeatStays : Type 0
SeatStays = (sizes : Sizes) (t : Change) (u : Controller) (s : ControllerStep) (own : Seal) → (controller_next sizes t u s own).seat ≡ u.seat

-- a view never falls
abbrev pub ViewNeverFalls : Type 0
ViewNeverFalls = (sizes : Sizes) (t : Change) (u : Controller) (s : ControllerStep) (own : Seal) → u.view.0 ≤ (controller_next sizes t u s own).view.0

-- a result, once held, stays
abbrev pub ResultStays : Type 0
ResultStays = (sizes : Sizes) (t : Change) (u : Controller) (s : ControllerStep) (own : Seal) (x : Outcome) → u.result ≡ Some x → (controller_next sizes t u s own).result ≡ Some x

-- an order, once held, stays
abbrev pub OrderStays : Type 0
OrderStays = (sizes : Sizes) (t : Change) (u : Controller) (s : ControllerStep) (own : Seal) (o : Order) → u.order ≡ Some o → (controller_next sizes t u s own).order ≡ Some o

-- a place, once registered, stays registered
abbrev pub RegisteredPlacesStay : Type 0
RegisteredPlacesStay = (sizes : Sizes) (t : Change) (u : Controller) (s : ControllerStep) (own : Seal) (p : ℕ) → is_some (slice_index_or u.registered p None) ≡ true → is_some (slice_index_or (controller_next sizes t u s own).registered p None) ≡ true

-- once an order is held, each place that is registered after a step was registered before it
abbrev pub RegisteredPlacesNeverGrow : Type 0
RegisteredPlacesNeverGrow = (sizes : Sizes) (t : Change) (u : Controller) (s : ControllerStep) (own : Seal) → is_some u.order ≡ true → (p : ℕ) → is_some (slice_index_or (controller_next sizes t u s own).registered p None) ≡ true → is_some (slice_index_or u.registered p None) ≡ true

-- a basis is held, of this view or a later one
pub record BasisFrom (v : View) (held : Option Basis) : Type 0 where
  pub basis : Basis
  pub holds : held ≡ Some basis
  pub no_lower : v.0 ≤ basis.view.0

-- a basis is never lost, and its view never falls
abbrev pub BasisNeverFalls : Type 0
BasisNeverFalls = (sizes : Sizes) (t : Change) (u : Controller) (s : ControllerStep) (own : Seal) (b : Basis) → u.basis ≡ Some b → b.view.0 ≤ u.view.0 → BasisFrom b.view (controller_next sizes t u s own).basis

-- a proposal or an assent: its sender's voice for an outcome in a view, with the digest of a certificate
pub record Voice : Type 0 where
  pub sender : Seat
  pub view : View
  pub outcome : Outcome
  pub digest : Digest

abbrev pub voice : Seat → View → Outcome → Digest → Voice
voice s v x d = record { sender = s; view = v; outcome = x; digest = d }

-- the voice that a letter gives, if it is a proposal or an assent
abbrev pub voice_of : Body Certificate Basis → Option Voice
voice_of (B.Enrol p) = None
voice_of (B.Receipt s p) = None
voice_of (B.Order n) = None
voice_of (B.Summons s n z) = None
voice_of (B.Vote p n a) = None
voice_of (B.Proposal s v x c m) = Some (voice s v x (certificate_digest c))
voice_of (B.Assent s v x d) = Some (voice s v x d)
voice_of (B.Confirm s v x d) = None
voice_of (B.Result s x) = None
voice_of (B.Move s v b) = None

-- a proposal of this outcome and digest is held
pub record HoldsFor (x : Outcome) (d : Digest) (held : Option Proposal) : Type 0 where
  pub proposal : Proposal
  pub holds : held ≡ Some proposal
  pub outcome : proposal.outcome ≡ x
  pub digest : proposal.digest ≡ d

-- the own voice, in the present view, by a controller that held no proposal; then it holds one of that outcome and digest
pub record SpokenOnce (u v : Controller) (k : Voice) : Type 0 where
  pub sender : k.sender ≡ u.seat
  pub present : k.view ≡ u.view
  pub same_view_holds : v.view ≡ u.view
  pub unspoken : u.round.proposal ≡ None
  pub holds : HoldsFor k.outcome k.digest v.round.proposal

-- at most one proposal or assent is sent in a view: only without a held proposal, and then one is held
abbrev pub OneVoiceAView : Type 0
OneVoiceAView = (sizes : Sizes) (t : Change) (u : Controller) (s : ControllerStep) (own : Seal) (b : Body Certificate Basis) (k : Voice) → Sends (controller_sends sizes t u s own) b → voice_of b ≡ Some k → SpokenOnce u (controller_next sizes t u s own) k

-- while the view stays the same a held proposal stays
abbrev pub ProposalStaysInItsView : Type 0
ProposalStaysInItsView = (sizes : Sizes) (t : Change) (u : Controller) (s : ControllerStep) (own : Seal) (p : Proposal) → u.round.proposal ≡ Some p → (controller_next sizes t u s own).view.0 ≡ u.view.0 → (controller_next sizes t u s own).round.proposal ≡ Some p

-- the own confirm, in the present view, of the held proposal's outcome and digest; then the own basis is of this view
pub record ConfirmedNow (u v : Controller) (q : Seat) (w : View) (x : Outcome) (d : Digest) : Type 0 where
  pub sender : q ≡ u.seat
  pub present : w ≡ u.view
  pub same_view_holds : v.view ≡ u.view
  pub held : HoldsFor x d u.round.proposal
  pub basis : Basis
  pub based : v.basis ≡ Some basis
  pub basis_view : basis.view ≡ u.view
  pub basis_outcome : basis.outcome ≡ x

-- a confirm is sent only in the present view, and of the held proposal
abbrev pub ConfirmOnlyInThePresentView : Type 0
ConfirmOnlyInThePresentView = (sizes : Sizes) (t : Change) (u : Controller) (s : ControllerStep) (own : Seal) (q : Seat) (w : View) (x : Outcome) (d : Digest) → Sends (controller_sends sizes t u s own) (B.Confirm q w x d) → ConfirmedNow u (controller_next sizes t u s own) q w x d

-- the own result: none was held, and it is held then
pub record ResultTaken (u v : Controller) (q : Seat) (x : Outcome) : Type 0 where
  pub sender : q ≡ u.seat
  pub before : u.result ≡ None
  pub taken : v.result ≡ Some x

-- a result is sent only when it is taken
abbrev pub ResultSentWhenTaken : Type 0
ResultSentWhenTaken = (sizes : Sizes) (t : Change) (u : Controller) (s : ControllerStep) (own : Seal) (q : Seat) (x : Outcome) → Sends (controller_sends sizes t u s own) (B.Result q x) → ResultTaken u (controller_next sizes t u s own) q x

-- the own move, to a later view, with the own basis; then it is the present view
pub record MovedOn (u v : Controller) (q : Seat) (w : View) (b : Option Basis) : Type 0 where
  pub sender : q ≡ u.seat
  pub later : u.view.0 < w.0
  pub entered : v.view ≡ w
  pub basis : b ≡ u.basis

-- a move is sent only to a later view, with the basis that is held, and the view is entered
abbrev pub MoveOnlyToALaterView : Type 0
MoveOnlyToALaterView = (sizes : Sizes) (t : Change) (u : Controller) (s : ControllerStep) (own : Seal) (q : Seat) (w : View) (b : Option Basis) → Sends (controller_sends sizes t u s own) (B.Move q w b) → MovedOn u (controller_next sizes t u s own) q w b

-- the own receipt for a place, before any order; then the place is registered
pub record ReceiptGiven (u v : Controller) (q : Seat) (p : Place) : Type 0 where
  pub sender : q ≡ u.seat
  pub unordered : u.order ≡ None
  pub registered : p.0 < length u.registered → is_some (slice_index_or v.registered p.0 None) ≡ true

-- a receipt is sent only before an order is held, for a place that is registered then
abbrev pub ReceiptOnlyBeforeAnOrder : Type 0
ReceiptOnlyBeforeAnOrder = (sizes : Sizes) (t : Change) (u : Controller) (s : ControllerStep) (own : Seal) (q : Seat) (p : Place) → Sends (controller_sends sizes t u s own) (B.Receipt q p) → ReceiptGiven u (controller_next sizes t u s own) q p

-- ---- locks

-- a lock keeps its place
abbrev pub PlaceStays : Type 0
PlaceStays = (sizes : Sizes) (t : Change) (k : Lock) (m : Meaning) (s : LockStep) → (lock_next sizes t k m s).place ≡ k.place

-- the standings do not go back
abbrev pub StandingNeverFalls : Type 0
StandingNeverFalls = (sizes : Sizes) (t : Change) (k : Lock) (m : Meaning) (s : LockStep) → rank k.standing ≤ rank (lock_next sizes t k m s).standing

-- the same lock and the same board, so the same number in force at the lock's place
pub record StaysAsItIs (k k' : Lock) (m m' : Meaning) : Type 0 where
  pub lock : k' ≡ k
  pub board : m' ≡ m
  pub force : in_force m' k.place ≡ in_force m k.place

-- a lock that has ended stays as it is, and so does the board at its steps
abbrev pub EndedLockStays : Type 0
EndedLockStays = (sizes : Sizes) (t : Change) (k : Lock) (m : Meaning) (s : LockStep) → nat_le 4 (rank k.standing) ≡ true → StaysAsItIs k (lock_next sizes t k m s) m (board_next sizes t k m s)

-- a lock touches only its own place of the board
abbrev pub OtherPlacesStay : Type 0
OtherPlacesStay = (sizes : Sizes) (t : Change) (k : Lock) (m : Meaning) (s : LockStep) (q : Place) → (q.0 ≢ k.place.0) → door_at (board_next sizes t k m s) q ≡ door_at m q

-- ---- the office

-- an office that has ordered stays so and sends no more
pub record OrderedBefore (o o' : Office) (sent : Bodies) : Type 0 where
  pub office : o' ≡ o
  pub nothing_sent : sent ≡ Nothing

-- the office orders once
abbrev pub OfficeOrdersOnce : Type 0
OfficeOrdersOnce = (o : Office) (n : Option ℕ) → o.ordered ≡ true → OrderedBefore o (office_next o n) (office_sends o n)
