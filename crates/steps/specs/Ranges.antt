-- Units within range, for a vault of given sizes: each group names the fields that it reads.
use Rattle.std.specs.Prelude.{◌≡◌, ℕ, ◌+◌, ◌*◌, ◌^◌, ◌<◌, ◌≤◌, Bool, true, false, ◌&&◌, List, length, is_some, Some, None, Option, count_ones, nat_eq, slice_index_or}
use Rattle.terms.specs.declared.numbers.Change.{Change}
use Rattle.terms.specs.declared.numbers.View.{View}
use Rattle.terms.specs.declared.parties.Outcome.{Outcome}
use Rattle.terms.specs.declared.sizes.Sizes.{Sizes}
use Rattle.terms.specs.Numbers.{view_of}
use Rattle.terms.specs.Parties.{leader_of}
use Rattle.terms.specs.Sizes.{seat_count}
use Rattle.letters.specs.declared.sorts.Seal.{Seal}
use Rattle.letters.specs.declared.certificates.Basis.{Basis}
use Rattle.letters.specs.declared.certificates.Order.{Order}
use Rattle.letters.specs.declared.certificates.Vote.{Vote}
use Rattle.letters.specs.Bytes.{map_of}
use Rattle.letters.specs.Certificates.{result_of, certificate_digest, vote_seals}
use Rattle.letters.specs.Ranges.{is_byte, is_word, number_fits, seat_fits, place_fits, rows_fit, votes_within, cancel_unvoted, certificate_fits, grounds_fit, letter_fits}
use Rattle.letters.specs.Sorts.{stands}
use Rattle.letters.specs.Statements.{outcome_number}
use Rattle.ballots.specs.declared.Pair.{Pair}
use Rattle.controllers.specs.declared.controller.Controller.{Controller}
use Rattle.controllers.specs.declared.controller.MoveRecord.{MoveRecord}
use Rattle.controllers.specs.declared.controller.Proposal.{Proposal}
use Rattle.controllers.specs.declared.controller.Round.{Round}
use Rattle.controllers.specs.Rules.{ordered_number, pair_of, false_basis}
use Rattle.locks.specs.declared.lock.Lock.{Lock}
use Rattle.steps.specs.Steps.{ControllerStep, to_controller, rings, proposes, LockStep, to_lock, enrols, declines}

-- an order's number is a key number, and its seal a word
abbrev pub order_fits : Option Order → Bool
order_fits None = true
order_fits (Some o) = number_fits o.number && is_word o.seal.0

-- registered places, order and votes: eight rows each, no place at L or above; votes only of registered places, and only
-- under an order with a number; seals are words
pub record PapersFit (sizes : Sizes) (registered : List (Option Seal)) (order : Option Order) (votes : List (Option Vote)) : Type 0 where
  pub registered_rows : length registered ≡ 8
  pub registered_places : map_of is_some registered < 2 ^ sizes.locks
  pub registered_seals : rows_fit registered ≡ true
  pub ordered : order_fits order ≡ true
  pub vote_rows : length votes ≡ 8
  pub within : votes_within registered votes ≡ true
  pub unvoted : cancel_unvoted (ordered_number order) votes ≡ true
  pub vote_seals_holds : rows_fit (vote_seals votes) ≡ true

-- a held proposal: its certificate is within range and has its outcome and its digest; its seal is a word
pub record ProposalFits (sizes : Sizes) (p : Proposal) : Type 0 where
  pub certificate : certificate_fits sizes p.certificate ≡ true
  pub outcome : p.outcome ≡ result_of p.certificate
  pub digest : p.digest ≡ certificate_digest p.certificate
  pub seal : is_word p.seal.0 ≡ true

-- the seals of assents: sixteen rows, of at most 2f seats of the vault, its view's leader not among them; seals are words
pub record AssentsFit (sizes : Sizes) (t : Change) (v : View) (seals : List (Option Seal)) : Type 0 where
  pub rows : length seals ≡ 16
  pub seats : map_of is_some seals < 2 ^ seat_count sizes
  pub few : count_ones (map_of is_some seals) ≤ 2 * sizes.faults
  pub leaderless : stands (map_of is_some seals) (leader_of sizes t v).0 ≡ false
  pub words : rows_fit seals ≡ true

-- what belongs to a view: assents and their seals are of the same seats, each for the held proposal; none without one
pub record RoundFits (sizes : Sizes) (t : Change) (v : View) (r : Round) : Type 0 where
  pub proposal : (p : Proposal) → r.proposal ≡ Some p → ProposalFits sizes p
  pub assents : AssentsFit sizes t v r.seals
  pub assent_rows : length r.assents ≡ 16
  pub same_seats : map_of is_some r.assents ≡ map_of is_some r.seals
  pub agreeing : (p : Proposal) → r.proposal ≡ Some p → (k : ℕ) (x : Pair) → slice_index_or r.assents k None ≡ Some x → x ≡ pair_of p
  pub none : r.proposal ≡ None → map_of is_some r.seals ≡ 0
  pub confirm_rows : length r.confirms ≡ 16

-- the own basis: of this view or an earlier one, within range, and its outcome is its certificate's result
pub record OwnBasisFits (sizes : Sizes) (t : Change) (v : View) (basis : Option Basis) : Type 0 where
  pub grounds : grounds_fit sizes t (view_of (v.0 + 1)) basis ≡ true
  pub true_result : false_basis basis ≡ false

-- a record of a move: of a view from 1 to 255, with a basis of an earlier view that is within range and has its certificate's result
pub record RecordFits (sizes : Sizes) (t : Change) (r : MoveRecord) : Type 0 where
  pub byte : is_byte r.view.0 ≡ true
  pub above : nat_eq r.view.0 0 ≡ false
  pub grounds : grounds_fit sizes t r.view r.basis ≡ true
  pub true_result : false_basis r.basis ≡ false

-- sixteen rows, with records of seats of the vault only
pub record RecordsFit (sizes : Sizes) (t : Change) (records : List (Option MoveRecord)) : Type 0 where
  pub rows : length records ≡ 16
  pub seats : (k : ℕ) (r : MoveRecord) → slice_index_or records k None ≡ Some r → k < seat_count sizes
  pub each : (k : ℕ) (r : MoveRecord) → slice_index_or records k None ≡ Some r → RecordFits sizes t r

-- a number that was decided is a key number
abbrev pub result_fits : Option Outcome → Bool
result_fits None = true
result_fits (Some x) = number_fits (outcome_number x)

-- a controller within range
pub record ControllerFits (sizes : Sizes) (t : Change) (u : Controller) : Type 0 where
  pub seat : seat_fits sizes u.seat ≡ true
  pub view : is_byte u.view.0 ≡ true
  pub papers : PapersFit sizes u.registered u.order u.votes
  pub round : RoundFits sizes t u.view u.round
  pub basis : OwnBasisFits sizes t u.view u.basis
  pub records : RecordsFit sizes t u.records
  pub result : result_fits u.result ≡ true

-- a lock within range
pub record LockFits (sizes : Sizes) (k : Lock) : Type 0 where
  pub place : place_fits sizes k.place ≡ true
  pub receipt_rows : length k.receipts ≡ 16
  pub result_rows : length k.results ≡ 16

-- a letter that is given is within range; reading gives no other
abbrev pub controller_step_fits : Sizes → ControllerStep → Bool
controller_step_fits sizes (to_controller l) = letter_fits sizes l
controller_step_fits sizes rings = true
controller_step_fits sizes proposes = true

-- the same of a lock
abbrev pub lock_step_fits : Sizes → LockStep → Bool
lock_step_fits sizes (to_lock l) = letter_fits sizes l
lock_step_fits sizes enrols = true
lock_step_fits sizes declines = true
