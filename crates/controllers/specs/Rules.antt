-- The rules of a controller: guards in order, then what the controller becomes and what it sends.
use Rattle.std.specs.Prelude.{◌≡◌, ℕ, ◌+◌, ◌*◌, Bool, true, false, cond, not, ◌&&◌, ◌||◌, List, replicate, is_some, Some, None, Ok, Err, Option, Result, ◌==◌, nat_eq, nat_le, nat_lt, slice_index_or, slice_set}
use Rattle.terms.specs.declared.numbers.Change.{Change}
use Rattle.terms.specs.declared.numbers.KeyNumber.{KeyNumber}
use Rattle.terms.specs.declared.numbers.Place.{Place}
use Rattle.terms.specs.declared.numbers.Seat.{Seat}
use Rattle.terms.specs.declared.numbers.View.{View}
use Rattle.terms.specs.declared.parties.Outcome.{Outcome}
use Rattle.terms.specs.declared.refusals.RuleCause.{RuleCause}
use Rattle.terms.specs.declared.refusals.RuleCause.TheVariants as R
use Rattle.terms.specs.declared.sizes.Sizes.{Sizes}
use Rattle.terms.specs.Numbers.{view_of}
use Rattle.terms.specs.Parties.{leader_of}
use Rattle.terms.specs.Sizes.{quorum_of}
use Rattle.letters.specs.declared.sorts.Answer.{Answer}
use Rattle.letters.specs.declared.sorts.Digest.{Digest}
use Rattle.letters.specs.declared.sorts.Seal.{Seal}
use Rattle.letters.specs.declared.sorts.SeatSet.{SeatSet}
use Rattle.letters.specs.declared.certificates.Basis.{Basis}
use Rattle.letters.specs.declared.certificates.Certificate.{Certificate}
use Rattle.letters.specs.declared.certificates.Order.{Order}
use Rattle.letters.specs.declared.certificates.Vote.{Vote}
use Rattle.letters.specs.declared.bodies.Body.{Body}
use Rattle.letters.specs.declared.bodies.Body.TheVariants as B
use Rattle.letters.specs.Certificates.{result_of, certificate_digest}
use Rattle.letters.specs.Sorts.{seat_set}
use Rattle.ballots.specs.declared.Pair.{Pair}
use Rattle.ballots.specs.Counts.{count_agree}
use Rattle.ballots.specs.Kinds.{same_outcome, same_pair}
use Rattle.posting.specs.declared.few.AtMostTwo.TheVariants.{Nothing, One, Two}
use Rattle.posting.specs.Replies as Replies
use Rattle.posting.specs.Replies.{Bodies, refused, served, refuse_if, given, passing}
use Rattle.controllers.specs.declared.controller.Controller.{Controller}
use Rattle.controllers.specs.declared.controller.Draft.{Draft}
use Rattle.controllers.specs.declared.controller.MoveRecord.{MoveRecord}
use Rattle.controllers.specs.declared.controller.Proposal.{Proposal}
use Rattle.controllers.specs.declared.controller.Round.{Round}
use Rattle.controllers.specs.Choice.{same_view, best, all_recorded, covers, picked}

-- refused, or served: the controller, and what it sends
abbrev pub Reply : Type 0
Reply = Replies.Reply RuleCause Controller

-- a rule was followed: what it sends or its refusal is answered, and the controller is what it makes of it
pub record Follows (u : Controller) (r : Reply) (said : Result Bodies RuleCause) (v : Controller) : Type 0 where
  pub answer : said ≡ Replies.sends r
  pub unit : v ≡ Replies.after u r

-- ---- the controller with a field replaced

abbrev pub with_registered : Controller → List (Option Seal) → Controller
with_registered u x = record { seat = u.seat; view = u.view; registered = x; order = u.order; votes = u.votes; round = u.round; basis = u.basis; records = u.records; result = u.result }

abbrev pub with_order : Controller → Option Order → Controller
with_order u x = record { seat = u.seat; view = u.view; registered = u.registered; order = x; votes = u.votes; round = u.round; basis = u.basis; records = u.records; result = u.result }

abbrev pub with_votes : Controller → List (Option Vote) → Controller
with_votes u x = record { seat = u.seat; view = u.view; registered = u.registered; order = u.order; votes = x; round = u.round; basis = u.basis; records = u.records; result = u.result }

abbrev pub with_round : Controller → Round → Controller
with_round u x = record { seat = u.seat; view = u.view; registered = u.registered; order = u.order; votes = u.votes; round = x; basis = u.basis; records = u.records; result = u.result }

abbrev pub with_basis : Controller → Option Basis → Controller
with_basis u x = record { seat = u.seat; view = u.view; registered = u.registered; order = u.order; votes = u.votes; round = u.round; basis = x; records = u.records; result = u.result }

abbrev pub with_records : Controller → List (Option MoveRecord) → Controller
with_records u x = record { seat = u.seat; view = u.view; registered = u.registered; order = u.order; votes = u.votes; round = u.round; basis = u.basis; records = x; result = u.result }

abbrev pub with_result : Controller → Option Outcome → Controller
with_result u x = record { seat = u.seat; view = u.view; registered = u.registered; order = u.order; votes = u.votes; round = u.round; basis = u.basis; records = u.records; result = x }

-- ---- enrol: 9 an order is held; 10 registered; the place is registered with its seal, and a receipt is sent

abbrev pub may_enrol : Controller → Place → Result (Unit {0}) RuleCause
may_enrol u p =
    refuse_if (is_some u.order) R.OutOfTurn
    (refuse_if (is_some (slice_index_or u.registered p.0 None)) R.Repeated (Ok tt))

abbrev pub enrol_rule : Controller → Place → Seal → Reply
enrol_rule u p z = passing (may_enrol u p) (served (with_registered u (slice_set u.registered p.0 (Some z))) (One (B.Receipt u.seat p)))

-- ---- order: 10 the same one is held; 12 another is held; it is held, and a summons is sent if it has a number

abbrev pub same_number : Option KeyNumber → Option KeyNumber → Bool
same_number None None = true
same_number None (Some n) = false
same_number (Some m) None = false
same_number (Some m) (Some n) = m.0 == n.0

abbrev pub may_order : Option Order → Option KeyNumber → Result (Unit {0}) RuleCause
may_order None n = Ok tt
may_order (Some o) n = refuse_if (same_number o.number n) R.Repeated (Err R.Differs)

abbrev pub order : Option KeyNumber → Seal → Order
order n z = record { number = n; seal = z }

abbrev pub summons : Seat → Option KeyNumber → Seal → Bodies
summons s None z = Nothing
summons s (Some n) z = One (B.Summons s n z)

abbrev pub order_rule : Controller → Option KeyNumber → Seal → Reply
order_rule u n z = passing (may_order u.order n) (served (with_order u (Some (order n z))) (summons u.seat n z))

-- ---- vote: 9 no order with a number, or not registered; 12 another number; 10 has voted; it is kept with its seal

abbrev pub ordered_number : Option Order → Option KeyNumber
ordered_number None = None
ordered_number (Some o) = o.number

abbrev pub may_vote : Controller → Place → KeyNumber → Result (Unit {0}) RuleCause
may_vote u p n =
    given (ordered_number u.order) R.OutOfTurn (λ m.
    refuse_if (not (is_some (slice_index_or u.registered p.0 None))) R.OutOfTurn
    (refuse_if (not (m.0 == n.0)) R.Differs
    (refuse_if (is_some (slice_index_or u.votes p.0 None)) R.Repeated (Ok tt))))

abbrev pub vote_rule : Controller → Place → KeyNumber → Answer → Seal → Reply
vote_rule u p n a z = passing (may_vote u p n) (served (with_votes u (slice_set u.votes p.0 (Some (record { answer = a; seal = z })))) Nothing)

-- ---- the choice, and holding a proposal

-- the highest basis among the movers' records of this view; none in view 0
abbrev pub choice : Controller → SeatSet → Option Basis
choice u m = cond (u.view.0 == 0) None (best u.records m.0 u.view 16)

abbrev pub pair : Outcome → Digest → Pair
pair x d = record { outcome = x; digest = d }

abbrev pub pair_of : Proposal → Pair
pair_of p = pair p.outcome p.digest

-- an order that is held stays; else the one of the certificate is held
abbrev pub or_else : Option Order → Order → Option Order
or_else None o = Some o
or_else (Some h) o = Some h

abbrev pub with_proposal : Round → Proposal → Round
with_proposal r p = record { proposal = Some p; assents = r.assents; seals = r.seals; confirms = r.confirms }

-- the proposal is held, and its order if none is
abbrev pub hold : Controller → Proposal → Controller
hold u p = with_round (with_order u (or_else u.order p.certificate.order)) (with_proposal u.round p)

-- an assent is recorded with its seal
abbrev pub assented : Round → Seat → Pair → Seal → Round
assented r s x z = record { proposal = r.proposal; assents = slice_set r.assents s.0 (Some x); seals = slice_set r.seals s.0 (Some z); confirms = r.confirms }

-- a confirm is recorded
abbrev pub confirmed : Round → Seat → Pair → Round
confirmed r s x = record { proposal = r.proposal; assents = r.assents; seals = r.seals; confirms = slice_set r.confirms s.0 (Some x) }

-- ---- proposal: 11 not the own view; 9 the own seat leads; 10 one is held; 13 the certificate has another result; 16 a mover's
-- record of this view is missing; 15 a choice exists, and outcome or digest differ; 14 no choice, and a registered place is not
-- enrolled in it; it is held, and its order if none is; the own assent is recorded and sent

abbrev pub may_choose : Controller → Outcome → Certificate → Digest → Option Basis → Result (Unit {0}) RuleCause
may_choose u x c d (Some b) = refuse_if (not (same_pair (pair x d) (pair b.outcome (certificate_digest b.certificate)))) R.AgainstChoice (Ok tt)
may_choose u x c d None = refuse_if (not (covers u.registered c.enrolled 8)) R.PlaceLeftOut (Ok tt)

abbrev pub leads : Sizes → Change → Controller → Bool
leads sizes t u = (leader_of sizes t u.view).0 == u.seat.0

abbrev pub may_hold : Sizes → Change → Controller → View → Outcome → Certificate → Digest → SeatSet → Result (Unit {0}) RuleCause
may_hold sizes t u v x c d m =
    refuse_if (not (v.0 == u.view.0)) R.OtherView
    (refuse_if (leads sizes t u) R.OutOfTurn
    (refuse_if (is_some u.round.proposal) R.Repeated
    (refuse_if (not (same_outcome (result_of c) x)) R.FalseResult
    (refuse_if (not (all_recorded u.records m.0 u.view 16)) R.MoversMissing
    (may_choose u x c d (choice u m))))))

abbrev pub proposal : Outcome → Certificate → Digest → Seal → Proposal
proposal x c d z = record { outcome = x; digest = d; certificate = c; seal = z }

-- `own` is the seal that the controller puts under its assent
abbrev pub held : Controller → Proposal → Seal → Controller
held u p own = with_round (hold u p) (assented (hold u p).round u.seat (pair_of p) own)

abbrev pub assenting : Controller → Proposal → Seal → Reply
assenting u p own = served (held u p own) (One (B.Assent u.seat u.view p.outcome p.digest))

abbrev pub judged : Sizes → Change → Controller → View → SeatSet → Proposal → Seal → Reply
judged sizes t u v m p own = passing (may_hold sizes t u v p.outcome p.certificate p.digest m) (assenting u p own)

-- `z` is the leader's seal
abbrev pub proposal_rule : Sizes → Change → Controller → View → Outcome → Certificate → SeatSet → Seal → Seal → Reply
proposal_rule sizes t u v x c m z own = judged sizes t u v m (proposal x c (certificate_digest c) z) own

-- in two steps: the proposal is held and assented to; the own assent is recorded once it has its seal
abbrev pub holding : Sizes → Change → Controller → View → SeatSet → Proposal → Reply
holding sizes t u v m p = passing (may_hold sizes t u v p.outcome p.certificate p.digest m) (served (hold u p) (One (B.Assent u.seat u.view p.outcome p.digest)))

abbrev pub seconded : Controller → Seal → Option Proposal → Controller
seconded u own None = u
seconded u own (Some p) = with_round u (assented u.round u.seat (pair_of p) own)

-- ---- taking the result

-- the own confirm was sent in this view: the own basis is of this view
abbrev pub confirmed_here : Controller → Bool
confirmed_here u = elim u.basis [ None ↦ false | Some b ↦ nat_eq b.view.0 u.view.0 ]

-- confirmed in this view, 2f + 1 confirms recorded, no result held
abbrev pub concludes : Sizes → Controller → Pair → Bool
concludes sizes u x = confirmed_here u && (nat_le (quorum_of sizes) (count_agree same_pair x u.round.confirms) && not (is_some u.result))

abbrev pub concluded : Sizes → Controller → Pair → Controller
concluded sizes u x = cond (concludes sizes u x) (with_result u (Some x.outcome)) u

-- ---- assent and confirm: 11 not the own view; 9 no proposal is held; 12 outcome or digest differ

abbrev pub may_second : Controller → View → Pair → Result (Unit {0}) RuleCause
may_second u v x =
    refuse_if (not (v.0 == u.view.0)) R.OtherView
    (given u.round.proposal R.OutOfTurn (λ p. refuse_if (not (same_pair x (pair_of p))) R.Differs (Ok tt)))

-- ---- assent: 11; 9 no proposal is held; 12 outcome or digest differ; 10 the seat is recorded, or 2f are; recorded; the 2f-th makes
-- the basis, and the own confirm is recorded and sent

abbrev pub may_assent : Sizes → Controller → Seat → View → Pair → Result (Unit {0}) RuleCause
may_assent sizes u s v x =
    refuse_if (not (v.0 == u.view.0)) R.OtherView
    (given u.round.proposal R.OutOfTurn (λ p.
    refuse_if (not (same_pair x (pair_of p))) R.Differs
    (refuse_if (is_some (slice_index_or u.round.assents s.0 None) || nat_le (2 * sizes.faults) (count_agree same_pair x u.round.assents)) R.Repeated (Ok tt))))

abbrev pub basis_from : Controller → Proposal → Basis
basis_from u p = record { view = u.view; outcome = p.outcome; certificate = p.certificate; leader_seal = p.seal; assents = u.round.seals }

-- the basis is made, and the own confirm recorded
abbrev pub confirmed_own : Controller → Proposal → Pair → Controller
confirmed_own u p x = with_round (with_basis u (Some (basis_from u p))) (confirmed u.round u.seat x)

abbrev pub confirm_body : Controller → Pair → Body Certificate Basis
confirm_body u x = B.Confirm u.seat u.view x.outcome x.digest

abbrev pub result_body : Controller → Pair → Body Certificate Basis
result_body u x = B.Result u.seat x.outcome

unfoldable pub confirming : Sizes → Controller → Pair → Option Proposal → Reply
confirming sizes u x None = served u Nothing
confirming sizes u x (Some p) =
    served (concluded sizes (confirmed_own u p x) x)
    (cond (concludes sizes (confirmed_own u p x) x) (Two (confirm_body u x) (result_body u x)) (One (confirm_body u x)))

abbrev pub assent_counted : Sizes → Controller → Pair → Reply
assent_counted sizes u x = cond (nat_le (2 * sizes.faults) (count_agree same_pair x u.round.assents)) (confirming sizes u x u.round.proposal) (served u Nothing)

abbrev pub assent_rule : Sizes → Controller → Seat → View → Pair → Seal → Reply
assent_rule sizes u s v x z = passing (may_assent sizes u s v x) (assent_counted sizes (with_round u (assented u.round s x z)) x)

-- ---- confirm: 11; 9 no proposal is held; 12 outcome or digest differ; 10 the seat is recorded; recorded

abbrev pub may_confirm : Controller → Seat → View → Pair → Result (Unit {0}) RuleCause
may_confirm u s v x =
    refuse_if (not (v.0 == u.view.0)) R.OtherView
    (given u.round.proposal R.OutOfTurn (λ p.
    refuse_if (not (same_pair x (pair_of p))) R.Differs
    (refuse_if (is_some (slice_index_or u.round.confirms s.0 None)) R.Repeated (Ok tt))))

abbrev pub confirm_counted : Sizes → Controller → Pair → Reply
confirm_counted sizes u x = served (concluded sizes u x) (cond (concludes sizes u x) (One (result_body u x)) Nothing)

abbrev pub confirm_rule : Sizes → Controller → Seat → View → Pair → Reply
confirm_rule sizes u s v x = passing (may_confirm u s v x) (confirm_counted sizes (with_round u (confirmed u.round s x)) x)

-- ---- a view change forgets proposal, assents and confirms, stores the own record with the own basis, and sends a move

abbrev pub empty_round : Round
empty_round = record { proposal = None; assents = replicate 16 None; seals = replicate 16 None; confirms = replicate 16 None }

abbrev pub move_record : View → Option Basis → MoveRecord
move_record v b = record { view = v; basis = b }

abbrev pub entered : Controller → View → Controller
entered u v = record { seat = u.seat; view = v; registered = u.registered; order = u.order; votes = u.votes; round = empty_round; basis = u.basis; records = slice_set u.records u.seat.0 (Some (move_record v u.basis)); result = u.result }

abbrev pub enter_view : Controller → View → Reply
enter_view u v = served (entered u v) (One (B.Move u.seat v u.basis))

-- ---- move: 11 below the own view; 9 the own view, and a proposal is held; 10 the seat's record names this view or a later one; 13 the
-- certificate has another result; the seat's record is replaced; if the view is above the own and f + 1 records name it, it is entered

abbrev pub names_from : Option MoveRecord → View → Bool
names_from None v = false
names_from (Some r) v = nat_le v.0 r.view.0

abbrev pub false_basis : Option Basis → Bool
false_basis None = false
false_basis (Some b) = not (same_outcome (result_of b.certificate) b.outcome)

abbrev pub may_move : Controller → Seat → View → Option Basis → Result (Unit {0}) RuleCause
may_move u s v b =
    refuse_if (nat_lt v.0 u.view.0) R.OtherView
    (refuse_if (v.0 == u.view.0 && is_some u.round.proposal) R.OutOfTurn
    (refuse_if (names_from (slice_index_or u.records s.0 None) v) R.Repeated
    (refuse_if (false_basis b) R.FalseResult (Ok tt))))

abbrev pub record_count : Controller → View → ℕ
record_count u v = count_agree same_view (move_record v None) u.records

abbrev pub move_counted : Sizes → Controller → View → Reply
move_counted sizes u v = cond (nat_lt u.view.0 v.0 && nat_le (sizes.faults + 1) (record_count u v)) (enter_view u v) (served u Nothing)

abbrev pub move_rule : Sizes → Controller → Seat → View → Option Basis → Reply
move_rule sizes u s v b = passing (may_move u s v b) (move_counted sizes (with_records u (slice_set u.records s.0 (Some (move_record v b)))) v)

-- ---- ring: 17 view 255; enters the next view

abbrev pub may_ring : Controller → Result (Unit {0}) RuleCause
may_ring u = refuse_if (nat_le 255 u.view.0) R.LastView (Ok tt)

abbrev pub ring_rule : Controller → Reply
ring_rule u = passing (may_ring u) (enter_view u (view_of (u.view.0 + 1)))

-- ---- propose: 9 not the leader; 10 a proposal is held; 16 view above 0, and fewer than 2f + 1 records of it; 9 no choice and no order;
-- a proposal is held and sent, and its order held if none is

-- none in view 0; else the 2f + 1 lowest seats with a record of this view
abbrev pub movers : Sizes → Controller → SeatSet
movers sizes u = cond (u.view.0 == 0) (seat_set 0) (seat_set (picked u.records u.view (quorum_of sizes) 16).map)

abbrev pub own_certificate : Controller → Order → Certificate
own_certificate u o = record { order = o; enrolled = u.registered; votes = u.votes }

abbrev pub draft : Outcome → Certificate → SeatSet → Draft
draft x c m = record { outcome = x; certificate = c; movers = m }

-- without a choice: the own order, registered places and votes
abbrev pub own_draft : Controller → SeatSet → Option Order → Option Draft
own_draft u m None = None
own_draft u m (Some o) = Some (draft (result_of (own_certificate u o)) (own_certificate u o) m)

-- a choice is repeated
abbrev pub draft_from : Controller → SeatSet → Option Basis → Option Draft
draft_from u m (Some b) = Some (draft b.outcome b.certificate m)
draft_from u m None = own_draft u m u.order

abbrev pub draft_of : Sizes → Controller → Option Draft
draft_of sizes u = draft_from u (movers sizes u) (choice u (movers sizes u))

abbrev pub drafted : Option Draft → Result Draft RuleCause
drafted None = Err R.OutOfTurn
drafted (Some d) = Ok d

abbrev pub may_propose : Sizes → Change → Controller → Result Draft RuleCause
may_propose sizes t u =
    cond (not (leads sizes t u)) (Err R.OutOfTurn)
    (cond (is_some u.round.proposal) (Err R.Repeated)
    (cond (not (u.view.0 == 0) && nat_lt (record_count u u.view) (quorum_of sizes)) (Err R.MoversMissing)
    (drafted (draft_of sizes u))))

-- `own` is the seal that the leader puts under its proposal
abbrev pub drawn_up : Controller → Draft → Seal → Controller
drawn_up u d own = hold u (proposal d.outcome d.certificate (certificate_digest d.certificate) own)

abbrev pub proposed : Controller → Draft → Seal → Reply
proposed u d own = served (drawn_up u d own) (One (B.Proposal u.seat u.view d.outcome d.certificate d.movers))

abbrev pub proposing : Controller → Result Draft RuleCause → Seal → Reply
proposing u (Err c) own = refused c
proposing u (Ok d) own = proposed u d own

abbrev pub propose_rule : Sizes → Change → Controller → Seal → Reply
propose_rule sizes t u own = proposing u (may_propose sizes t u) own
