-- Which rule of a controller a letter falls under.
use Rattle.std.specs.Prelude.{cond, not, replicate, None, ◌==◌}
use Rattle.terms.specs.declared.numbers.Change.{Change}
use Rattle.terms.specs.declared.numbers.Seat.{Seat}
use Rattle.terms.specs.declared.refusals.RuleCause.TheVariants as R
use Rattle.terms.specs.declared.sizes.Sizes.{Sizes}
use Rattle.terms.specs.Numbers.{view_of}
use Rattle.letters.specs.declared.sorts.Seal.{Seal}
use Rattle.letters.specs.declared.certificates.Basis.{Basis}
use Rattle.letters.specs.declared.certificates.Certificate.{Certificate}
use Rattle.letters.specs.declared.bodies.Body.{Body}
use Rattle.letters.specs.declared.bodies.Body.TheVariants.{Enrol, Receipt, Order, Summons, Vote, Proposal, Assent, Confirm, Result, Move}
use Rattle.letters.specs.declared.bodies.Letter.{Letter}
use Rattle.letters.specs.Certificates.{certificate_digest}
use Rattle.letters.specs.Sorts.{seal}
use Rattle.posting.specs.Replies.{refused}
use Rattle.controllers.specs.declared.controller.Controller.{Controller}
use Rattle.controllers.specs.Rules.{Reply, pair, empty_round, enrol_rule, order_rule, vote_rule, proposal, holding, seconded, proposal_rule, assent_rule, confirm_rule, move_rule}

-- receipts, summonses and results are for locks: 8; `z` is the letter's seal, `own` the one that the controller puts under its own assent
abbrev pub body_rule : Sizes → Change → Controller → Body Certificate Basis → Seal → Seal → Reply
body_rule sizes t u (Enrol p) z own = enrol_rule u p z
body_rule sizes t u (Receipt s p) z own = refused R.OtherUnit
body_rule sizes t u (Order n) z own = order_rule u n z
body_rule sizes t u (Summons s n o) z own = refused R.OtherUnit
body_rule sizes t u (Vote p n a) z own = vote_rule u p n a z
body_rule sizes t u (Proposal s v x c m) z own = proposal_rule sizes t u v x c m z own
body_rule sizes t u (Assent s v x d) z own = assent_rule sizes u s v (pair x d) z
body_rule sizes t u (Confirm s v x d) z own = confirm_rule sizes u s v (pair x d)
body_rule sizes t u (Result s x) z own = refused R.OtherUnit
body_rule sizes t u (Move s v b) z own = move_rule sizes u s v b

-- 7 for a letter of another change, before its kind is looked at
abbrev pub letter_rule : Sizes → Change → Controller → Letter Certificate Basis → Seal → Reply
letter_rule sizes t u l own = cond (not (l.change.0 == t.0)) (refused R.OtherChange) (body_rule sizes t u l.body l.seal own)

-- a new controller: view 0, and nothing registered, ordered, held or recorded
abbrev pub fresh_controller : Seat → Controller
fresh_controller s = record {
  seat = s;
  view = view_of 0;
  registered = replicate 8 None;
  order = None;
  votes = replicate 8 None;
  round = empty_round;
  basis = None;
  records = replicate 16 None;
  result = None;
}

-- the rules for all kinds but proposals, which need no seal of the controller's own
abbrev pub plain_rule : Sizes → Controller → Body Certificate Basis → Seal → Reply
plain_rule sizes u (Enrol p) z = enrol_rule u p z
plain_rule sizes u (Receipt s p) z = refused R.OtherUnit
plain_rule sizes u (Order n) z = order_rule u n z
plain_rule sizes u (Summons s n o) z = refused R.OtherUnit
plain_rule sizes u (Vote p n a) z = vote_rule u p n a z
plain_rule sizes u (Proposal s v x c m) z = refused R.OtherUnit
plain_rule sizes u (Assent s v x d) z = assent_rule sizes u s v (pair x d) z
plain_rule sizes u (Confirm s v x d) z = confirm_rule sizes u s v (pair x d)
plain_rule sizes u (Result s x) z = refused R.OtherUnit
plain_rule sizes u (Move s v b) z = move_rule sizes u s v b

-- ---- in two steps: the own assent is recorded once it has its seal

-- a letter's rule, but a proposal is only held
abbrev pub taken : Sizes → Change → Controller → Body Certificate Basis → Seal → Reply
taken sizes t u (Proposal s v x c m) z = holding sizes t u v m (proposal x c (certificate_digest c) z)
taken sizes t u b z = body_rule sizes t u b z (seal 0)

abbrev pub letter_taken : Sizes → Change → Controller → Letter Certificate Basis → Reply
letter_taken sizes t u l = cond (not (l.change.0 == t.0)) (refused R.OtherChange) (taken sizes t u l.body l.seal)

-- to a proposal, under the seal `own`
abbrev pub own_assent : Body Certificate Basis → Controller → Seal → Controller
own_assent (Proposal s v x c m) u own = seconded u own u.round.proposal
own_assent b u own = u
