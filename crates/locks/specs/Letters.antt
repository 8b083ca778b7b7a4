-- Which rule of a lock a letter falls under.
use Rattle.std.specs.Prelude.{cond, not, ◌==◌}
use Rattle.terms.specs.declared.numbers.Change.{Change}
use Rattle.terms.specs.declared.refusals.RuleCause.TheVariants as R
use Rattle.terms.specs.declared.sizes.Sizes.{Sizes}
use Rattle.letters.specs.declared.bodies.Body.{Body}
use Rattle.letters.specs.declared.bodies.Body.TheVariants.{Enrol, Receipt, Order, Summons, Vote, Proposal, Assent, Confirm, Result, Move}
use Rattle.letters.specs.declared.bodies.Letter.{Letter}
use Rattle.boards.specs.Boards.{Meaning}
use Rattle.locks.specs.declared.lock.Lock.{Lock}
use Rattle.locks.specs.Rules.{Reply, refused, receipt_rule, summons_rule, result_rule}

-- receipts, summonses and results are for locks; 8 for the other kinds
abbrev pub body_rule : {C B : Type 0} → Sizes → Lock → Meaning → Body C B → Reply
body_rule sizes k m (Enrol p) = refused R.OtherUnit
body_rule sizes k m (Receipt s p) = receipt_rule sizes k s p
body_rule sizes k m (Order n) = refused R.OtherUnit
body_rule sizes k m (Summons s n z) = summons_rule k m n
body_rule sizes k m (Vote p n a) = refused R.OtherUnit
body_rule sizes k m (Proposal s v x c ms) = refused R.OtherUnit
body_rule sizes k m (Assent s v x d) = refused R.OtherUnit
body_rule sizes k m (Confirm s v x d) = refused R.OtherUnit
body_rule sizes k m (Result s x) = result_rule sizes k m s x
body_rule sizes k m (Move s v b) = refused R.OtherUnit

-- 7 for a letter of another change, before its kind is looked at
abbrev pub letter_rule : {C B : Type 0} → Sizes → Change → Lock → Meaning → Letter C B → Reply
letter_rule sizes t k m l = cond (not (l.change.0 == t.0)) (refused R.OtherChange) (body_rule sizes k m l.body)
