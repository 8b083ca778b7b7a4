-- An order fits into any output buffer of a call.
use Rattle.std.proofs.Common.{◌≡◌, ℕ, ◌≤◌, Bool, true, false, cond, List, Some, None, Option, arith}
use Rattle.std.proofs.lemmas.Bool.Decides.{nat_tests}
use Rattle.terms.specs.declared.numbers.Change.{Change}
use Rattle.terms.specs.declared.numbers.KeyNumber.{KeyNumber}
use Rattle.letters.specs.declared.bodies.Body.TheVariants as B
use Rattle.letters.specs.Bytes.{le4, le8}
use Rattle.posting.specs.declared.few.AtMostTwo.TheVariants.{One}
use Rattle.posting.specs.Calls.{has_room}
use Rattle.posting.specs.Posting.{needed}
use Rattle.posting.proofs.Goes.{AllFit}
use Rattle.office.specs.declared.Office.{Office}
use Rattle.office.specs.Rules.{office, order_rule}
use Rattle.terms.specs.declared.refusals.RuleCause.TheVariants as R
use Rattle.posting.specs.Replies.{refused, served}

order_short : (t : Change) (n : Option KeyNumber) → needed t (One (B.Order n)) ≤ 64
unfolding le4 le8
order_short t None = omega arith
order_short t (Some n) = omega arith

by_turn : (t : Change) (o : Office) (b : Bool) (n : Option KeyNumber) (out scratch : List ℕ) → has_room out scratch ≡ true → AllFit t 0 o out scratch (cond b (refused R.Repeated) (served (office true) (One (B.Order n))))
by_turn t o true n out scratch h = tt
by_turn t o false n out scratch h = let s = order_short t n in grind (arith, nat_tests)

pub order_fits_lem : (t : Change) (o : Office) (n : Option KeyNumber) (out scratch : List ℕ) → has_room out scratch ≡ true → AllFit t 0 o out scratch (order_rule o n)
order_fits_lem t o n out scratch h = by_turn t o o.ordered n out scratch h
