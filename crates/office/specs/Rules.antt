-- The rule of the office: it orders a number or a cancel, once.
use Rattle.std.specs.Prelude.{ℕ, Bool, true, cond, Some, None, Option}
use Rattle.terms.specs.declared.numbers.KeyNumber.{KeyNumber}
use Rattle.terms.specs.declared.refusals.CallCause.TheVariants as C
use Rattle.terms.specs.declared.refusals.Cause.TheVariants as Cause
use Rattle.terms.specs.declared.refusals.Refusal.{Refusal}
use Rattle.terms.specs.declared.refusals.RuleCause.{RuleCause}
use Rattle.terms.specs.declared.refusals.RuleCause.TheVariants as R
use Rattle.terms.specs.Numbers.{is_key, key}
use Rattle.letters.specs.declared.bodies.Body.TheVariants as B
use Rattle.posting.specs.declared.few.AtMostTwo.TheVariants.{One}
use Rattle.posting.specs.Calls.{pointed}
use Rattle.posting.specs.Replies.{Reply, refused, served}
use Rattle.office.specs.declared.Office.{Office}

-- an office that has ordered, or has not
abbrev pub office : Bool → Office
office b = record { ordered = b }

-- 10 it has ordered; it has, and sends the order
abbrev pub order_rule : Office → Option KeyNumber → Reply RuleCause Office
order_rule o n = cond o.ordered (refused R.Repeated) (served (office true) (One (B.Order n)))

-- the ordered number is no key number; it points nowhere
abbrev pub number_out_of_range : Refusal
number_out_of_range = record { cause = Cause.Call C.NumberOutOfRange; place = 0 }

-- 3 before 10; no number means a cancel
abbrev pub order_reply : Office → Option ℕ → Reply Refusal Office
order_reply o None = pointed 0 (order_rule o None)
order_reply o (Some n) = cond (is_key n) (pointed 0 (order_rule o (Some (key n)))) (refused number_out_of_range)
