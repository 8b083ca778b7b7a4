-- What a lock sends is short.
use Rattle.std.proofs.Common.{◌≡◌, ℕ, ◌≤◌, Bool, true, false, cond, not, eqb, List, Ok, Err, Result, arith}
use Rattle.std.proofs.lemmas.Bool.Decides.{nat_tests}
use Rattle.terms.specs.declared.numbers.Change.{Change}
use Rattle.terms.specs.declared.numbers.KeyNumber.{KeyNumber}
use Rattle.terms.specs.declared.numbers.Place.{Place}
use Rattle.terms.specs.declared.parties.Outcome.{Outcome}
use Rattle.terms.specs.declared.parties.Outcome.TheVariants.{Keep, Number}
use Rattle.terms.specs.declared.refusals.RuleCause.{RuleCause}
use Rattle.terms.specs.declared.sizes.Sizes.{Sizes}
use Rattle.boards.specs.Boards.{Meaning, stages}
use Rattle.letters.specs.declared.sorts.Answer.{Answer}
use Rattle.letters.specs.declared.sorts.Answer.TheVariants.{Ready, Refuse}
use Rattle.letters.specs.declared.bodies.Letter.{Letter}
use Rattle.letters.specs.declared.bodies.Body.{Body}
use Rattle.letters.specs.declared.bodies.Body.TheVariants as B
use Rattle.letters.specs.Bytes.{le4, le8}
use Rattle.posting.specs.declared.few.AtMostTwo.TheVariants.{Nothing, One}
use Rattle.posting.specs.Calls.{has_room}
use Rattle.posting.specs.Posting.{needed}
use Rattle.posting.proofs.Goes.{AllFit}
use Rattle.locks.specs.declared.lock.Lock.{Lock}
use Rattle.locks.specs.Letters.{body_rule, letter_rule}
use Rattle.locks.specs.Rules.{nothing, Reply, refused, served, replied, passing, summoned, ended_by, enrol_rule, decline_rule, may_apply, may_decline, may_receipt, may_summon, may_result, resulted}

-- at most 64 bytes
abbrev Short : Change → Reply → Type 0
Short t (refused c) = Unit {0}
Short t (served k d bs) = needed t bs ≤ 64

short_fits : (t : Change) (k : Lock) (out scratch : List ℕ) (r : Reply) → has_room out scratch ≡ true → Short t r → AllFit t 0 k out scratch (replied r)
short_fits t k out scratch (refused c) h s = tt
short_fits t k out scratch (served k' d bs) h s = grind (arith, nat_tests)

passed : (t : Change) (g : Result (Unit {0}) RuleCause) (r : Reply) → Short t r → Short t (passing g r)
passed t (Ok x) r s = s
passed t (Err c) r s = tt

either : (t : Change) (x : Bool) (r q : Reply) → Short t r → Short t q → Short t (cond x r q)
either t true r q a b = a
either t false r q a b = b

enrol_short : (t : Change) (p : Place) → needed t (One (B.Enrol p)) ≤ 64
unfolding le8
enrol_short t p = omega arith

vote_short : (t : Change) (p : Place) (n : KeyNumber) (a : Answer) → needed t (One (B.Vote p n a)) ≤ 64
unfolding le4 le8
vote_short t p n a = omega arith

summoned_short : (t : Change) (k : Lock) (x : Bool) (n : KeyNumber) → Short t (summoned k x n)
summoned_short t k true n = vote_short t k.place n Ready
summoned_short t k false n = vote_short t k.place n Refuse

ended_short : (t : Change) (k : Lock) (o : Outcome) → Short t (ended_by k o)
ended_short t k Keep = omega arith
ended_short t k (Number n) = omega arith

body_short : {C D : Type 0} (t : Change) (sizes : Sizes) (k : Lock) (m : Meaning) (l : Body C D) → Short t (body_rule sizes k m l)
body_short t sizes k m (B.Enrol p) = tt
body_short t sizes k m (B.Receipt s p) = passed t (may_receipt k s p) _ (omega arith)
body_short t sizes k m (B.Order n) = tt
body_short t sizes k m (B.Summons s n z) = passed t (may_summon k) _ (summoned_short t k (stages m k.place n) n)
body_short t sizes k m (B.Vote p n a) = tt
body_short t sizes k m (B.Proposal s v x c ms) = tt
body_short t sizes k m (B.Assent s v x d) = tt
body_short t sizes k m (B.Confirm s v x d) = tt
body_short t sizes k m (B.Result s x) = passed t (may_result k m s x) _ (either t _ _ (served (resulted k s x) nothing Nothing) (ended_short t (resulted k s x) x) (omega arith))
body_short t sizes k m (B.Move s v g) = tt

module _ (t : Change) (k : Lock) (out scratch : List ℕ) where
  pub enrol_fits : has_room out scratch ≡ true → AllFit t 0 k out scratch (replied (enrol_rule k))
  enrol_fits h = short_fits t k out scratch (enrol_rule k) h (passed t (may_apply k) _ (enrol_short t k.place))

  pub decline_fits : has_room out scratch ≡ true → AllFit t 0 k out scratch (replied (decline_rule k))
  decline_fits h = short_fits t k out scratch (decline_rule k) h (passed t (may_decline k) _ (omega arith))

  -- whatever letter a lock is handed
  pub letter_fits_holds : {C D : Type 0} (sizes : Sizes) (m : Meaning) (l : Letter C D) → has_room out scratch ≡ true → AllFit t 0 k out scratch (replied (letter_rule sizes t k m l))
  letter_fits_holds sizes m l h = short_fits t k out scratch (letter_rule sizes t k m l) h (either t (not (eqb l.change.0 t.0)) _ _ tt (body_short t sizes k m l.body))
