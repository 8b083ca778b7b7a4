-- Guards that were passed, and what then holds of a reply.
use Rattle.std.proofs.Common.{◌≡◌, ℕ, Bool, true, false, cond, not, eqb, is_some, Some, None, Ok, Err, Option, Result, sym, refl, ap, ◌∙◌, ap₂, arith}
use Rattle.std.proofs.lemmas.Bool.{and_parts, eqb-true, not-false}
use Rattle.terms.specs.declared.parties.Outcome.{Outcome}
use Rattle.terms.specs.declared.parties.Outcome.TheVariants.{Keep, Number}
use Rattle.terms.specs.declared.refusals.RuleCause.{RuleCause}
use Rattle.terms.specs.Numbers.{key}
use Rattle.letters.specs.Sorts.{digest}
use Rattle.ballots.specs.declared.Pair.{Pair}
use Rattle.ballots.specs.Kinds.{same_outcome, same_pair}
use Rattle.posting.specs.declared.few.AtMostTwo.TheVariants.{Nothing}
use Rattle.posting.specs.Replies.{Bodies, Reply, refused, served, after, given, passing}
use Rattle.controllers.specs.Rules.{pair}
use Rattle.steps.specs.Steps.{sent_in}

-- what is left and sent, if a reply serves, has a property
pub data Serves {U : Type 0} (P : U → Bodies → Type 0) : Reply RuleCause U → Type 0 where
  no : {c : RuleCause} → Serves P (refused c)
  yes : {u : U} {bs : Bodies} → P u bs → Serves P (served u bs)

-- a refusal leaves the unit as it was and sends nothing
pub at_last : {U : Type 0} (P : U → Bodies → Type 0) (u : U) (r : Reply RuleCause U) → P u Nothing → Serves P r → P (after u r) (sent_in r)
at_last P u (refused c) p no = p
at_last P u (served v bs) p (yes q) = q

-- the guards passed, and the rest holds
pub passes : {U : Type 0} {P : U → Bodies → Type 0} (g : Result (Unit {0}) RuleCause) (rest : Reply RuleCause U) → (g ≡ Ok tt → Serves P rest) → Serves P (passing g rest)
passes (Err c) rest k = no
passes (Ok tt) rest k = k refl

-- both parts of a reply hang on one test
pub either : {U : Type 0} (P : U → Bodies → Type 0) (b : Bool) {u v : U} {bs cs : Bodies} → (b ≡ true → P u bs) → (b ≡ false → P v cs) → P (cond b u v) (cond b bs cs)
either P true k l = k refl
either P false k l = l refl

-- a guard that passed
pub not_refused : {A : Type 0} (b : Bool) (c : RuleCause) (rest : Result A RuleCause) (x : A) → cond b (Err c) rest ≡ Ok x → (b ≡ false) × (rest ≡ Ok x)
not_refused true c rest x e = absurd (grind (arith, e))
not_refused false c rest x e = (refl, e)

pub record Given {A : Type 0} (x : Option A) (rest : A → Result (Unit {0}) RuleCause) : Type 0 where
  pub value : A
  pub is : x ≡ Some value
  pub then : rest value ≡ Ok tt

pub was_given : {A : Type 0} (x : Option A) (c : RuleCause) (rest : A → Result (Unit {0}) RuleCause) → given x c rest ≡ Ok tt → Given x rest
was_given None c rest e = absurd (grind (arith, e))
was_given (Some a) c rest e = record { value = a; is = refl; then = e }

pub is_none : {A : Type 0} (x : Option A) → is_some x ≡ false → x ≡ None
is_none None e = refl
is_none (Some a) e = absurd (grind (arith, e))

pub none_some : {A : Type 0} {x : Option A} {a : A} → x ≡ None → x ≡ Some a → ⊥
none_some e f = let g = sym e ∙ f in grind (arith, g)

-- tests of equality that passed
pub same_outcome_lem : (x y : Outcome) → same_outcome x y ≡ true → x ≡ y
same_outcome_lem Keep Keep e = refl
same_outcome_lem Keep (Number n) e = absurd (grind (arith, e))
same_outcome_lem (Number m) Keep e = absurd (grind (arith, e))
same_outcome_lem (Number m) (Number n) e = ap (λ k. Number (key k)) (eqb-true m.0 n.0 e)

pub same_pair_lem : (x y : Pair) → same_pair x y ≡ true → x ≡ y
same_pair_lem x y e =
    let p = and_parts (eqb x.digest.0 y.digest.0) (same_outcome x.outcome y.outcome) e in
    ap₂ (λ (o : Outcome) (d : ℕ). pair o (digest d)) (same_outcome_lem x.outcome y.outcome p.1) (eqb-true _ _ p.0)

pub is_eq : (a b : ℕ) → not (eqb a b) ≡ false → a ≡ b
is_eq a b q = eqb-true a b (not-false _ q)
