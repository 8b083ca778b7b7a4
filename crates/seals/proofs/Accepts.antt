-- Accepting seal after seal.
use Rattle.std.proofs.Common.{◌≡◌, ℕ, suc, ◌+◌, ◌-◌, ◌<◌, List, [], ◌∷◌, ◌++◌, Some, None, Ok, Err, Option, Result as Res, refl, ap, ◌∙◌, arith}
use Rattle.terms.specs.declared.refusals.Refusal.{Refusal}
use Rattle.letters.specs.declared.statements.Borne.{Borne}
use Rattle.letters.specs.Inner.{consed, rows_borne}
use Rattle.reading.specs.Bind.{◌>>=◌}
use Rattle.seals.specs.Opening.{Relation, accept_one, accept_if, accept_all}

pub accept_none : (holds : Relation) (n : ℕ) → accept_all holds [] n ≡ Ok n
unfolding accept_all
accept_none holds n = refl

pub accept_more : (holds : Relation) (b : Borne) (bs : List Borne) (n : ℕ) → accept_all holds (b ∷ bs) n ≡ (accept_one holds b n >>= accept_all holds bs)
unfolding accept_all
accept_more holds b bs n = refl

then_both : (holds : Relation) (bs cs : List Borne) → ((n : ℕ) → accept_all holds (bs ++ cs) n ≡ (accept_all holds bs n >>= accept_all holds cs)) → (r : Res ℕ Refusal) → (r >>= accept_all holds (bs ++ cs)) ≡ ((r >>= accept_all holds bs) >>= accept_all holds cs)
then_both holds bs cs both (Ok m) = both m
then_both holds bs cs both (Err e) = refl

-- the seals of two lists, one after the other
pub accept_both : (holds : Relation) (bs cs : List Borne) (n : ℕ) → accept_all holds (bs ++ cs) n ≡ (accept_all holds bs n >>= accept_all holds cs)
unfolding accept_all
accept_both holds [] cs n = refl
accept_both holds (b ∷ bs) cs n = then_both holds bs cs (accept_both holds bs cs) (accept_one holds b n)

pub ruleset accept_steps = (accept_none, accept_more, accept_both)

consed_accepted : (holds : Relation) (o : Option Borne) (bs : List Borne) (n : ℕ) → accept_all holds (consed o bs) n ≡ (accept_if holds o n >>= accept_all holds bs)
unfolding accept_all
consed_accepted holds None bs n = refl
consed_accepted holds (Some b) bs n = refl

-- the rows from k on: row k, then the others
pub accept_row : (holds : Relation) (row : ℕ → Option Borne) (k count n : ℕ) → k < count → accept_all holds (rows_borne row k (count - k)) n ≡ (accept_if holds (row k) n >>= accept_all holds (rows_borne row (k + 1) (count - (k + 1))))
unfolding rows_borne
accept_row holds row k count n h =
    let e : count - k ≡ suc (count - (k + 1)) = omega arith in
    ap (λ m. accept_all holds (rows_borne row k m) n) e ∙ consed_accepted holds (row k) (rows_borne row (k + 1) (count - (k + 1))) n

pub accept_no_row : (holds : Relation) (row : ℕ → Option Borne) (k m n : ℕ) → m ≡ 0 → accept_all holds (rows_borne row k m) n ≡ Ok n
unfolding accept_all rows_borne
accept_no_row holds row k m n e = ap (λ j. accept_all holds (rows_borne row k j) n) e
