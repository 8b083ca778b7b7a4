-- Two values that do not agree share no ballot.
use Rattle.std.proofs.Common.{◌≡◌, ◌+◌, ◌<◌, ◌≤◌, Bool, true, false, cond, List, [], ◌∷◌, length, Option, arith}
use Rattle.std.proofs.lemmas.List.Sums.{sum_by-cons}
use Rattle.ballots.specs.Counts.{votes_for, count_agree}

module _ {V : Type 0} (agree : V → V → Bool)
    (symm : (x y : V) → agree x y ≡ agree y x)
    (trans : (x y z : V) → agree x y ≡ true → agree y z ≡ true → agree x z ≡ true) where
  -- one ballot counts for at most one of two that do not agree
  pub at_most_one : (a b : V) → agree a b ≡ false → (x : Option V) → cond (votes_for agree a x) 1 0 + cond (votes_for agree b x) 1 0 ≤ 1
  at_most_one a b no-ab x = grind (arith, symm, trans)

  pub no_shared : (a b : V) → agree a b ≡ false → (xs : List (Option V)) → count_agree agree a xs + count_agree agree b xs ≤ length xs
  no_shared a b no-ab [] = omega arith
  no_shared a b no-ab (x ∷ xs) =
      let ea : count_agree agree a (x ∷ xs) ≡ cond (votes_for agree a x) 1 0 + count_agree agree a xs = sum_by-cons _ x xs in
      let eb : count_agree agree b (x ∷ xs) ≡ cond (votes_for agree b x) 1 0 + count_agree agree b xs = sum_by-cons _ x xs in
      omega (arith, at_most_one a b no-ab x, no_shared a b no-ab xs)

  pub winners : (a b : V) (xs : List (Option V)) → length xs < count_agree agree a xs + count_agree agree b xs → agree a b ≡ true
  winners a b xs h = grind (arith, no_shared a b)
