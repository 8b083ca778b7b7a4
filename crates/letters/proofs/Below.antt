-- What goes over the first n numbers, one after the other.
use Rattle.std.proofs.Common.{◌≡◌, ℕ, zero, suc, ◌+◌, Bool, true, false, ◌&&◌, [], ◌∷◌, ◌++◌, fold, sym, refl, ap, ◌∙◌, add-one, arith}
use Rattle.std.specs.List.{list_all, range_with_len}
use Rattle.std.proofs.lemmas.List.Folds.{list_all-append}
use Rattle.std.proofs.lemmas.List.Sums.{fold-append}

more_from : (n a : ℕ) → range_with_len a (suc n) ≡ range_with_len a n ++ ((a + n) ∷ [])
more_from zero a = ap (λ k. k ∷ []) (omega arith)
more_from (suc n) a = ap (λ ks. a ∷ ks) (more_from n (a + 1) ∙ ap (λ k. range_with_len (a + 1) n ++ (k ∷ [])) (omega arith))

one_more : (n : ℕ) → range_with_len 0 (suc n) ≡ range_with_len 0 n ++ (n ∷ [])
one_more n = more_from n 0 ∙ ap (λ k. range_with_len 0 n ++ (k ∷ [])) (omega arith)

and_true : (b : Bool) → (b && true) ≡ b
and_true true = refl
and_true false = refl

-- what is true of none, and of one more where the test is, is true where all tests are
pub all_below : (test f : ℕ → Bool) → f 0 ≡ true → ((n : ℕ) → f (n + 1) ≡ (f n && test n)) → (n : ℕ) → list_all test (range_with_len 0 n) ≡ f n
all_below test f none more zero = sym none
all_below test f none more (suc n) =
    ap (list_all test) (one_more n)
    ∙ list_all-append test (range_with_len 0 n) (n ∷ [])
    ∙ ap (λ b. list_all test (range_with_len 0 n) && b) (and_true (test n))
    ∙ ap (λ b. b && test n) (all_below test f none more n)
    ∙ sym (more n)
    ∙ ap f (add-one n)

-- what comes of none is a, and of one more what the step makes of it
pub fold_below : {A : Type 0} (step : A → ℕ → A) (a : A) (f : ℕ → A) → f 0 ≡ a → ((n : ℕ) → f (n + 1) ≡ step (f n) n) → (n : ℕ) → fold step a (range_with_len 0 n) ≡ f n
fold_below step a f none more zero = sym none
fold_below step a f none more (suc n) =
    ap (fold step a) (one_more n)
    ∙ fold-append step a (range_with_len 0 n) (n ∷ [])
    ∙ ap (λ x. step x n) (fold_below step a f none more n)
    ∙ sym (more n)
    ∙ ap f (add-one n)
