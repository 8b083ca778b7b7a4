-- Rows read one after the other.
use Rattle.std.proofs.Common.{◌≡◌, ℕ, suc, ◌+◌, ◌-◌, ◌/◌, ◌<◌, List, [], ◌∷◌, ◌++◌, length, take, set, ap, ◌∙◌, arith}
use Rattle.std.proofs.lemmas.List.{append_assoc, take_more_set}
use Rattle.letters.specs.Bytes.{lowest, row_at, after_row, rows_at}

-- one row more, and what is left
pub rows_more : (n k map : ℕ) (xs : List ℕ) (at : ℕ) → k < n → rows_at (n - k) map xs at ≡ row_at (lowest map) xs at ∷ rows_at (n - (k + 1)) (map / 2) xs (after_row (lowest map) at)
unfolding rows_at
rows_more n k map xs at h = let e : n - k ≡ suc (n - (k + 1)) = omega arith in ap (λ m. rows_at m map xs at) e

-- a row written behind those that are done
pub set_next : {A : Type 0} (xs : List A) (k : ℕ) (v : A) (rest : List A) → k < length xs → take (k + 1) (set xs k v) ++ rest ≡ take k xs ++ (v ∷ rest)
set_next xs k v rest h = ap (λ ys. ys ++ rest) (take_more_set xs k v h) ∙ append_assoc (take k xs) (v ∷ []) rest
