-- The weighted sum of no bytes, one byte more, and all of them; and that of no words at all.
use Rattle.std.proofs.Common.{◌≡◌, ℕ, zero, suc, ◌+◌, ◌*◌, ◌%◌, ◌^◌, ◌<◌, List, [], get_or, fold, refl, ap, add-one, arith}
use Rattle.std.specs.List.{range_with_len}
use Rattle.letters.proofs.Below.{fold_below}
use Rattle.schemes.specs.Sheet.{added, weighted, sheet_sum}

weighted_none : (words bytes : List ℕ) → weighted words bytes 0 ≡ get_or words 0 0
unfolding weighted
weighted_none words bytes = refl

-- adding modulo 2 ^ 64 at every step comes to the same
weighted_more : (words bytes : List ℕ) (n : ℕ) → weighted words bytes (n + 1) % 2 ^ 64 ≡ added words bytes (weighted words bytes n % 2 ^ 64) n
unfolding weighted
weighted_more words bytes n =
    let x = get_or words (n + 1) 0 * (get_or bytes n 0 + 1) in
    let m : weighted words bytes (n + 1) ≡ weighted words bytes n + x = ap (weighted words bytes) (add-one n) in
    omega arith

pub all_added : (words bytes : List ℕ) (first : ℕ) → first ≡ get_or words 0 0 → first < 2 ^ 64 → fold (added words bytes) first (range_with_len 0 24) ≡ sheet_sum words bytes
all_added words bytes first e small =
    fold_below (added words bytes) first (λ n. weighted words bytes n % 2 ^ 64) (omega (arith, weighted_none words bytes)) (weighted_more words bytes) 24

zeros : (bytes : List ℕ) (n : ℕ) → weighted [] bytes n ≡ 0
unfolding weighted
zeros bytes zero = refl
zeros bytes (suc n) = omega (arith, zeros bytes n)

pub sheet_of_none : (bytes : List ℕ) → sheet_sum [] bytes ≡ 0
sheet_of_none bytes = ap (λ n. n % 2 ^ 64) (zeros bytes 24)
