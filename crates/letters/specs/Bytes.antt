-- Numbers as bytes, the lowest byte first, and rows of optional seals.
use Rattle.std.specs.Prelude.{ℕ, zero, suc, ◌+◌, ◌*◌, ◌/◌, ◌%◌, Bool, true, false, cond, List, [], ◌∷◌, ◌++◌, length, drop, Some, None, Option, ◌==◌, slice_index}
use Rattle.letters.specs.declared.sorts.Seal.{Seal}

unfoldable pub le2 : ℕ → List ℕ
le2 n = (n % 256) ∷ (n / 256 % 256) ∷ []

unfoldable pub le4 : ℕ → List ℕ
le4 n = (n % 256) ∷ (n / 256 % 256) ∷ (n / 65536 % 256) ∷ (n / 16777216 % 256) ∷ []

unfoldable pub le8 : ℕ → List ℕ
le8 n =
    (n % 256) ∷ (n / 256 % 256) ∷ (n / 65536 % 256) ∷ (n / 16777216 % 256)
    ∷ (n / 4294967296 % 256) ∷ (n / 1099511627776 % 256) ∷ (n / 281474976710656 % 256) ∷ (n / 72057594037927936 % 256) ∷ []

-- the number in the bytes from `at` on; past the end every byte is 0
abbrev pub two_at : List ℕ → ℕ → ℕ
two_at xs at = slice_index xs at + slice_index xs (at + 1) * 256

abbrev pub four_at : List ℕ → ℕ → ℕ
four_at xs at = slice_index xs at + slice_index xs (at + 1) * 256 + slice_index xs (at + 2) * 65536 + slice_index xs (at + 3) * 16777216

abbrev pub eight_at : List ℕ → ℕ → ℕ
eight_at xs at =
    slice_index xs at + slice_index xs (at + 1) * 256 + slice_index xs (at + 2) * 65536 + slice_index xs (at + 3) * 16777216
    + slice_index xs (at + 4) * 4294967296 + slice_index xs (at + 5) * 1099511627776 + slice_index xs (at + 6) * 281474976710656 + slice_index xs (at + 7) * 72057594037927936

-- the map of the rows that pass a test: bit k stands for row k
unfoldable pub map_of : {A : Type 0} → (A → Bool) → List A → ℕ
map_of test [] = 0
map_of test (x ∷ xs) = cond (test x) 1 0 + 2 * map_of test xs

abbrev pub seal_bytes : Option Seal → List ℕ
seal_bytes None = []
seal_bytes (Some z) = le8 z.0

-- the seals of the rows that have one, rows rising
unfoldable pub row_bytes : List (Option Seal) → List ℕ
row_bytes [] = []
row_bytes (r ∷ rs) = seal_bytes r ++ row_bytes rs

-- the lowest bit of a map stands
abbrev pub lowest : ℕ → Bool
lowest map = map % 2 == 1

-- the row at `at`, if there is one, and the offset after it
abbrev pub row_at : Bool → List ℕ → ℕ → Option Seal
row_at true xs at = Some (record { 0 = eight_at xs at })
row_at false xs at = None

abbrev pub after_row : Bool → ℕ → ℕ
after_row true at = at + 8
after_row false at = at

-- n rows read from `at` on: a seal for each bit that stands in the map, the lowest bit first
unfoldable pub rows_at : ℕ → ℕ → List ℕ → ℕ → List (Option Seal)
rows_at zero map xs at = []
rows_at (suc n) map xs at = row_at (lowest map) xs at ∷ rows_at n (map / 2) xs (after_row (lowest map) at)

-- a buffer with ys written over its start
abbrev pub written : List ℕ → List ℕ → List ℕ
written ys xs = ys ++ drop (length ys) xs
