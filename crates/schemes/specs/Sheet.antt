-- The sheet seal: a sum of the party's words, weighted by the bytes of the statement.
use Rattle.std.specs.Prelude.{ℕ, zero, suc, ◌+◌, ◌*◌, ◌%◌, ◌^◌, List, slice_index}

-- word 0, and word p + 1 times (byte p + 1) for each p below n
unfoldable pub weighted : List ℕ → List ℕ → ℕ → ℕ
weighted words bytes zero = slice_index words 0
weighted words bytes (suc n) = weighted words bytes n + slice_index words (n + 1) * (slice_index bytes n + 1)

-- the sum over the 24 bytes of a statement, modulo 2 ^ 64
abbrev pub sheet_sum : List ℕ → List ℕ → ℕ
sheet_sum words bytes = weighted words bytes 24 % 2 ^ 64

-- a sum with one of the words more, modulo 2 ^ 64
abbrev pub added : List ℕ → List ℕ → ℕ → ℕ → ℕ
added words bytes sum p = (sum + slice_index words (p + 1) * (slice_index bytes p + 1) % 2 ^ 64) % 2 ^ 64
