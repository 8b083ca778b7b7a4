-- The scratch buffer.
use Rattle.std.specs.Prelude.{ℕ, Bool, cond, List, ◌++◌, length, drop, replicate, nat_le}

-- the first 24 bytes are zero, and the others are as they were
unfoldable pub cleared : List ℕ → List ℕ
cleared xs = replicate 24 0 ++ drop 24 xs

-- room for a statement
abbrev pub roomy : List ℕ → Bool
roomy xs = nat_le 24 (length xs)

-- what every function that is lent a scratch buffer leaves in it: one that is too small is not touched
abbrev pub scratch_after : List ℕ → List ℕ
scratch_after xs = cond (roomy xs) (cleared xs) xs
