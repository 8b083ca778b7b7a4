-- Sets of seats, and how many members they have.
use Rattle.std.specs.Prelude.{ℕ, zero, suc, ◌+◌, Bool, cond, not}

-- a set of numbers, by the test that its members pass
abbrev pub Seats : Type 0
Seats = ℕ → Bool

-- how many of the numbers below n are in the set
abbrev pub count : Seats → ℕ → ℕ
count s zero = 0
count s (suc n) = cond (s n) 1 0 + count s n

-- who is faulty, where `honest` says who is honest
abbrev pub faulty : Seats → Seats
faulty honest k = not (honest k)
