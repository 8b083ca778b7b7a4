-- What a call at each place in turn does to a board.
use Rattle.std.specs.Prelude.{ℕ, zero, suc, Bool, true, cond, ◌&&◌}
use Rattle.terms.specs.declared.numbers.KeyNumber.{KeyNumber}
use Rattle.terms.specs.Numbers.{place}
use Rattle.boards.specs.Boards.{Meaning, how_many, stages, after_stage, after_take_over, after_drop}

-- the board after a number was staged at the first k places
unfoldable pub staged_to : Meaning → KeyNumber → ℕ → Meaning
staged_to b n zero = b
staged_to b n (suc k) = after_stage (staged_to b n k) (place k) n

-- all of the first k places took it
unfoldable pub all_took : Meaning → KeyNumber → ℕ → Bool
all_took b n zero = true
all_took b n (suc k) = all_took b n k && stages (staged_to b n k) (place k) n

-- the board after the first k places took over
unfoldable pub taken_over_to : Meaning → ℕ → Meaning
taken_over_to b zero = b
taken_over_to b (suc k) = after_take_over (taken_over_to b k) (place k)

-- the board after the first k places dropped what was staged
unfoldable pub dropped_to : Meaning → ℕ → Meaning
dropped_to b zero = b
dropped_to b (suc k) = after_drop (dropped_to b k) (place k)

-- the number staged at every place; every place took it
abbrev pub staged : Meaning → KeyNumber → Meaning
staged b n = staged_to b n (how_many b)

abbrev pub took : Meaning → KeyNumber → Bool
took b n = all_took b n (how_many b)

abbrev pub taken_over : Meaning → Meaning
taken_over b = taken_over_to b (how_many b)

abbrev pub dropped : Meaning → Meaning
dropped b = dropped_to b (how_many b)

-- a whole change: all places take the number over if all took it, else all drop it
abbrev pub changed : Meaning → KeyNumber → Meaning
changed b n = cond (took b n) (taken_over (staged b n)) (dropped (staged b n))
