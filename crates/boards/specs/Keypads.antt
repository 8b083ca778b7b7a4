-- The keypad board.
use Rattle.std.specs.Prelude.{ℕ, ◌%◌, Bool, not, ◌&&◌, List, take, Result, ◌==◌}
use Rattle.terms.specs.declared.refusals.Refusal.{Refusal}
use Rattle.terms.specs.Numbers.{is_key}
use Rattle.boards.specs.declared.door.Door.{Door}
use Rattle.boards.specs.declared.row.Row.{Row}
use Rattle.boards.specs.Boards.{Meaning, made}

-- a row of doors that keep their numbers as they are
abbrev pub Keypad : Type 0
Keypad = Row Door

-- every key number but 0, 111,111 and its other multiples: one digit six times over
abbrev pub keypad_takes : ℕ → Bool
keypad_takes n = is_key n && not (n % 111111 == 0)

-- its first doors, and its rule
abbrev pub keypad_meaning : Keypad → Meaning
keypad_meaning k = record { doors = take k.places k.doors; takes = λ p n. keypad_takes n }

-- the board with these numbers in force
abbrev pub keypad_of : List ℕ → Result Meaning Refusal
keypad_of numbers = made is_key (λ n. n) keypad_takes numbers
