-- The wheel board.
use Rattle.std.specs.Prelude.{List, map, take, Result}
use Rattle.terms.specs.declared.refusals.Refusal.{Refusal}
use Rattle.boards.specs.declared.row.Row.{Row}
use Rattle.boards.specs.declared.wheel_door.Wheels.{Wheels}
use Rattle.boards.specs.declared.wheel_door.WheelDoor.{WheelDoor}
use Rattle.boards.specs.Boards.{Meaning, made}
use Rattle.boards.specs.Wheels.{shown, wheel_takes, in_range, wheels_number}

-- a row of doors that keep their numbers on wheels
abbrev pub WheelBoard : Type 0
WheelBoard = Row WheelDoor

-- its first doors, as they show themselves, and its rule
abbrev pub wheel_meaning : WheelBoard → Meaning
wheel_meaning b = record { doors = map shown (take b.places b.doors); takes = λ p n. wheel_takes n }

-- the board with its wheels set so
abbrev pub wheel_board_of : List Wheels → Result Meaning Refusal
wheel_board_of wheels = made in_range wheels_number wheel_takes wheels
