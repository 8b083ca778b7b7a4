-- Doors with wheels: the turns of a wheel, what a door shows, and which numbers it takes.
use Rattle.std.specs.Prelude.{ℕ, ◌+◌, ◌-◌, ◌*◌, ◌%◌, Bool, ◌&&◌, ℤ, pos, ◌+ℤ◌, ◌-ℤ◌, Some, None, Option, nat_le, unsigned_abs}
use Rattle.terms.specs.declared.numbers.KeyNumber.{KeyNumber}
use Rattle.terms.specs.Numbers.{key, is_key}
use Rattle.boards.specs.declared.door.Door.{Door}
use Rattle.boards.specs.declared.wheel_door.Wheels.{Wheels}
use Rattle.boards.specs.declared.wheel_door.Setting.{Setting}
use Rattle.boards.specs.declared.wheel_door.Turns.{Turns}
use Rattle.boards.specs.declared.wheel_door.WheelDoor.{WheelDoor}
use Rattle.boards.specs.Boards.{door}

-- the turn of a wheel from where it stands to where it is to stand: the shorter way, and 50 back rather than 50 forth
unfoldable pub turn_of : ℕ → ℕ → ℤ
turn_of from to = pos ((to + 150 - from) % 100) -ℤ pos 50

-- where a wheel stands after a turn, modulo 100
unfoldable pub turned_by : ℕ → ℤ → ℕ
turned_by at turn = unsigned_abs (pos (at + 100) +ℤ turn) % 100

abbrev pub three_wheels : ℕ → ℕ → ℕ → ℕ
three_wheels a b c = 10000 * a + 100 * b + c

-- the number that wheels show
abbrev pub setting_number : Setting → ℕ
setting_number w = three_wheels w.a.at w.b.at w.c.at

-- the number that wheels show after their turns
abbrev pub number_after : Setting → Turns → ℕ
number_after w t = three_wheels (turned_by w.a.at t.a.by) (turned_by w.b.at t.b.by) (turned_by w.c.at t.c.by)

-- each wheel stands at 0 to 99
abbrev pub in_range : Wheels → Bool
in_range w = nat_le w.a 99 && (nat_le w.b 99 && nat_le w.c 99)

-- the number that wheels show if they stand so
abbrev pub wheels_number : Wheels → ℕ
wheels_number w = three_wheels w.a w.b w.c

abbrev pub staged_by : Setting → Option Turns → Option KeyNumber
staged_by w None = None
staged_by w (Some t) = Some (key (number_after w t))

-- what a door with wheels shows: the number that they stand at, and the one that the turns lead to
abbrev pub shown : WheelDoor → Door
shown d = door (key (setting_number d.wheels)) (staged_by d.wheels d.turns)

-- every key number whose last two digits are 20 or more
abbrev pub wheel_takes : ℕ → Bool
wheel_takes n = is_key n && nat_le 20 (n % 100)
