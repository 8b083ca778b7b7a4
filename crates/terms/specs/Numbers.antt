-- Five sorts of number, and the range of each.
use Rattle.std.specs.Prelude.{ℕ, Bool, cond, ◌&&◌, Some, None, Option, nat_le, nat_lt}
use Rattle.terms.specs.declared.numbers.Seat.{Seat}
use Rattle.terms.specs.declared.numbers.Place.{Place}
use Rattle.terms.specs.declared.numbers.View.{View}
use Rattle.terms.specs.declared.numbers.Change.{Change}
use Rattle.terms.specs.declared.numbers.KeyNumber.{KeyNumber}

abbrev pub seat : ℕ → Seat
seat n = record { 0 = n }

abbrev pub place : ℕ → Place
place n = record { 0 = n }

-- a view is any byte
abbrev pub view_of : ℕ → View
view_of n = record { 0 = n }

abbrev pub change : ℕ → Change
change n = record { 0 = n }

abbrev pub key : ℕ → KeyNumber
key n = record { 0 = n }

-- the number, if it is in the range of its sort
abbrev pub within : {A : Type 0} → Bool → A → Option A
within ok x = cond ok (Some x) None

-- the seats of any vault: 0 to 15
abbrev pub is_seat : ℕ → Bool
is_seat n = nat_lt n 16

abbrev pub seat_of : ℕ → Option Seat
seat_of n = within (is_seat n) (seat n)

-- the places of any vault or board: 0 to 7
abbrev pub is_place : ℕ → Bool
is_place n = nat_lt n 8

abbrev pub place_of : ℕ → Option Place
place_of n = within (is_place n) (place n)

-- the numbers of changes: 1 to 255
abbrev pub is_change : ℕ → Bool
is_change n = nat_le 1 n && nat_le n 255

abbrev pub change_of : ℕ → Option Change
change_of n = within (is_change n) (change n)

-- key numbers: 0 to 999,999
abbrev pub is_key : ℕ → Bool
is_key n = nat_le n 999999

abbrev pub key_of : ℕ → Option KeyNumber
key_of n = within (is_key n) (key n)
