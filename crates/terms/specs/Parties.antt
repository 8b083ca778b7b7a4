-- The parties of a vault, their numbers, and the leader of a view.
use Rattle.std.specs.Prelude.{ℕ, ◌+◌, ◌-◌, ◌%◌, cond, Some, None, Option, ◌==◌, nat_le, nat_lt}
use Rattle.terms.specs.declared.numbers.Seat.{Seat}
use Rattle.terms.specs.declared.numbers.Place.{Place}
use Rattle.terms.specs.declared.numbers.View.{View}
use Rattle.terms.specs.declared.numbers.Change.{Change}
use Rattle.terms.specs.declared.sizes.Sizes.{Sizes}
use Rattle.terms.specs.declared.parties.Party.{Party}
use Rattle.terms.specs.declared.parties.Party.TheVariants.{Controller, Lock, Office}
use Rattle.terms.specs.Numbers.{seat, place, within}
use Rattle.terms.specs.Sizes.{seat_count}

-- a party's number in letters and statements: a seat is itself, place p is 32 + p, the office is 64
abbrev pub party_number : Party → ℕ
party_number (Controller s) = s.0
party_number (Lock p) = 32 + p.0
party_number Office = 64

-- the seats of a vault: 0 to N - 1
abbrev pub seat_in : Sizes → ℕ → Option Seat
seat_in sizes n = within (nat_lt n (seat_count sizes)) (seat n)

-- the places of a vault: 0 to L - 1
abbrev pub place_in : Sizes → ℕ → Option Place
place_in sizes n = within (nat_lt n sizes.locks) (place n)

abbrev pub as_lock : Option Place → Option Party
as_lock (Some p) = Some (Lock p)
as_lock None = None

abbrev pub as_controller : Option Seat → Option Party
as_controller (Some s) = Some (Controller s)
as_controller None = None

-- the party of a vault that has a number
abbrev pub party_in : Sizes → ℕ → Option Party
party_in sizes n = cond (n == 64) (Some Office) (cond (nat_le 32 n) (as_lock (place_in sizes (n - 32))) (as_controller (seat_in sizes n)))

-- the seat that leads a view of a change: the leaders take turns, seats rising
abbrev pub leader_of : Sizes → Change → View → Seat
leader_of sizes change view = seat (view.0 % seat_count sizes)
