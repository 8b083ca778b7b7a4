-- What a board shows, and what its calls do to that.
use Rattle.std.specs.Prelude.{ℕ, Bool, true, cond, not, ◌&&◌, List, [], ◌∷◌, map, length, is_some, Some, None, Ok, Err, Option, Result, nat_le, nat_lt, slice_index_or, slice_set}
use Rattle.terms.specs.declared.numbers.Place.{Place}
use Rattle.terms.specs.declared.numbers.KeyNumber.{KeyNumber}
use Rattle.terms.specs.declared.refusals.Refusal.{Refusal}
use Rattle.terms.specs.Numbers.{key, within}
use Rattle.terms.specs.Refusals.{set_up}
use Rattle.boards.specs.declared.door.Door.{Door}

-- one door for each place, and which numbers a place takes
pub record Meaning : Type 0 where
  pub doors : List Door
  pub takes : ℕ → ℕ → Bool

abbrev pub door : KeyNumber → Option KeyNumber → Door
door n s = record { force = n; staged = s }

-- a number in force and nothing staged
abbrev pub idle : KeyNumber → Door
idle n = door n None

abbrev pub how_many : Meaning → ℕ
how_many b = length b.doors

abbrev pub has_place : Meaning → Place → Bool
has_place b p = nat_lt p.0 (how_many b)

-- the door at a place, if the board has the place
abbrev pub door_at : Meaning → Place → Option Door
door_at b p = within (has_place b p) (slice_index_or b.doors p.0 (idle (key 0)))

abbrev pub force_of : Option Door → Option KeyNumber
force_of None = None
force_of (Some d) = Some d.force

abbrev pub staged_of : Option Door → Option KeyNumber
staged_of None = None
staged_of (Some d) = d.staged

-- the number in force at a place, if the board has the place
abbrev pub in_force : Meaning → Place → Option KeyNumber
in_force b p = force_of (door_at b p)

-- the number staged at a place, if there is one
abbrev pub staged_at : Meaning → Place → Option KeyNumber
staged_at b p = staged_of (door_at b p)

abbrev pub has_staged : Meaning → Place → Bool
has_staged b p = is_some (staged_at b p)

-- whether a place takes a number; an absent place takes none
abbrev pub takes_at : Meaning → Place → ℕ → Bool
takes_at b p n = has_place b p && b.takes p.0 n

-- the board with another door at a place; the other places and the rule stay
abbrev pub with_door : Meaning → Place → Door → Meaning
with_door b p d = record { doors = slice_set b.doors p.0 d; takes = b.takes }

-- the board with a number, if there is one, in force at a place and nothing staged there
abbrev pub settled : Meaning → Place → Option KeyNumber → Meaning
settled b p None = b
settled b p (Some n) = with_door b p (idle n)

-- the board with a number staged at a place, beside the one in force, if there is one
abbrev pub awaiting : Meaning → Place → Option KeyNumber → KeyNumber → Meaning
awaiting b p None n = b
awaiting b p (Some force) n = with_door b p (door force (Some n))

-- staging: no if the place is absent, something is staged there, or it does not take the number
abbrev pub stages : Meaning → Place → KeyNumber → Bool
stages b p n = has_place b p && (not (has_staged b p) && b.takes p.0 n.0)

abbrev pub after_stage : Meaning → Place → KeyNumber → Meaning
after_stage b p n = cond (stages b p n) (awaiting b p (in_force b p) n) b

-- taking over: no if nothing is staged, else the staged number comes into force and nothing is staged
abbrev pub takes_over : Meaning → Place → Bool
takes_over b p = has_staged b p

abbrev pub after_take_over : Meaning → Place → Meaning
after_take_over b p = cond (takes_over b p) (settled b p (staged_at b p)) b

-- dropping: no if nothing is staged, else the number in force stays and nothing is staged
abbrev pub drops : Meaning → Place → Bool
drops b p = has_staged b p

abbrev pub after_drop : Meaning → Place → Meaning
after_drop b p = cond (drops b p) (settled b p (in_force b p)) b

-- whether all of a list pass a test
unfoldable pub each : {A : Type 0} → (A → Bool) → List A → Bool
each test [] = true
each test (x ∷ xs) = test x && each test xs

-- the board of a rule over a list: the number of each entry is in force at its place, and nothing is staged
abbrev pub fresh : {A : Type 0} → (A → ℕ) → (ℕ → Bool) → List A → Meaning
fresh number rule xs = record { doors = map (λ x. idle (key (number x))) xs; takes = λ p n. rule n }

-- such a board is made of one to eight entries, if all of them fit; else it is refused
abbrev pub made : {A : Type 0} → (A → Bool) → (A → ℕ) → (ℕ → Bool) → List A → Result Meaning Refusal
made fit number rule xs =
    cond ((nat_le 1 (length xs) && nat_le (length xs) 8) && each fit xs) (Ok (fresh number rule xs)) (Err set_up)

-- what was answered, with the meaning of the board
abbrev pub meant : {B : Type 0} → (B → Meaning) → Result B Refusal → Result Meaning Refusal
meant meaning (Ok b) = Ok (meaning b)
meant meaning (Err e) = Err e
