-- The fields of a letter. Each reader takes the bytes and an offset, and gives a value and the
-- offset after it, or a refusal that points to the field.
use Rattle.std.specs.Prelude.{ℕ, ◌+◌, ◌-◌, ◌*◌, ◌/◌, ◌^◌, Bool, true, false, cond, ◌&&◌, List, length, take, drop, Some, None, Ok, Err, Option, Result, ◌==◌, count_ones, nat_le, nat_lt, slice_index}
use Rattle.terms.specs.declared.numbers.Change.{Change}
use Rattle.terms.specs.declared.numbers.KeyNumber.{KeyNumber}
use Rattle.terms.specs.declared.numbers.Place.{Place}
use Rattle.terms.specs.declared.numbers.Seat.{Seat}
use Rattle.terms.specs.declared.numbers.View.{View}
use Rattle.terms.specs.declared.parties.Outcome.{Outcome}
use Rattle.terms.specs.declared.parties.Outcome.TheVariants.{Keep, Number}
use Rattle.terms.specs.declared.parties.Party.{Party}
use Rattle.terms.specs.declared.parties.Party.TheVariants.{Controller, Lock, Office}
use Rattle.terms.specs.declared.refusals.FormCause.{FormCause}
use Rattle.terms.specs.declared.refusals.FormCause.TheVariants.{EndsInField, UnfitMap, OutOfRange, LeftOver}
use Rattle.terms.specs.declared.refusals.Cause.TheVariants.{Form}
use Rattle.terms.specs.declared.refusals.Refusal.{Refusal}
use Rattle.terms.specs.declared.sizes.Sizes.{Sizes}
use Rattle.terms.specs.Numbers.{change_of, key_of, view_of, within}
use Rattle.terms.specs.Parties.{party_in, place_in}
use Rattle.terms.specs.Sizes.{seat_count, quorum_of}
use Rattle.letters.specs.declared.sorts.Answer.{Answer}
use Rattle.letters.specs.declared.sorts.Digest.{Digest}
use Rattle.letters.specs.declared.sorts.Kind.{Kind}
use Rattle.letters.specs.declared.sorts.Seal.{Seal}
use Rattle.letters.specs.declared.sorts.SeatSet.{SeatSet}
use Rattle.letters.specs.Bytes.{two_at, four_at, eight_at}
use Rattle.letters.specs.Sorts.{seal, digest, seat_set, stands, kind_of, answer_of}
use Rattle.reading.specs.Bind.{◌>>=◌}

abbrev pub Read : Type 0 → Type 0
Read A = Result (A × ℕ) Refusal

abbrev pub refusal : FormCause → ℕ → Refusal
refusal c at = record { cause = Form c; place = at }

abbrev pub refuse : {A : Type 0} → FormCause → ℕ → Result A Refusal
refuse c at = Err (refusal c at)

-- the value of a field that began at `at`, if it is in range
abbrev pub ranged : {A : Type 0} → Option A → ℕ → Result A Refusal
ranged (Some v) at = Ok v
ranged None at = refuse OutOfRange at

abbrev pub checked : Bool → ℕ → Result (Unit {0}) Refusal
checked fits at = cond fits (Ok tt) (refuse OutOfRange at)

-- the next n bytes, if the bytes reach so far
abbrev pub next : ℕ → List ℕ → ℕ → Option (List ℕ)
next n xs at = within (nat_le (at + n) (length xs)) (take n (drop at xs))

abbrev pub taken : ℕ → List ℕ → ℕ → Read (List ℕ)
taken n xs at = cond (nat_le (at + n) (length xs)) (Ok (take n (drop at xs), at + n)) (refuse EndsInField at)

-- n bytes with the value v, where the bytes reach so far
abbrev pub sized : ℕ → ℕ → List ℕ → ℕ → Read ℕ
sized n v xs at = cond (nat_le (at + n) (length xs)) (Ok (v, at + n)) (refuse EndsInField at)

abbrev pub byte : List ℕ → ℕ → Read ℕ
byte xs at = sized 1 (slice_index xs at) xs at

abbrev pub two : List ℕ → ℕ → Read ℕ
two xs at = sized 2 (two_at xs at) xs at

abbrev pub four : List ℕ → ℕ → Read ℕ
four xs at = sized 4 (four_at xs at) xs at

abbrev pub eight : List ℕ → ℕ → Read ℕ
eight xs at = sized 8 (eight_at xs at) xs at

-- n seals of eight bytes each; the first one that the bytes do not reach is where they end
abbrev pub seals : ℕ → List ℕ → ℕ → Read (Unit {0})
seals n xs at = cond (nat_le (at + n * 8) (length xs)) (Ok (tt, at + n * 8)) (refuse EndsInField (at + (length xs - at) / 8 * 8))

-- the map: bit 0 stands, and none from bit 13 on
abbrev pub map_field : List ℕ → ℕ → Read ℕ
map_field xs at = do
  (map, next) ← two xs at
  cond (nat_lt map 8192 && stands map 0) (Ok (map, next)) (refuse UnfitMap at)

abbrev pub kind_field : List ℕ → ℕ → Read Kind
kind_field xs at = do
  (n, next) ← byte xs at
  kind ← ranged (kind_of n) at
  Ok (kind, next)

abbrev pub change_field : List ℕ → ℕ → Read Change
change_field xs at = do
  (n, next) ← byte xs at
  change ← ranged (change_of n) at
  Ok (change, next)

-- the party of the vault that the byte names, if any
abbrev pub party_field : Sizes → List ℕ → ℕ → Read (Option Party)
party_field sizes xs at = do
  (n, next) ← byte xs at
  Ok (party_in sizes n, next)

abbrev pub lock_of : Option Party → Option Place
lock_of None = None
lock_of (Some (Controller s)) = None
lock_of (Some (Lock p)) = Some p
lock_of (Some Office) = None

abbrev pub controller_of : Option Party → Option Seat
controller_of None = None
controller_of (Some (Controller s)) = Some s
controller_of (Some (Lock p)) = None
controller_of (Some Office) = None

abbrev pub office_of : Option Party → Option (Unit {0})
office_of None = None
office_of (Some (Controller s)) = None
office_of (Some (Lock p)) = None
office_of (Some Office) = Some tt

-- a sender that is a lock of the vault
abbrev pub lock_field : Sizes → List ℕ → ℕ → Read Place
lock_field sizes xs at = do
  (party, next) ← party_field sizes xs at
  sender ← ranged (lock_of party) at
  Ok (sender, next)

-- a sender that is a controller of the vault
abbrev pub controller_field : Sizes → List ℕ → ℕ → Read Seat
controller_field sizes xs at = do
  (party, next) ← party_field sizes xs at
  sender ← ranged (controller_of party) at
  Ok (sender, next)

-- a sender that is the office
abbrev pub office_field : Sizes → List ℕ → ℕ → Read (Unit {0})
office_field sizes xs at = do
  (party, next) ← party_field sizes xs at
  _ ← ranged (office_of party) at
  Ok (tt, next)

abbrev pub place_field : Sizes → List ℕ → ℕ → Read Place
place_field sizes xs at = do
  (n, next) ← byte xs at
  place ← ranged (place_in sizes n) at
  Ok (place, next)

abbrev pub view_field : List ℕ → ℕ → Read View
view_field xs at = do
  (n, next) ← byte xs at
  Ok (view_of n, next)

abbrev pub number_field : List ℕ → ℕ → Read KeyNumber
number_field xs at = do
  (n, next) ← four xs at
  number ← ranged (key_of n) at
  Ok (number, next)

-- an absent number cancels
abbrev pub number_if : Bool → List ℕ → ℕ → Read (Option KeyNumber)
number_if false xs at = Ok (None, at)
number_if true xs at = do
  (number, next) ← number_field xs at
  Ok (Some number, next)

-- an absent number means keep
abbrev pub outcome_if : Bool → List ℕ → ℕ → Read Outcome
outcome_if false xs at = Ok (Keep, at)
outcome_if true xs at = do
  (number, next) ← number_field xs at
  Ok (Number number, next)

abbrev pub answer_field : List ℕ → ℕ → Read Answer
answer_field xs at = do
  (n, next) ← byte xs at
  answer ← ranged (answer_of n) at
  Ok (answer, next)

abbrev pub digest_field : List ℕ → ℕ → Read Digest
digest_field xs at = do
  (n, next) ← eight xs at
  Ok (digest n, next)

abbrev pub seal_field : List ℕ → ℕ → Read Seal
seal_field xs at = do
  (n, next) ← eight xs at
  Ok (seal n, next)

-- exactly 2f + 1 seats, none at N or above; nobody where the field is absent
abbrev pub movers_if : Bool → Sizes → List ℕ → ℕ → Read SeatSet
movers_if false sizes xs at = Ok (seat_set 0, at)
movers_if true sizes xs at = do
  (n, next) ← two xs at
  _ ← checked (n / 2 ^ seat_count sizes == 0 && count_ones n == quorum_of sizes) at
  Ok (seat_set n, next)

-- no byte is left over
abbrev pub ended : List ℕ → ℕ → Result (Unit {0}) Refusal
ended xs at = cond (nat_le (length xs) at) (Ok tt) (refuse LeftOver at)
