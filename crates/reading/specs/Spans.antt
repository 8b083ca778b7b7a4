-- The certificate and the basis in a letter's bytes.
use Rattle.std.specs.Prelude.{ℕ, ◌*◌, ◌/◌, ◌^◌, Bool, true, false, not, ◌&&◌, ◌||◌, List, Some, None, Ok, Option, ◌==◌, bit_and, count_ones, nat_lt}
use Rattle.terms.specs.declared.numbers.Change.{Change}
use Rattle.terms.specs.declared.numbers.View.{View}
use Rattle.terms.specs.declared.sizes.Sizes.{Sizes}
use Rattle.terms.specs.Parties.{leader_of}
use Rattle.terms.specs.Sizes.{seat_count}
use Rattle.letters.specs.Sorts.{stands}
use Rattle.reading.specs.Bind.{◌>>=◌}
use Rattle.reading.specs.Fields.{Read, checked, byte, two, seals, view_field, number_if, outcome_if, seal_field}
use Rattle.reading.specs.Parts.{Span, Spans, between}

-- ---- the certificate: maps and flag come before the bytes that they call for

-- a map of places, none of them at L or above
abbrev pub enrolled_field : Sizes → List ℕ → ℕ → Read ℕ
enrolled_field sizes xs at = do
  (n, next) ← byte xs at
  _ ← checked (n / 2 ^ sizes.locks == 0) at
  Ok (n, next)

-- a map of places, all of which stand in another map
abbrev pub places_field : ℕ → List ℕ → ℕ → Read ℕ
places_field of xs at = do
  (n, next) ← byte xs at
  _ ← checked (bit_and n of == n) at
  Ok (n, next)

-- 1 for a number, 0 for a cancel, under which nobody has voted
abbrev pub flag_field : ℕ → List ℕ → ℕ → Read Bool
flag_field voted xs at = do
  (n, next) ← byte xs at
  _ ← checked (n == 1 || (n == 0 && voted == 0)) at
  Ok ((n == 1), next)

abbrev pub certificate_fields : Sizes → List ℕ → ℕ → Read (Unit {0})
certificate_fields sizes xs at = do
  (enrolled, a1) ← enrolled_field sizes xs at
  (voted, a2) ← places_field enrolled xs a1
  (ready, a3) ← places_field voted xs a2
  (numbered, a4) ← flag_field voted xs a3
  (_, a5) ← number_if numbered xs a4
  (_, a6) ← seal_field xs a5
  (_, a7) ← seals (count_ones enrolled) xs a6
  seals (count_ones voted) xs a7

abbrev pub certificate_field : Sizes → List ℕ → ℕ → Read Span
certificate_field sizes xs at = do
  (_, next) ← certificate_fields sizes xs at
  Ok (between xs at next, next)

-- ---- the basis

-- its view lies below the letter's
abbrev pub basis_view_field : View → List ℕ → ℕ → Read View
basis_view_field view xs at = do
  (u, next) ← view_field xs at
  _ ← checked (nat_lt u.0 view.0) at
  Ok (u, next)

-- exactly 2f seats, none at N or above, the leader of the basis' view not among them
abbrev pub assenters_field : Sizes → Change → View → List ℕ → ℕ → Read ℕ
assenters_field sizes change u xs at = do
  (n, next) ← two xs at
  _ ← checked (n / 2 ^ seat_count sizes == 0 && (count_ones n == 2 * sizes.faults && not (stands n (leader_of sizes change u).0))) at
  Ok (n, next)

abbrev pub basis_fields : Sizes → Change → View → List ℕ → ℕ → Read (Unit {0})
basis_fields sizes change view xs at = do
  (u, a1) ← basis_view_field view xs at
  (_, a2) ← assenters_field sizes change u xs a1
  (_, a3) ← seal_field xs a2
  seals (2 * sizes.faults) xs a3

abbrev pub basis_field : Sizes → Change → View → List ℕ → ℕ → Read Span
basis_field sizes change view xs at = do
  (_, next) ← basis_fields sizes change view xs at
  Ok (between xs at next, next)

-- the outcome, the basis and its certificate, or nothing of them
abbrev pub grounds_if : Bool → Bool → Sizes → Change → View → List ℕ → ℕ → Read (Option Spans)
grounds_if false numbered sizes change view xs at = Ok (None, at)
grounds_if true numbered sizes change view xs at = do
  (outcome, a1) ← outcome_if numbered xs at
  (basis, a2) ← basis_field sizes change view xs a1
  (certificate, a3) ← certificate_field sizes xs a2
  Ok (Some (record { outcome = outcome; basis = basis; certificate = certificate }), a3)
