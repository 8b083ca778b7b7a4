-- The longest letter of a vault.
use Rattle.std.specs.Prelude.{◌≡◌, ℕ, ◌+◌, ◌*◌, ◌≤◌, true, length}
use Rattle.terms.specs.declared.sizes.Sizes.{Sizes}
use Rattle.letters.specs.declared.certificates.Certificate.{Certificate}
use Rattle.letters.specs.declared.certificates.Basis.{Basis}
use Rattle.letters.specs.declared.bodies.Letter.{Letter}
use Rattle.letters.specs.Layout.{layout}
use Rattle.letters.specs.Ranges.{letter_fits}

-- a move with a number: head, view, number; basis with 2f seals; certificate with a seal of each
-- lock's enrolment and vote; seal
abbrev pub longest_of : Sizes → ℕ
longest_of sizes = 5 + 1 + 4 + (1 + 2 + 8 + 16 * sizes.faults) + (4 + 4 + 8 + 16 * sizes.locks) + 8

-- so many bytes hold every letter within range
abbrev pub Suffices : Sizes → ℕ → Type 0
Suffices sizes n = (l : Letter Certificate Basis) → letter_fits sizes l ≡ true → length (layout l) ≤ n
