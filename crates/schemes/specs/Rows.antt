-- The rows of keys or words, by party.
use Rattle.std.specs.Prelude.{ℕ, ◌+◌, Bool, List, length, nat_le}
use Rattle.terms.specs.declared.parties.Party.{Party}
use Rattle.terms.specs.declared.parties.Party.TheVariants.{Controller, Lock, Office}

-- controllers 0 to 15, locks 16 to 23, the office 24
abbrev pub row_of : Party → ℕ
row_of (Controller s) = s.0
row_of (Lock p) = 16 + p.0
row_of Office = 24

-- rows for all parties; more are taken
abbrev pub enough : {A : Type 0} → List A → Bool
enough rows = nat_le 25 (length rows)
