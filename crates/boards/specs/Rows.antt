-- A row of doors of one kind.
use Rattle.std.specs.Prelude.{ℕ, Bool, List, take}
use Rattle.boards.specs.declared.door.Door.{Door}
use Rattle.boards.specs.declared.row.Row.{Row}
use Rattle.boards.specs.Boards.{Meaning}

-- its first doors, as they show themselves, and the rule of their kind
abbrev pub row_meaning : {D : Type 0} → (List D → List Door) → (ℕ → Bool) → Row D → Meaning
row_meaning show rule r = record { doors = show (take r.places r.doors); takes = λ p n. rule n }
