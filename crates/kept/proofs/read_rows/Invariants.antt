use Rattle.std.proofs.Common.{◌≡◌, ◌+◌, ◌-◌, ◌*◌, ◌≤◌, ◌++◌, length, take}
use Rattle.letters.specs.Bytes.{rows_at}
use Rattle.kept.proofs.read_rows.Given as goal

abbrev pub invariant-loop-row : goal.invariant-loop-row
invariant-loop-row l = (l.at ≤ l.from + 8 * l.row-index) × (take l.row-index l.rows ++ rows_at (length l.fn.rows - l.row-index) l.left l.bytes l.at ≡ rows_at (length l.fn.rows) l.map l.bytes l.from)
