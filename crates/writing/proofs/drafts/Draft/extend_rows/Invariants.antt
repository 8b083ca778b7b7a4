use Rattle.std.proofs.Common.{◌≡◌, ◌+◌, ◌*◌, ◌≤◌, ◌++◌, length, take, map}
use Rattle.letters.specs.Bytes.{row_bytes}
use Rattle.writing.specs.Closures.{Computes}
use Rattle.writing.proofs.drafts.Draft.extend_rows.Given as goal

-- the rows so far
abbrev pub invariant-loop-row : goal.invariant-loop-row
invariant-loop-row g l =
    ((seal : _) → Computes g.F.Fn l.seal_of seal → l.self ≡ l.initial.self ++ row_bytes (map seal (take l.row-index l.rows)))
    × (length l.self ≤ length l.initial.self + 8 * l.row-index)
