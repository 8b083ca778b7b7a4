use Rattle.writing.specs.Closures.{Computes}
use Rattle.writing.proofs.RowMaps.{MapSoFar}
use Rattle.writing.proofs.maps.map_of.Given as goal

-- the rows from the last down to those that are left
abbrev pub invariant-loop-row : goal.invariant-loop-row
invariant-loop-row g l =
    (goal.iterator-loop-row g).can_next l.row-iterator ×
    (goal.iterator-loop-row g).is_finite l.row-iterator ×
    MapSoFar (Computes g.F.Fn l.passes) l.rows l.row-iterator.iter.rest.now l.map
