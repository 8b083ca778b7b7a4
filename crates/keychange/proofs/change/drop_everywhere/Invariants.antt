use Rattle.std.proofs.Common.{◌≡◌}
use Rattle.keychange.specs.Everywhere.{dropped_to}
use Rattle.keychange.proofs.change.drop_everywhere.Given as goal

abbrev pub invariant-loop-n : goal.invariant-loop-n
invariant-loop-n g l = g.B.Board.meaning l.board ≡ dropped_to (g.B.Board.meaning l.initial.board) l.n
