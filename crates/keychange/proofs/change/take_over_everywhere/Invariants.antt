use Rattle.std.proofs.Common.{◌≡◌}
use Rattle.keychange.specs.Everywhere.{taken_over_to}
use Rattle.keychange.proofs.change.take_over_everywhere.Given as goal

abbrev pub invariant-loop-n : goal.invariant-loop-n
invariant-loop-n g l = g.B.Board.meaning l.board ≡ taken_over_to (g.B.Board.meaning l.initial.board) l.n
