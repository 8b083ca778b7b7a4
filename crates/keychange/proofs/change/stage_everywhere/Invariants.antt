use Rattle.std.proofs.Common.{◌≡◌}
use Rattle.keychange.specs.Everywhere.{staged_to, all_took}
use Rattle.keychange.proofs.change.stage_everywhere.Given as goal

abbrev pub invariant-loop-n : goal.invariant-loop-n
invariant-loop-n g l =
    (l.all ≡ all_took (g.B.Board.meaning l.initial.board) l.number l.n)
    × (g.B.Board.meaning l.board ≡ staged_to (g.B.Board.meaning l.initial.board) l.number l.n)
