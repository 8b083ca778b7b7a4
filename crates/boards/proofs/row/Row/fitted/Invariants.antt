use Rattle.std.proofs.Common.{◌≡◌, map, length, take}
use Rattle.terms.specs.Numbers.{key}
use Rattle.boards.specs.Boards.{idle}
use Rattle.boards.proofs.Made.{Filled}
use Rattle.boards.proofs.row.Row.fitted.Given as goal

abbrev pub invariant-loop-i : goal.invariant-loop-i
invariant-loop-i g l = (length l.doors ≡ 8) × Filled g.D.DoorKind.fits (λ e. idle (key (g.D.DoorKind.entry_number e))) l.entries l.i (map g.D.DoorKind.shown (take l.i l.doors))
