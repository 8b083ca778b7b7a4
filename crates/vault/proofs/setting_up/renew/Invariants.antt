use Rattle.std.proofs.Common.{◌≡◌}
use Rattle.vault.specs.SetUps.{renewed}
use Rattle.vault.proofs.setting_up.renew.Given as goal

abbrev pub invariant-loop-n : goal.invariant-loop-n
invariant-loop-n g l = l.units ≡ renewed g.U.Numbered.new_at l.n l.initial.units
