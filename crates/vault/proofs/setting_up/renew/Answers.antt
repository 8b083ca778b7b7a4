use Rattle.std.proofs.Common.{rules}
use Rattle.vault.proofs.Renews.{renewed_none, renewed_more}
use Rattle.vault.proofs.setting_up.renew.Goals as goal

pub loop-n-init : goal.loop-n-init
loop-n-init g c = search (rules, renewed_none)

pub loop-n-preserved : goal.loop-n-preserved
loop-n-preserved g c = search (rules, renewed_more)
