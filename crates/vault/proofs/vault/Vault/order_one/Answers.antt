use Rattle.std.proofs.Common.{refl}
use Rattle.vault.proofs.Steps.{step_by, office_turn}
use Rattle.vault.proofs.vault.Vault.order_one.Goals as goal

pub returns-clause-by_the_rules : goal.returns-clause-by_the_rules
returns-clause-by_the_rules g c = step_by _ _ _ _ _ refl (office_turn _ _ _ _ _ c.order.ensures)
