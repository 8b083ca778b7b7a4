use Rattle.vault.proofs.Laws.{keeps_laws}
use Rattle.vault.proofs.vault.Vault.order.Goals as goal

pub returns : goal.returns
returns g c = assumption (keeps_laws c.order_one.ensures.by_the_rules)
