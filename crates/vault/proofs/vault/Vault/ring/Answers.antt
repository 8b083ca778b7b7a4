use Rattle.vault.proofs.Laws.{keeps_laws}
use Rattle.vault.proofs.vault.Vault.ring.Goals as goal

pub returns : goal.returns
returns g c = assumption (keeps_laws c.ring_one.ensures)
