use Rattle.vault.proofs.Laws.{keeps_laws}
use Rattle.vault.proofs.vault.Vault.propose.Goals as goal

pub returns : goal.returns
returns g c = assumption (keeps_laws c.propose_one.ensures)
