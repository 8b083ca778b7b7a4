use Rattle.vault.proofs.Laws.{keeps_laws}
use Rattle.vault.proofs.vault.Vault.hand_in.Goals as goal

pub returns : goal.returns
returns g c = assumption (keeps_laws c.hand_in_one.ensures)
