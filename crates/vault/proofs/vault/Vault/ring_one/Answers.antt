use Rattle.std.proofs.Common.{refl}
use Rattle.std.proofs.lemmas.Result.{err_from_is_err_and}
use Rattle.posting.specs.Calls.{pointed}
use Rattle.controllers.specs.Rules.{ring_rule}
use Rattle.vault.proofs.Steps.{controller_step, no_controller_step}
use Rattle.vault.proofs.vault.Vault.ring_one.Goals as goal

pub returns-in_err-at : goal.returns-in_err-at
returns-in_err-at g c =
    let p = err_from_is_err_and c.from_residual.result c.from_residual.ensures.1 in
    rw (p.1, p.2) (no_controller_step c.args.seat _ _ refl c.in_err-at.ensures.value)

pub returns : goal.returns
returns g c = controller_step c.args.seat (λ u _. pointed 0 (ring_rule u)) _ _ _ refl c.in_ok-at.ensures.value c.ring.ensures
