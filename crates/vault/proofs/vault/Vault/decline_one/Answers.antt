use Rattle.std.proofs.Common.{refl}
use Rattle.std.proofs.lemmas.Result.{err_from_is_err_and}
use Rattle.locks.specs.Rules.{decline_rule}
use Rattle.vault.proofs.Steps.{quiet_lock_step, no_lock_step, decline_quiet}
use Rattle.vault.proofs.vault.Vault.decline_one.Goals as goal

pub returns-in_err-at : goal.returns-in_err-at
returns-in_err-at g c =
    let p = err_from_is_err_and c.from_residual.result c.from_residual.ensures.1 in
    rw (p.1, p.2) (no_lock_step c.args.place _ _ refl c.in_err-at.ensures.value)

pub returns : goal.returns
returns g c = quiet_lock_step c.args.place decline_rule _ _ _ decline_quiet refl c.in_ok-at.ensures.value c.decline.ensures.call
