use Rattle.std.proofs.Common.{Some, None, ap, ◌∙◌}
use Rattle.terms.specs.Numbers.{place}
use Rattle.locks.specs.declared.lock.Lock.{Lock}
use Rattle.locks.specs.Fresh.{fresh_lock}
use Rattle.vault.proofs.Steps.{asked_at, ok_at}
use Rattle.vault.proofs.vault.Vault.standing.Goals as goal

pub returns : goal.returns
returns c =
    let n = c.args.place in
    ap Some c.standing.ensures ∙ asked_at (λ (x : Lock). Some x.standing) None c.args.locks.now n c.args.self.now.sizes.locks c.in_ok-at.at _ (fresh_lock (place n)) (ok_at _ _ c.in_ok-at.ensures.value ∙ c.place_at.ensures.value)
