use Rattle.std.proofs.Common.{Some, None, ap, ◌∙◌}
use Rattle.terms.specs.Numbers.{seat}
use Rattle.terms.specs.Sizes.{seat_count}
use Rattle.controllers.specs.declared.controller.Controller.{Controller}
use Rattle.controllers.specs.Letters.{fresh_controller}
use Rattle.vault.proofs.Steps.{asked_at, ok_at}
use Rattle.vault.proofs.vault.Vault.view.Goals as goal

pub returns : goal.returns
returns c =
    let n = c.args.seat in
    ap Some c.view.ensures ∙ asked_at (λ (x : Controller). Some x.view) None c.args.controllers.now n (seat_count c.args.self.now.sizes) c.in_ok-at.at _ (fresh_controller (seat n)) (ok_at _ _ c.in_ok-at.ensures.value ∙ c.seat_at.ensures.value)
