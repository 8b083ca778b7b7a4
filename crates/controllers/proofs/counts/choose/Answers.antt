use Rattle.std.proofs.Common.{◌≡◌, ℕ, [], ◌∷◌, get_or, Option, None, fold, sym, refl, ap, ◌∙◌, rules, tests}
use Rattle.std.specs.List.{range_with_len}
use Rattle.std.proofs.iter.Yields.{nat_range_steps}
use Rattle.std.proofs.lemmas.Fn.{fold_over}
use Rattle.std.proofs.lemmas.Iterator.{YieldsList-from_range}
use Rattle.std.proofs.lemmas.List.Sums.{fold-append}
use Rattle.letters.specs.declared.certificates.Basis.{Basis}
use Rattle.controllers.specs.Choice.{stands_in, offer, better}
use Rattle.controllers.proofs.Steps.{best_folded}
use Rattle.controllers.proofs.counts.choose.Goals as goal

pub returns : goal.returns
returns c =
    let records = c.args.records.now in
    let movers = c.args.movers.0 in
    let v = c.args.view in
    let step : Option Basis → ℕ → Option Basis = λ b n. better b (offer (stands_in movers n) (get_or records n None) v) in
    fold_over nat_range_steps (λ x. x) _ (λ ys a. a ≡ fold step None ys) _
    (λ ys a x b f' j k. let more = ap (λ y. step y x) j ∙ sym (fold-append step None ys (x ∷ [])) in search (rules, tests))
    (record { start = 0; end = 16 }) (range_with_len 0 16) None c.fold.result (YieldsList-from_range 0 16 16 refl refl).runs refl c.fold.ensures.ran
    ∙ best_folded records movers v
