use Rattle.std.proofs.Common.{◌≡◌, ℕ, [], ◌∷◌, get_or, fold, sym, refl, ap, ◌∙◌, rules, tests, arith}
use Rattle.std.specs.List.{range_with_len}
use Rattle.std.proofs.iter.Yields.{nat_range_steps}
use Rattle.std.proofs.lemmas.Fn.{fold_over}
use Rattle.std.proofs.lemmas.Iterator.{YieldsList-from_range}
use Rattle.std.proofs.lemmas.List.Sums.{fold-append}
use Rattle.schemes.specs.Sheet.{added}
use Rattle.schemes.proofs.Sums.{all_added}
use Rattle.schemes.proofs.sheet_seals.sheet_sum.Goals as goal

pub returns : goal.returns
returns c =
    let first = c.unwrap_or-first.result in
    let step : ℕ → ℕ → ℕ = added c.args.words.now c.args.bytes.now in
    let begun : first ≡ get_or c.args.words.now 0 0 = search rules in
    fold_over nat_range_steps (λ x. x) _ (λ ys a. a ≡ fold step first ys) _
    (λ ys a x b f' j k. let more = ap (λ y. step y x) j ∙ sym (fold-append step first ys (x ∷ [])) in search (rules, tests))
    (record { start = 0; end = 24 }) (range_with_len 0 24) first c.fold.result (YieldsList-from_range 0 24 24 refl refl).runs refl c.fold.ensures.ran
    ∙ all_added c.args.words.now c.args.bytes.now first begun (omega arith)
