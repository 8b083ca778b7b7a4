use Rattle.std.proofs.Common.{not, refl, ap, ◌∙◌, arith, rules, tests}
use Rattle.std.proofs.lemmas.Iterator.{YieldsList-from_range}
use Rattle.std.proofs.lemmas.Iterator.Search.{all_from_yields_List}
use Rattle.terms.specs.Numbers.{place}
use Rattle.boards.specs.Boards.{has_staged}
use Rattle.letters.proofs.Below.{all_below}
use Rattle.vault.specs.SetUps.{unstaged_below}
use Rattle.vault.proofs.Renews.{unstaged_none, unstaged_more}
use Rattle.vault.proofs.setting_up.is_idle.Goals as goal

pub returns : goal.returns
returns g c =
    let m = g.B.Board.meaning c.args.board.now in
    let n = c.places.result in
    all_from_yields_List (λ p. not (has_staged m (place p))) _ _ c.all.result c.all.ensures.ran (YieldsList-from_range 0 n n refl (omega arith)) (λ x b q k. search (rules, tests))
    ∙ all_below (λ p. not (has_staged m (place p))) (unstaged_below m) (unstaged_none m) (unstaged_more m) n
    ∙ ap (unstaged_below m) c.places.ensures
