use Rattle.std.proofs.Common.{◌||◌, not, get_or, None, refl, ◌∙◌, rules, tests}
use Rattle.std.proofs.lemmas.Iterator.{YieldsList-from_range}
use Rattle.std.proofs.lemmas.Iterator.Search.{all_from_yields_List}
use Rattle.controllers.specs.Choice.{stands_in, names}
use Rattle.controllers.proofs.Steps.{all_have_record}
use Rattle.controllers.proofs.counts.all_recorded.Goals as goal

pub returns : goal.returns
returns c =
    all_from_yields_List (λ n. not (stands_in c.args.movers.0 n) || names (get_or c.args.records.now n None) c.args.view) _ _ c.all.result c.all.ensures.ran (YieldsList-from_range 0 16 16 refl refl) (λ x b q k. search (rules, tests))
    ∙ all_have_record c.args.records.now c.args.movers.0 c.args.view
