use Rattle.std.proofs.Common.{◌||◌, not, get_or, is_some, None, refl, ◌∙◌, rules, tests}
use Rattle.std.proofs.lemmas.Iterator.{YieldsList-from_range}
use Rattle.std.proofs.lemmas.Iterator.Search.{all_from_yields_List}
use Rattle.controllers.proofs.Steps.{all_covered}
use Rattle.controllers.proofs.counts.covers.Goals as goal

pub returns : goal.returns
returns c =
    all_from_yields_List (λ n. not (is_some (get_or c.args.registered.now n None)) || is_some (get_or c.args.enrolled.now n None)) _ _ c.all.result c.all.ensures.ran (YieldsList-from_range 0 8 8 refl refl) (λ x b q k. search (rules, tests))
    ∙ all_covered c.args.registered.now c.args.enrolled.now
