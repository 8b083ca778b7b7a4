use Rattle.std.proofs.Common.{◌∙◌, rules}
use Rattle.reading.specs.Parts.{span, spans}
use Rattle.kept.specs.Kept.{certificate_of, basis_in}
use Rattle.kept.proofs.Retold.{retold_twice}
use Rattle.kept.proofs.keep.Goals as goal

pub returns : goal.returns
returns c =
    c.retold.ensures (λ p. certificate_of (span p)) (λ g. basis_in (spans g)) (λ p k h. search rules) (λ g k h. search rules)
    ∙ retold_twice span spans certificate_of basis_in c.args.body
