use Rattle.std.proofs.Common.{◌≡◌, true, sym, ◌∙◌, arith}
use Rattle.std.proofs.lemmas.Bool.Decides.{nat_tests}
use Rattle.posting.specs.declared.few.AtMostTwo.TheVariants.{Two}
use Rattle.posting.specs.Posting.{postable}
use Rattle.posting.proofs.Writes.{then_written, chosen}
use Rattle.posting.proofs.post.post_two.Goals as goal

pub returns-clause-output : goal.returns-clause-output
returns-clause-output g c =
    let one = c.post_one.ensures in
    let two = c.post_one-2.ensures in
    let room : postable c.args.change (Two c.args.first c.args.second) c.args.scratch.now c.args.out.now ≡ true = grind (arith, nat_tests) in
    then_written _ _ _ _ c.args.out.now _ one.output (c.unsealed_length-length.ensures ∙ sym one.as_long) two.output ∙ chosen _ _ room
