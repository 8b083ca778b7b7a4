use Rattle.letters.specs.Sorts.{seal}
use Rattle.seals.proofs.Lengths.{same_length}
use Rattle.posting.proofs.post.post_one.Goals as goal

pub returns-clause-as_long : goal.returns-clause-as_long
returns-clause-as_long g c = same_length c.args.change c.args.body c.in-Ok.sent.seal (seal 0)
