use Rattle.std.proofs.Common.{rules}
use Rattle.letters.specs.Sorts.{seal}
use Rattle.seals.proofs.Lengths.{same_length}
use Rattle.seals.proofs.sealing.seal_into.Goals as goal

pub returns : goal.returns
returns g c =
    let same = same_length c.args.change c.args.body.now c.sender_seal-seal.result (seal 0) in
    search rules
