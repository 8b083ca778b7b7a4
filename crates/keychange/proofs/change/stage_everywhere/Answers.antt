use Rattle.std.proofs.Common.{rules, add-one}
use Rattle.keychange.specs.Everywhere.{staged_to, all_took}
use Rattle.keychange.proofs.change.stage_everywhere.Goals as goal

pub loop-n-preserved : goal.loop-n-preserved
unfolding staged_to all_took
loop-n-preserved g c = search (rules, add-one)
