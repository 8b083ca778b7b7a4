use Rattle.steps.proofs.Within.{locks_stay_in_range}
use Rattle.steps.proofs.locks_stay_in_range.Goals as goal

pub returns : goal.returns
returns c = locks_stay_in_range
