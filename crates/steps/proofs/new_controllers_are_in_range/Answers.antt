use Rattle.steps.proofs.Within.{new_controllers_are_in_range}
use Rattle.steps.proofs.new_controllers_are_in_range.Goals as goal

pub returns : goal.returns
returns c = new_controllers_are_in_range
