use Rattle.agreement.proofs.Final.{honest_controllers_hold_one_result}
use Rattle.agreement.proofs.honest_controllers_hold_one_result.Goals as goal

pub returns : goal.returns
returns c = honest_controllers_hold_one_result
