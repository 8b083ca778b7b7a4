use Rattle.agreement.proofs.Final.{supported_numbers_stand_after}
use Rattle.agreement.proofs.supported_numbers_stand.Goals as goal

pub returns : goal.returns
returns c = supported_numbers_stand_after
