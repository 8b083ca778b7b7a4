use Rattle.agreement.proofs.Final.{honest_locks_never_part_after}
use Rattle.agreement.proofs.honest_locks_never_part.Goals as goal

pub returns : goal.returns
returns c = honest_locks_never_part_after
