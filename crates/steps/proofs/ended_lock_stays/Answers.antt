use Rattle.steps.proofs.Locks.{ended_lock_stays}
use Rattle.steps.proofs.ended_lock_stays.Goals as goal

pub returns : goal.returns
returns c = ended_lock_stays
