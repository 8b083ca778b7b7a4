use Rattle.steps.proofs.Once.{at_most_one_voice_a_view}
use Rattle.steps.proofs.at_most_one_voice_a_view.Goals as goal

pub returns : goal.returns
returns c = at_most_one_voice_a_view
