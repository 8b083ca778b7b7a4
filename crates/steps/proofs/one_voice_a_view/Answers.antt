use Rattle.steps.proofs.Voices.{one_voice_a_view}
use Rattle.steps.proofs.one_voice_a_view.Goals as goal

pub returns : goal.returns
returns c = one_voice_a_view
