-- Rows of steps of one controller, and the voices that it gives in them.
use Rattle.std.specs.Prelude.{ℕ, ◌≤◌, List, [], ◌∷◌, ◌++◌, Some, None, count_by, Option, nat_eq}
use Rattle.terms.specs.declared.numbers.Change.{Change}
use Rattle.terms.specs.declared.sizes.Sizes.{Sizes}
use Rattle.letters.specs.declared.sorts.Seal.{Seal}
use Rattle.posting.specs.declared.few.AtMostTwo.TheVariants.{Nothing, One, Two}
use Rattle.posting.specs.Replies.{Bodies}
use Rattle.controllers.specs.declared.controller.Controller.{Controller}
use Rattle.steps.specs.Steps.{ControllerStep, controller_next, controller_sends}
use Rattle.steps.specs.Laws.{Voice, voice_of}

abbrev pub listed : Option Voice → List Voice
listed None = []
listed (Some k) = k ∷ []

-- the proposals and assents among the letters of a step
abbrev pub voices_in : Bodies → List Voice
voices_in Nothing = []
voices_in (One b) = listed (voice_of b)
voices_in (Two b c) = listed (voice_of b) ++ listed (voice_of c)

-- and among those of a whole row of steps, each with the seal under what is sent first
unfoldable pub voices_of : Sizes → Change → Controller → List (ControllerStep × Seal) → List Voice
voices_of sizes t u [] = []
voices_of sizes t u (s ∷ ss) = voices_in (controller_sends sizes t u s.0 s.1) ++ voices_of sizes t (controller_next sizes t u s.0 s.1) ss

-- in a whole row of steps at most one proposal or assent is sent in each view
abbrev pub AtMostOneVoiceAView : Type 0
AtMostOneVoiceAView = (sizes : Sizes) (t : Change) (u : Controller) (ss : List (ControllerStep × Seal)) (v : ℕ) → count_by (λ k. nat_eq k.view.0 v) (voices_of sizes t u ss) ≤ 1
