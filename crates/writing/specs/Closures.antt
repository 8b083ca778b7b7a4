-- What a function that is handed over answers.
use Rattle.std.specs.Prelude.{◌≡◌}
use denote.Param.Members.{Shared}
use denote.Ref.{Bor}

-- at every value it answers what a definition says
abbrev pub Computes : {F T R : Type 0} → Shared F (Bor T × Unit {0}) R → F → (T → R) → Type 0
Computes {F} {T} {R} g f d = (x : Bor T) (r : R) → g.post f (x, tt) r → r ≡ d x.now
