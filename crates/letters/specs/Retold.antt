-- The same letter, with another account of its certificate and its basis, each of which an account fits.
use Rattle.std.specs.Prelude.{◌≡◌}
use Rattle.letters.specs.declared.bodies.Body.{Body}
use Rattle.letters.specs.Bodies.{retold}

-- whatever functions give the only accounts that fit, the letter is retold by them
abbrev pub RetoldBy : {C B C' B' : Type 0} → (C → C' → Type 0) → (B → B' → Type 0) → Body C B → Body C' B' → Type 0
RetoldBy {C = C} {B = B} {C' = C'} {B' = B'} fits suits old new =
    (f : C → C') (g : B → B') → ((c : C) (c' : C') → fits c c' → c' ≡ f c) → ((b : B) (b' : B') → suits b b' → b' ≡ g b) → new ≡ retold f g old
