-- A letter that is retold twice.
use Rattle.std.proofs.Common.{◌≡◌, arith}
use Rattle.letters.specs.declared.bodies.Body.{Body}
use Rattle.letters.specs.Bodies.{retold}

module _ {C B C' B' D E : Type 0} (f : C → C') (g : B → B') (h : C' → D) (k : B' → E) where
  pub retold_twice : (b : Body C B) → retold (λ c. h (f c)) (λ b. k (g b)) b ≡ retold h k (retold f g b)
  retold_twice b = grind arith
