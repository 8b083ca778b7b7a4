-- A letter is as long under one seal as under another.
use Rattle.std.proofs.Common.{◌≡◌, ℕ, ◌+◌, length, sym, refl, ap, ◌∙◌, length-append}
use Rattle.terms.specs.declared.numbers.Change.{Change}
use Rattle.letters.specs.declared.sorts.Seal.{Seal}
use Rattle.letters.specs.declared.certificates.Basis.{Basis}
use Rattle.letters.specs.declared.certificates.Certificate.{Certificate}
use Rattle.letters.specs.declared.bodies.Body.{Body}
use Rattle.letters.specs.Bodies.{letter}
use Rattle.letters.specs.Bytes.{le8}
use Rattle.letters.specs.Layout.{body_bytes, layout}

eight : (n : ℕ) → length (le8 n) ≡ 8
unfolding le8
eight n = refl

pub sealed_length : (t : Change) (b : Body Certificate Basis) (z : Seal) → length (layout (letter t b z)) ≡ length (body_bytes t b) + 8
sealed_length t b z = length-append (body_bytes t b) (le8 z.0) ∙ ap (λ n. length (body_bytes t b) + n) (eight z.0)

pub same_length : (t : Change) (b : Body Certificate Basis) (y z : Seal) → length (layout (letter t b y)) ≡ length (layout (letter t b z))
same_length t b y z = sealed_length t b y ∙ sym (sealed_length t b z)
