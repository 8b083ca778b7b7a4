-- Parts of a letter's bytes, without references.
use Rattle.std.specs.Prelude.{ℕ, ◌-◌, List, take, drop, Ok, Err, Result}
use Rattle.terms.specs.declared.parties.Outcome.{Outcome}
use Rattle.terms.specs.declared.refusals.Refusal.{Refusal}
use Rattle.letters.specs.declared.bodies.Letter.{Letter}
use Rattle.letters.specs.Bodies.{retold, letter}
use Rattle.reading.specs.declared.parts.Part.{Part}
use Rattle.reading.specs.declared.parts.Grounds.{Grounds}

-- some bytes of a letter, and their offset in it
pub record Span : Type 0 where
  pub bytes : List ℕ
  pub offset : ℕ

-- the basis of a move, with the outcome and the certificate that it is for
pub record Spans : Type 0 where
  pub outcome : Outcome
  pub basis : Span
  pub certificate : Span

-- the bytes from one offset up to another
abbrev pub between : List ℕ → ℕ → ℕ → Span
between xs from to = record { bytes = take (to - from) (drop from xs); offset = from }

-- ---- what the code's parts show

abbrev pub span : Part → Span
span p = record { bytes = p.bytes.now; offset = p.offset }

abbrev pub spans : Grounds → Spans
spans g = record { outcome = g.outcome; basis = span g.basis; certificate = span g.certificate }

abbrev pub shown : Letter Part Grounds → Letter Span Spans
shown l = letter l.change (retold span spans l.body) l.seal

abbrev pub told : Result (Letter Part Grounds) Refusal → Result (Letter Span Spans) Refusal
told (Ok l) = Ok (shown l)
told (Err e) = Err e
