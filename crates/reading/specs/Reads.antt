-- How the code's reader goes by a definition.
use Rattle.std.specs.Prelude.{◌≡◌, ℕ, List, Ok, Err, Option, Result}
use Rattle.terms.specs.declared.refusals.Refusal.{Refusal}
use Rattle.letters.specs.declared.bodies.Body.{Body}
use Rattle.letters.specs.Bodies.{each_basis, retold}
use Rattle.reading.specs.declared.fields.Reader.{Reader}
use Rattle.reading.specs.declared.parts.Part.{Part}
use Rattle.reading.specs.declared.parts.Grounds.{Grounds}
use Rattle.reading.specs.Fields.{Read}
use Rattle.reading.specs.Parts.{Span, Spans, span, spans}

-- called on s, it left the reader as t and gave r, as the definition f does
abbrev pub Reads : {A : Type 0} → (List ℕ → ℕ → Read A) → Reader → Reader → Result A Refusal → Type 0
Reads f s t r = (t.bytes.now ≡ s.bytes.now) × (f s.bytes.now s.at ≡ elim r [ Ok v ↦ Ok (v, t.at) | Err e ↦ Err e ])

-- the same of a part of the bytes
abbrev pub ReadsSpan : (List ℕ → ℕ → Read Span) → Reader → Reader → Result Part Refusal → Type 0
ReadsSpan f s t r = (t.bytes.now ≡ s.bytes.now) × (f s.bytes.now s.at ≡ elim r [ Ok v ↦ Ok (span v, t.at) | Err e ↦ Err e ])

-- the same of the grounds of a move
abbrev pub ReadsGrounds : (List ℕ → ℕ → Read (Option Spans)) → Reader → Reader → Result (Option Grounds) Refusal → Type 0
ReadsGrounds f s t r = (t.bytes.now ≡ s.bytes.now) × (f s.bytes.now s.at ≡ elim r [ Ok v ↦ Ok (each_basis spans v, t.at) | Err e ↦ Err e ])

-- the same of what a letter says
abbrev pub ReadsBody : (List ℕ → ℕ → Read (Body Span Spans)) → Reader → Reader → Result (Body Part Grounds) Refusal → Type 0
ReadsBody f s t r = (t.bytes.now ≡ s.bytes.now) × (f s.bytes.now s.at ≡ elim r [ Ok v ↦ Ok (retold span spans v, t.at) | Err e ↦ Err e ])
