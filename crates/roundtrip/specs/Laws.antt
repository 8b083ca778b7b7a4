-- What is written is read back, what is read has one form, and the bytes of statements tell them apart.
use Rattle.std.specs.Prelude.{◌≡◌, ℕ, ◌<◌, true, List, Some, None, Ok, Err, Option, Result as Res, slice_index}
use Rattle.terms.specs.declared.refusals.Refusal.{Refusal}
use Rattle.terms.specs.declared.sizes.Sizes.{Sizes}
use Rattle.letters.specs.declared.certificates.Certificate.{Certificate}
use Rattle.letters.specs.declared.certificates.Basis.{Basis}
use Rattle.letters.specs.declared.bodies.Letter.{Letter}
use Rattle.letters.specs.declared.bodies.Body.{Body}
use Rattle.letters.specs.declared.bodies.Body.TheVariants.{Enrol, Receipt, Order, Summons, Vote, Proposal, Assent, Confirm, Result, Move}
use Rattle.letters.specs.declared.statements.Statement.{Statement}
use Rattle.letters.specs.Bodies.{in_brief}
use Rattle.letters.specs.Certificates.{certificate_bytes, certificate_digest, digest_of}
use Rattle.letters.specs.Layout.{layout}
use Rattle.letters.specs.Ranges.{letter_fits}
use Rattle.letters.specs.Statements.{statement_of, statement_bytes}
use Rattle.reading.specs.Parts.{Span, Spans}
use Rattle.reading.specs.Form.{read}
use Rattle.kept.specs.Kept.{certificate_in, kept}

-- what was read, with its parts kept as values
abbrev pub kept_result : Res (Letter Span Spans) Refusal → Res (Letter Certificate Basis) Refusal
kept_result (Ok l) = Ok (kept l)
kept_result (Err e) = Err e

-- every element is a byte
abbrev pub Bytes : List ℕ → Type 0
Bytes xs = (i : ℕ) → slice_index xs i < 256

-- what the seal on a letter stands on
abbrev pub statement : Letter Certificate Basis → Statement
statement l = statement_of l.change (in_brief l.body)

-- a letter within range is read back from its bytes
abbrev pub LettersAreReadBack : Type 0
LettersAreReadBack = (sizes : Sizes) (l : Letter Certificate Basis) → letter_fits sizes l ≡ true → kept_result (read sizes (layout l)) ≡ Ok l

-- bytes that are read are those of the letter read, and no others
abbrev pub OneForm : Type 0
OneForm = (sizes : Sizes) (xs : List ℕ) (l : Letter Span Spans) → Bytes xs → read sizes xs ≡ Ok l → xs ≡ layout (kept l)

-- what is read is within range
abbrev pub WhatIsReadIsInRange : Type 0
WhatIsReadIsInRange = (sizes : Sizes) (xs : List ℕ) (l : Letter Span Spans) → Bytes xs → read sizes xs ≡ Ok l → letter_fits sizes (kept l) ≡ true

-- the certificate's part of a letter, if it has one
abbrev pub grounds_certificate : Option Spans → Option Span
grounds_certificate None = None
grounds_certificate (Some g) = Some g.certificate

abbrev pub certificate_part : Body Span Spans → Option Span
certificate_part (Enrol p) = None
certificate_part (Receipt s p) = None
certificate_part (Order n) = None
certificate_part (Summons s n z) = None
certificate_part (Vote p n a) = None
certificate_part (Proposal s v x c m) = Some c
certificate_part (Assent s v x d) = None
certificate_part (Confirm s v x d) = None
certificate_part (Result s x) = None
certificate_part (Move s v b) = grounds_certificate b

-- the certificate kept has the bytes of the part, and so its digest
abbrev pub KeptCertificateHasTheSameBytes : Type 0
KeptCertificateHasTheSameBytes = (sizes : Sizes) (xs : List ℕ) (l : Letter Span Spans) (c : Span) → Bytes xs → read sizes xs ≡ Ok l → certificate_part l.body ≡ Some c → certificate_bytes (certificate_in c.bytes) ≡ c.bytes

abbrev pub KeptCertificateHasTheSameDigest : Type 0
KeptCertificateHasTheSameDigest = (sizes : Sizes) (xs : List ℕ) (l : Letter Span Spans) (c : Span) → Bytes xs → read sizes xs ≡ Ok l → certificate_part l.body ≡ Some c → digest_of c.bytes ≡ certificate_digest (certificate_in c.bytes)

-- statements with the same bytes are the same
abbrev pub StatementsTell : Type 0
StatementsTell = (sizes : Sizes) (l m : Letter Certificate Basis) → letter_fits sizes l ≡ true → letter_fits sizes m ≡ true → statement_bytes (statement l) ≡ statement_bytes (statement m) → statement l ≡ statement m
