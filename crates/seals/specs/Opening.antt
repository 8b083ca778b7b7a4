-- Opening a letter: form, then the sender's seal, then the seals inside it.
use Rattle.std.specs.Prelude.{ℕ, ◌+◌, Bool, cond, List, [], ◌∷◌, Some, None, Ok, Err, Option, Result as Res}
use Rattle.terms.specs.declared.numbers.Change.{Change}
use Rattle.terms.specs.declared.parties.Party.{Party}
use Rattle.terms.specs.declared.refusals.Cause.TheVariants as Cause
use Rattle.terms.specs.declared.refusals.SealCause.{SealCause}
use Rattle.terms.specs.declared.refusals.SealCause.TheVariants.{Sender, Inner}
use Rattle.terms.specs.declared.refusals.Refusal.{Refusal}
use Rattle.terms.specs.declared.sizes.Sizes.{Sizes}
use Rattle.terms.specs.Refusals.{no_room}
use Rattle.letters.specs.declared.sorts.Seal.{Seal}
use Rattle.letters.specs.declared.certificates.Basis.{Basis}
use Rattle.letters.specs.declared.certificates.Certificate.{Certificate}
use Rattle.letters.specs.declared.statements.Borne.{Borne}
use Rattle.letters.specs.declared.bodies.Letter.{Letter}
use Rattle.letters.specs.declared.bodies.Body.{Body}
use Rattle.letters.specs.Bodies.{in_brief}
use Rattle.letters.specs.Inner.{bears, inner_borne}
use Rattle.letters.specs.Senders as Senders
use Rattle.letters.specs.Statements.{statement_of, statement_bytes}
use Rattle.reading.specs.Bind.{◌>>=◌}
use Rattle.reading.specs.Form.{read}
use Rattle.reading.specs.Parts.{Span, Spans}
use Rattle.kept.specs.Kept.{kept_body}
use Rattle.seals.specs.Scratch.{roomy}

-- what a scheme means: which seals are a party's on a statement
abbrev pub Relation : Type 0
Relation = Party → List ℕ → Seal → Bool

abbrev pub accepted : Relation → Borne → Bool
accepted holds b = holds b.party (statement_bytes b.statement) b.seal

abbrev pub unsealed : SealCause → ℕ → Refusal
unsealed c n = record { cause = Cause.Seal c; place = n }

-- the n-th seal inside a letter
abbrev pub accept_one : Relation → Borne → ℕ → Res ℕ Refusal
accept_one holds b n = cond (accepted holds b) (Ok (n + 1)) (Err (unsealed Inner n))

-- a row may have no seal
abbrev pub accept_if : Relation → Option Borne → ℕ → Res ℕ Refusal
accept_if holds None n = Ok n
accept_if holds (Some b) n = accept_one holds b n

-- seal after seal; one that is not accepted is refused with how many stand before it
unfoldable pub accept_all : Relation → List Borne → ℕ → Res ℕ Refusal
accept_all holds [] n = Ok n
accept_all holds (b ∷ bs) n = accept_one holds b n >>= accept_all holds bs

abbrev pub sender_of : {C B : Type 0} → Body C B → Party
sender_of b = Senders.sender_of b

-- the seal of a letter's sender
abbrev pub sender_borne : Change → Body Certificate Basis → Seal → Borne
sender_borne t b z = bears (sender_of b) (statement_of t (in_brief b)) z

abbrev pub accept_sender : Relation → Borne → Res (Unit {0}) Refusal
accept_sender holds b = cond (accepted holds b) (Ok tt) (Err (unsealed Sender 0))

-- the seals that a letter bears are accepted
abbrev pub accept_letter : Sizes → Relation → Change → Body Certificate Basis → Seal → Res ℕ Refusal
accept_letter sizes holds t b z = do
  _ ← accept_sender holds (sender_borne t b z)
  accept_all holds (inner_borne sizes t b) 0

-- the letter in the bytes, if it has the form and bears accepted seals
abbrev pub opening : Sizes → Relation → List ℕ → Res (Letter Span Spans) Refusal
opening sizes holds bytes = do
  l ← read sizes bytes
  _ ← accept_letter sizes holds l.change (kept_body l.body) l.seal
  Ok l

-- a scratch buffer that is too small is refused before anything is read
abbrev pub open_answer : Sizes → Relation → List ℕ → List ℕ → Res (Letter Span Spans) Refusal
open_answer sizes holds bytes scratch = cond (roomy scratch) (opening sizes holds bytes) (Err no_room)
