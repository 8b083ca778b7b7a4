-- Sealing a letter, and sending it.
use Rattle.std.specs.Prelude.{ℕ, Bool, cond, ◌&&◌, List, length, Ok, Err, Result, nat_le}
use Rattle.terms.specs.declared.numbers.Change.{Change}
use Rattle.terms.specs.declared.refusals.Refusal.{Refusal}
use Rattle.terms.specs.Refusals.{no_room}
use Rattle.letters.specs.declared.sorts.Seal.{Seal}
use Rattle.letters.specs.declared.certificates.Basis.{Basis}
use Rattle.letters.specs.declared.certificates.Certificate.{Certificate}
use Rattle.letters.specs.declared.bodies.Letter.{Letter}
use Rattle.letters.specs.declared.bodies.Body.{Body}
use Rattle.letters.specs.Bodies.{letter}
use Rattle.letters.specs.Bytes.{written}
use Rattle.letters.specs.Layout.{layout}
use Rattle.letters.specs.Sorts.{seal}
use Rattle.seals.specs.Scratch.{roomy, cleared}
use Rattle.seals.specs.declared.sealing.Sent.{Sent}

-- the seal that was made, if one was
abbrev pub seal_in : Result (Letter Certificate Basis) Refusal → Seal
seal_in (Ok l) = l.seal
seal_in (Err e) = seal 0

-- the letter under a seal; a scratch buffer that is too small is refused
abbrev pub seal_answer : Change → Body Certificate Basis → Seal → List ℕ → Result (Letter Certificate Basis) Refusal
seal_answer t b z scratch = cond (roomy scratch) (Ok (letter t b z)) (Err no_room)

abbrev pub seal_of : Result Sent Refusal → Seal
seal_of (Ok s) = s.seal
seal_of (Err e) = seal 0

-- room for a statement in the scratch buffer, and for the letter in the output buffer
abbrev pub sendable : Letter Certificate Basis → List ℕ → List ℕ → Bool
sendable l scratch out = roomy scratch && nat_le (length (layout l)) (length out)

abbrev pub send_answer : Letter Certificate Basis → List ℕ → List ℕ → Result Sent Refusal
send_answer l scratch out = cond (sendable l scratch out) (Ok (record { length = length (layout l); seal = l.seal })) (Err no_room)

-- the letter and then the rest as it was
abbrev pub send_buffer : Letter Certificate Basis → List ℕ → List ℕ → List ℕ
send_buffer l scratch out = cond (sendable l scratch out) (written (layout l) out) out

abbrev pub send_scratch : Letter Certificate Basis → List ℕ → List ℕ → List ℕ
send_scratch l scratch out = cond (sendable l scratch out) (cleared scratch) scratch
