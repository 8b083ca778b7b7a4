-- Letters under their seals, one right after the other over the start of the output buffer.
use Rattle.std.specs.Prelude.{ℕ, ◌+◌, Bool, true, cond, ◌&&◌, List, [], ◌∷◌, ◌++◌, length, Ok, Err, Result, nat_le}
use Rattle.terms.specs.declared.numbers.Change.{Change}
use Rattle.terms.specs.declared.refusals.Refusal.{Refusal}
use Rattle.terms.specs.Refusals.{no_room}
use Rattle.letters.specs.declared.certificates.Basis.{Basis}
use Rattle.letters.specs.declared.certificates.Certificate.{Certificate}
use Rattle.letters.specs.declared.sorts.Seal.{Seal}
use Rattle.letters.specs.declared.bodies.Letter.{Letter}
use Rattle.letters.specs.Bodies.{letter}
use Rattle.letters.specs.Bytes.{written}
use Rattle.letters.specs.Layout.{layout}
use Rattle.letters.specs.Ranges.{is_word}
use Rattle.letters.specs.Sorts.{seal}
use Rattle.seals.specs.Opening.{Relation, accepted, sender_borne}
use Rattle.seals.specs.Scratch.{roomy}
use Rattle.posting.specs.declared.few.AtMostTwo.{AtMostTwo}
use Rattle.posting.specs.declared.few.AtMostTwo.TheVariants.{Nothing, One, Two}
use Rattle.posting.specs.declared.few.Posted.{Posted}
use Rattle.posting.specs.declared.few.Seals.{Seals}
use Rattle.posting.specs.Replies.{Bodies}

abbrev pub seals : Seal → Seal → Seals
seals y z = record { first = y; second = z }

abbrev pub no_seals : Seals
no_seals = seals (seal 0) (seal 0)

-- seals are words
abbrev pub are_words : Seals → Bool
are_words zs = is_word zs.first.0 && is_word zs.second.0

-- the letters of a call under their seals
abbrev pub letters_of : Change → Bodies → Seals → List (Letter Certificate Basis)
letters_of t Nothing zs = []
letters_of t (One b) zs = letter t b zs.first ∷ []
letters_of t (Two b c) zs = letter t b zs.first ∷ letter t c zs.second ∷ []

-- their bytes, one letter right after the other
abbrev pub bytes_of : Change → Bodies → Seals → List ℕ
bytes_of t Nothing zs = []
bytes_of t (One b) zs = layout (letter t b zs.first)
bytes_of t (Two b c) zs = layout (letter t b zs.first) ++ layout (letter t c zs.second)

-- how long each is
abbrev pub lengths_of : Change → Bodies → Seals → AtMostTwo ℕ
lengths_of t Nothing zs = Nothing
lengths_of t (One b) zs = One (length (layout (letter t b zs.first)))
lengths_of t (Two b c) zs = Two (length (layout (letter t b zs.first))) (length (layout (letter t c zs.second)))

-- each seal is its sender's on what its letter says
abbrev pub all_sealed : Relation → Change → Bodies → Seals → Bool
all_sealed holds t Nothing zs = true
all_sealed holds t (One b) zs = accepted holds (sender_borne t b zs.first)
all_sealed holds t (Two b c) zs = accepted holds (sender_borne t b zs.first) && accepted holds (sender_borne t c zs.second)

-- how many bytes they take, under whatever seals
abbrev pub needed : Change → Bodies → ℕ
needed t Nothing = 0
needed t (One b) = length (layout (letter t b (seal 0)))
needed t (Two b c) = length (layout (letter t b (seal 0))) + length (layout (letter t c (seal 0)))

-- there is room for the letters in the output buffer
abbrev pub fits : Change → Bodies → List ℕ → Bool
fits t bs out = nat_le (needed t bs) (length out)

-- ---- posting: refused where a buffer is too small, and nothing is written then

abbrev pub postable : Change → Bodies → List ℕ → List ℕ → Bool
postable t bs scratch out = roomy scratch && fits t bs out

abbrev pub seals_in : Result Posted Refusal → Seals
seals_in (Ok p) = p.seals
seals_in (Err e) = no_seals

abbrev pub post_answer : Change → Bodies → Seals → List ℕ → List ℕ → Result Posted Refusal
post_answer t bs zs scratch out = cond (postable t bs scratch out) (Ok (record { lengths = lengths_of t bs zs; seals = zs })) (Err no_room)

abbrev pub post_buffer : Change → Bodies → Seals → List ℕ → List ℕ → List ℕ
post_buffer t bs zs scratch out = cond (postable t bs scratch out) (written (bytes_of t bs zs) out) out
