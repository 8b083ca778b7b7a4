-- The seals inside a letter: whose they are and what they stand on, in the order of the bytes.
use Rattle.std.specs.Prelude.{ℕ, zero, suc, ◌+◌, List, [], ◌∷◌, ◌++◌, Some, None, Option, slice_index_or}
use Rattle.terms.specs.declared.numbers.Change.{Change}
use Rattle.terms.specs.declared.numbers.KeyNumber.{KeyNumber}
use Rattle.terms.specs.declared.numbers.Place.{Place}
use Rattle.terms.specs.declared.numbers.Seat.{Seat}
use Rattle.terms.specs.declared.numbers.View.{View}
use Rattle.terms.specs.declared.sizes.Sizes.{Sizes}
use Rattle.terms.specs.declared.parties.Outcome.{Outcome}
use Rattle.terms.specs.declared.parties.Party.{Party}
use Rattle.terms.specs.declared.parties.Party.TheVariants.{Controller, Lock, Office}
use Rattle.terms.specs.Numbers.{seat_of, place_of}
use Rattle.terms.specs.Parties.{leader_of}
use Rattle.letters.specs.declared.sorts.Digest.{Digest}
use Rattle.letters.specs.declared.sorts.Seal.{Seal}
use Rattle.letters.specs.declared.certificates.Certificate.{Certificate}
use Rattle.letters.specs.declared.certificates.Basis.{Basis}
use Rattle.letters.specs.declared.certificates.Vote.{Vote}
use Rattle.letters.specs.declared.bodies.Body.{Body}
use Rattle.letters.specs.declared.bodies.Body.TheVariants as B
use Rattle.letters.specs.declared.statements.Borne.{Borne}
use Rattle.letters.specs.declared.statements.Statement.{Statement}
use Rattle.letters.specs.Certificates.{certificate_digest}
use Rattle.letters.specs.Statements.{order_statement, enrol_statement, vote_statement, proposal_statement, assent_statement}

abbrev pub bears : Party → Statement → Seal → Borne
bears q s z = record { party = q; statement = s; seal = z }

abbrev pub consed : {A : Type 0} → Option A → List A → List A
consed None rest = rest
consed (Some a) rest = a ∷ rest

-- what n rows bear, the rows rising from k
unfoldable pub rows_borne : (ℕ → Option Borne) → ℕ → ℕ → List Borne
rows_borne row k zero = []
rows_borne row k (suc n) = consed (row k) (rows_borne row (k + 1) n)

-- a seal in row p is lock p's, on its enrolment
abbrev pub enrol_borne : Change → Option Place → Option Seal → Option Borne
enrol_borne t None z = None
enrol_borne t (Some p) None = None
enrol_borne t (Some p) (Some z) = Some (bears (Lock p) (enrol_statement t p) z)

abbrev pub enrol_row : Change → List (Option Seal) → ℕ → Option Borne
enrol_row t rows k = enrol_borne t (place_of k) (slice_index_or rows k None)

-- a vote in row p is lock p's, for the ordered number
abbrev pub vote_borne : Change → Option KeyNumber → Option Place → Option Vote → Option Borne
vote_borne t n None v = None
vote_borne t n (Some p) None = None
vote_borne t n (Some p) (Some v) = Some (bears (Lock p) (vote_statement t p n v.answer) v.seal)

abbrev pub vote_row : Change → Option KeyNumber → List (Option Vote) → ℕ → Option Borne
vote_row t n rows k = vote_borne t n (place_of k) (slice_index_or rows k None)

-- the office's order, the enrolments, the votes
abbrev pub certificate_borne : Change → Certificate → List Borne
certificate_borne t c =
    bears Office (order_statement t c.order.number) c.order.seal
    ∷ (rows_borne (enrol_row t c.enrolled) 0 8 ++ rows_borne (vote_row t c.order.number c.votes) 0 8)

-- a seal in row s is seat s's, on its assent to an outcome in a view
abbrev pub assent_borne : Change → View → Outcome → Digest → Option Seat → Option Seal → Option Borne
assent_borne t u x d None z = None
assent_borne t u x d (Some s) None = None
assent_borne t u x d (Some s) (Some z) = Some (bears (Controller s) (assent_statement t s u x d) z)

abbrev pub assent_row : Change → View → Outcome → Digest → List (Option Seal) → ℕ → Option Borne
assent_row t u x d rows k = assent_borne t u x d (seat_of k) (slice_index_or rows k None)

-- the leader's proposal and the assents of the basis' view, with its outcome and digest
abbrev pub basis_borne : Sizes → Change → Basis → List Borne
basis_borne sizes t b =
    bears (Controller (leader_of sizes t b.view)) (proposal_statement t (leader_of sizes t b.view) b.view b.outcome (certificate_digest b.certificate)) b.leader_seal
    ∷ rows_borne (assent_row t b.view b.outcome (certificate_digest b.certificate) b.assents) 0 16

abbrev pub grounds_borne : Sizes → Change → Option Basis → List Borne
grounds_borne sizes t None = []
grounds_borne sizes t (Some b) = basis_borne sizes t b ++ certificate_borne t b.certificate

-- every statement inside a letter is of the letter's own change
abbrev pub inner_borne : Sizes → Change → Body Certificate Basis → List Borne
inner_borne sizes t (B.Enrol p) = []
inner_borne sizes t (B.Receipt s p) = []
inner_borne sizes t (B.Order n) = []
inner_borne sizes t (B.Summons s n z) = bears Office (order_statement t (Some n)) z ∷ []
inner_borne sizes t (B.Vote p n a) = []
inner_borne sizes t (B.Proposal s v x c m) = certificate_borne t c
inner_borne sizes t (B.Assent s v x d) = []
inner_borne sizes t (B.Confirm s v x d) = []
inner_borne sizes t (B.Result s x) = []
inner_borne sizes t (B.Move s v b) = grounds_borne sizes t b
