-- Statements: what a seal stands on.
use Rattle.std.specs.Prelude.{ℕ, ◌+◌, ◌%◌, Bool, false, cond, List, [], ◌∷◌, ◌++◌, is_some, Some, None, Option}
use Rattle.terms.specs.declared.numbers.Change.{Change}
use Rattle.terms.specs.declared.numbers.KeyNumber.{KeyNumber}
use Rattle.terms.specs.declared.numbers.Place.{Place}
use Rattle.terms.specs.declared.numbers.Seat.{Seat}
use Rattle.terms.specs.declared.numbers.View.{View}
use Rattle.terms.specs.declared.parties.Outcome.{Outcome}
use Rattle.terms.specs.declared.parties.Outcome.TheVariants.{Keep, Number}
use Rattle.terms.specs.declared.parties.Party.{Party}
use Rattle.terms.specs.declared.parties.Party.TheVariants.{Controller, Lock, Office}
use Rattle.terms.specs.Parties.{party_number}
use Rattle.letters.specs.declared.sorts.Digest.{Digest}
use Rattle.letters.specs.declared.sorts.Answer.{Answer}
use Rattle.letters.specs.declared.sorts.Kind.{Kind}
use Rattle.letters.specs.declared.sorts.Kind.TheVariants as K
use Rattle.letters.specs.declared.bodies.Brief.{Brief}
use Rattle.letters.specs.declared.bodies.Body.{Body}
use Rattle.letters.specs.declared.bodies.Body.TheVariants.{Enrol, Receipt, Order, Summons, Vote, Proposal, Assent, Confirm, Result, Move}
use Rattle.letters.specs.declared.statements.Statement.{Statement}
use Rattle.letters.specs.Sorts.{kind_number}
use Rattle.letters.specs.Certificates.{is_ready}
use Rattle.letters.specs.Bytes.{le4, le8}

-- a statement with nothing but its kind, change and sender
abbrev pub bare : Kind → Change → Party → Statement
bare k t q = record { kind = k; change = t; sender = q; place = None; view = None; number = None; answer = None; basis = None; digest = None }

-- an order, a summons or a result: with a number, or none
abbrev pub numbered : Kind → Change → Party → Option KeyNumber → Statement
numbered k t q n = record { kind = k; change = t; sender = q; place = None; view = None; number = n; answer = None; basis = None; digest = None }

-- an outcome in a view, with the digest of its certificate
abbrev pub viewed : Kind → Change → Party → View → Option KeyNumber → Digest → Statement
viewed k t q v n d = record { kind = k; change = t; sender = q; place = None; view = Some v; number = n; answer = None; basis = None; digest = Some d }

-- the number of an outcome: none for keep
abbrev pub outcome_number : Outcome → Option KeyNumber
outcome_number Keep = None
outcome_number (Number n) = Some n

abbrev pub enrol_statement : Change → Place → Statement
enrol_statement t p = bare K.Enrol t (Lock p)

abbrev pub receipt_statement : Change → Seat → Place → Statement
receipt_statement t s p = record { kind = K.Receipt; change = t; sender = Controller s; place = Some p; view = None; number = None; answer = None; basis = None; digest = None }

abbrev pub order_statement : Change → Option KeyNumber → Statement
order_statement t n = numbered K.Order t Office n

abbrev pub vote_statement : Change → Place → Option KeyNumber → Answer → Statement
vote_statement t p n a = record { kind = K.Vote; change = t; sender = Lock p; place = None; view = None; number = n; answer = Some a; basis = None; digest = None }

abbrev pub proposal_statement : Change → Seat → View → Outcome → Digest → Statement
proposal_statement t s v x d = viewed K.Proposal t (Controller s) v (outcome_number x) d

abbrev pub assent_statement : Change → Seat → View → Outcome → Digest → Statement
assent_statement t s v x d = viewed K.Assent t (Controller s) v (outcome_number x) d

abbrev pub confirm_statement : Change → Seat → View → Outcome → Digest → Statement
confirm_statement t s v x d = viewed K.Confirm t (Controller s) v (outcome_number x) d

-- a move without a basis says nothing of a result
abbrev pub move_statement : Change → Seat → View → Option Brief → Statement
move_statement t s v None = record { kind = K.Move; change = t; sender = Controller s; place = None; view = Some v; number = None; answer = None; basis = None; digest = None }
move_statement t s v (Some b) = record { kind = K.Move; change = t; sender = Controller s; place = None; view = Some v; number = outcome_number b.outcome; answer = None; basis = Some b.view; digest = Some b.digest }

-- what the sender's seal on a letter stands on
abbrev pub statement_of : Change → Body Digest Brief → Statement
statement_of t (Enrol p) = enrol_statement t p
statement_of t (Receipt s p) = receipt_statement t s p
statement_of t (Order n) = order_statement t n
statement_of t (Summons s n z) = numbered K.Summons t (Controller s) (Some n)
statement_of t (Vote p n a) = vote_statement t p (Some n) a
statement_of t (Proposal s v x d m) = proposal_statement t s v x d
statement_of t (Assent s v x d) = assent_statement t s v x d
statement_of t (Confirm s v x d) = confirm_statement t s v x d
statement_of t (Result s x) = numbered K.Result t (Controller s) (outcome_number x)
statement_of t (Move s v b) = move_statement t s v b

-- ---- the 24 bytes; what a statement lacks is 0

abbrev pub place_byte : Option Place → ℕ
place_byte None = 0
place_byte (Some p) = p.0

abbrev pub view_byte : Option View → ℕ
view_byte None = 0
view_byte (Some v) = v.0

abbrev pub number_word : Option KeyNumber → ℕ
number_word None = 0
number_word (Some n) = n.0

abbrev pub digest_word : Option Digest → ℕ
digest_word None = 0
digest_word (Some d) = d.0

abbrev pub says_ready : Option Answer → Bool
says_ready None = false
says_ready (Some a) = is_ready a

-- 1: there is a number; 2: the answer is ready; 4: there is a basis
abbrev pub flags_of : Statement → ℕ
flags_of s = cond (is_some s.number) 1 0 + cond (says_ready s.answer) 2 0 + cond (is_some s.basis) 4 0

-- 0 kind, 1 change, 2 sender, 3 place, 4 view, 5 flags, 6 to 9 number, 10 basis view, 11 to 15 zero, 16 to 23 digest
unfoldable pub statement_bytes : Statement → List ℕ
statement_bytes s =
    (((kind_number s.kind ∷ (s.change.0 % 256) ∷ (party_number s.sender % 256) ∷ place_byte s.place ∷ view_byte s.view ∷ flags_of s ∷ [])
    ++ le4 (number_word s.number))
    ++ (view_byte s.basis ∷ 0 ∷ 0 ∷ 0 ∷ 0 ∷ 0 ∷ []))
    ++ le8 (digest_word s.digest)
