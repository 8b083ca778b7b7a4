-- What parties say, and the log of it, the newest first.
use Rattle.std.proofs.Common.{◌≡◌, ℕ, ◌+◌, cond, List, [], ◌∷◌, Some, None, Option, refl}
use Rattle.terms.specs.declared.numbers.Change.{Change}
use Rattle.terms.specs.declared.numbers.KeyNumber.{KeyNumber}
use Rattle.terms.specs.declared.numbers.View.{View}
use Rattle.terms.specs.declared.parties.Outcome.{Outcome}
use Rattle.terms.specs.declared.parties.Outcome.TheVariants.{Keep, Number}
use Rattle.terms.specs.Parties.{party_number}
use Rattle.letters.specs.declared.sorts.Answer.{Answer}
use Rattle.letters.specs.declared.sorts.Answer.TheVariants as A
use Rattle.letters.specs.declared.sorts.Digest.{Digest}
use Rattle.letters.specs.declared.sorts.Kind.{Kind}
use Rattle.letters.specs.declared.sorts.Kind.TheVariants as K
use Rattle.letters.specs.declared.certificates.Basis.{Basis}
use Rattle.letters.specs.declared.certificates.Certificate.{Certificate}
use Rattle.letters.specs.declared.bodies.Body.{Body}
use Rattle.letters.specs.declared.bodies.Body.TheVariants as B
use Rattle.letters.specs.declared.statements.Statement.{Statement}
use Rattle.letters.specs.Bodies.{in_brief}
use Rattle.letters.specs.Certificates.{certificate_digest}
use Rattle.letters.specs.Statements.{statement_of, outcome_number, place_byte, view_byte, digest_word, says_ready}
use Rattle.letters.specs.Senders.{sender_of}
use Rattle.posting.specs.declared.few.AtMostTwo.TheVariants.{Nothing, One, Two}
use Rattle.posting.specs.Replies.{Bodies}
use Rattle.agreement.specs.Runs.{Given}

-- what a move says of its basis
pub data Brief : Type 0 where
  bare : Brief
  built : ℕ → Outcome → ℕ → Brief

pub data Words : Type 0 where
  enrols : Words
  receipt : ℕ → Words
  order : Option KeyNumber → Words
  summons : Option KeyNumber → Words
  ready : Option KeyNumber → Words
  refuses : Option KeyNumber → Words
  propose : ℕ → Outcome → ℕ → Words
  assent : ℕ → Outcome → ℕ → Words
  confirm : ℕ → Outcome → ℕ → Words
  result : Outcome → Words
  move : ℕ → Brief → Words

pub data Saying : Type 0 where
  says : ℕ → Words → Saying

abbrev pub Log : Type 0
Log = List Saying

pub data Said (s : Saying) : Log → Type 0 where
  here : {t : Saying} {l : Log} → s ≡ t → Said s (t ∷ l)
  there : {t : Saying} {l : Log} → Said s l → Said s (t ∷ l)

abbrev pub lock_party : ℕ → ℕ
lock_party p = 32 + p

abbrev pub office : ℕ
office = 64

pub data Assented (l : Log) (h v : ℕ) (x : Outcome) (d : ℕ) : Type 0 where
  proposed : Said (says h (propose v x d)) l → Assented l h v x d
  assented : Said (says h (assent v x d)) l → Assented l h v x d

-- ---- what a letter says

abbrev pub brief : Option Basis → Brief
brief None = bare
brief (Some b) = built b.view.0 b.outcome (certificate_digest b.certificate).0

abbrev pub voted : Option KeyNumber → Answer → Words
voted n A.Ready = ready n
voted n A.Refuse = refuses n

abbrev pub words : Body Certificate Basis → Words
words (B.Enrol p) = enrols
words (B.Receipt s p) = receipt p.0
words (B.Order n) = order n
words (B.Summons s n z) = summons (Some n)
words (B.Vote p n a) = voted (Some n) a
words (B.Proposal s v x c m) = propose v.0 x (certificate_digest c).0
words (B.Assent s v x d) = assent v.0 x d.0
words (B.Confirm s v x d) = confirm v.0 x d.0
words (B.Result s x) = result x
words (B.Move s v b) = move v.0 (brief b)

abbrev pub saying : Body Certificate Basis → Saying
saying b = says (party_number (sender_of b)) (words b)

-- what a call's letters say, the last first
abbrev pub spoken : Bodies → Log
spoken Nothing = []
spoken (One b) = saying b ∷ []
spoken (Two b c) = saying c ∷ saying b ∷ []

-- ---- what a statement says

abbrev pub outcome_in : Option KeyNumber → Outcome
outcome_in None = Keep
outcome_in (Some n) = Number n

abbrev pub brief_in : Option View → Option KeyNumber → Option Digest → Brief
brief_in None n d = bare
brief_in (Some u) n d = built u.0 (outcome_in n) (digest_word d)

abbrev pub words_as : Statement → Kind → Words
words_as s K.Enrol = enrols
words_as s K.Receipt = receipt (place_byte s.place)
words_as s K.Order = order s.number
words_as s K.Summons = summons s.number
words_as s K.Vote = cond (says_ready s.answer) (ready s.number) (refuses s.number)
words_as s K.Proposal = propose (view_byte s.view) (outcome_in s.number) (digest_word s.digest)
words_as s K.Assent = assent (view_byte s.view) (outcome_in s.number) (digest_word s.digest)
words_as s K.Confirm = confirm (view_byte s.view) (outcome_in s.number) (digest_word s.digest)
words_as s K.Result = result (outcome_in s.number)
words_as s K.Move = move (view_byte s.view) (brief_in s.basis s.number s.digest)

abbrev pub words_of : Statement → Words
words_of s = words_as s s.kind

pub outcome_told : (x : Outcome) → outcome_in (outcome_number x) ≡ x
outcome_told Keep = refl
outcome_told (Number n) = refl

-- a letter says what its statement says
pub words_told : (t : Change) (b : Body Certificate Basis) → words_of (statement_of t (in_brief b)) ≡ words b
words_told t (B.Vote p n A.Ready) = refl
words_told t (B.Proposal s v x c m) = rw (outcome_told x) refl
words_told t (B.Assent s v x d) = rw (outcome_told x) refl
words_told t (B.Confirm s v x d) = rw (outcome_told x) refl
words_told t (B.Result s x) = rw (outcome_told x) refl
words_told t (B.Move s v (Some b)) = rw (outcome_told b.outcome) refl
words_told t b = refl

-- ---- the log of what was given out

abbrev pub uttered : Given → Saying
uttered g = says (party_number g.party) (words_of g.statement)

abbrev pub log_of : List Given → Log
log_of [] = []
log_of (g ∷ gs) = uttered g ∷ log_of gs
