-- What holds after every sound list of calls: honest locks never part.
use Rattle.std.specs.Prelude.{◌≡◌, ℕ, ◌+◌, ◌<◌, ◌≤◌, true, ◌⊎◌, List, ◌++◌, Some}
use Rattle.terms.specs.declared.numbers.KeyNumber.{KeyNumber}
use Rattle.terms.specs.declared.numbers.View.{View}
use Rattle.terms.specs.declared.parties.Outcome.{Outcome}
use Rattle.terms.specs.declared.parties.Outcome.TheVariants.{Number}
use Rattle.terms.specs.declared.parties.Party.TheVariants.{Controller, Lock, Office}
use Rattle.terms.specs.Numbers.{seat, place}
use Rattle.terms.specs.Parties.{party_number}
use Rattle.terms.specs.Sizes.{seat_count, quorum_of}
use Rattle.letters.specs.declared.sorts.Answer.TheVariants.{Ready}
use Rattle.letters.specs.declared.sorts.Digest.{Digest}
use Rattle.letters.specs.Ranges.{is_byte, is_word, number_fits}
use Rattle.letters.specs.Statements.{order_statement, vote_statement, proposal_statement, assent_statement, outcome_number}
use Rattle.boards.specs.Boards.{in_force}
use Rattle.locks.specs.declared.lock.Standing.TheVariants as S
use Rattle.agreement.specs.Seats.{Seats, count, faulty}
use Rattle.agreement.specs.Calls.{Vault, State, controller_at, lock_at, Call, Went, Step}
use Rattle.agreement.specs.Runs.{SetUp, InBytes, Run, Given, given_at, given_out, HasGiven, Fair, Sound, receipt_at, receipts_served}

-- `honest` says of each party's number whether the party is honest; no code knows it

-- at most f controllers are not honest
abbrev pub FewFaulty : Vault → Seats → Type 0
FewFaulty v honest = count (faulty honest) (seat_count v.sizes) ≤ v.sizes.faults

pub record HonestController (v : Vault) (honest : Seats) (h : ℕ) : Type 0 where
  pub below : h < seat_count v.sizes
  pub is_honest : honest h ≡ true

pub record HonestLock (v : Vault) (honest : Seats) (p : ℕ) : Type 0 where
  pub below : p < v.sizes.locks
  pub is_honest : honest (party_number (Lock (place p))) ≡ true

abbrev pub HonestOffice : Seats → Type 0
HonestOffice honest = honest (party_number Office) ≡ true

-- the number in force at a lock's place
abbrev pub Carries : State → ℕ → KeyNumber → Type 0
Carries s p n = in_force s.board (place p) ≡ Some n

-- the lock took the new number over
abbrev pub Changed : State → ℕ → Type 0
Changed s p = (lock_at s p).standing ≡ S.Changed

-- the lock ended otherwise
abbrev pub Kept : State → ℕ → Type 0
Kept s p = (lock_at s p).standing ≡ S.Kept

abbrev pub Ended : State → ℕ → Type 0
Ended s p = Changed s p ⊎ Kept s p

-- the number in force at a place is the one from the set-up
abbrev pub CarriesAsSetUp : State → State → ℕ → Type 0
CarriesAsSetUp from s p = in_force s.board (place p) ≡ in_force from.board (place p)

-- two locks kept, each with the number from the set-up; or both changed, and the same number is in force at both places
pub data Alike (from s : State) (p q : ℕ) : Type 0 where
  both_kept : Kept s p → Kept s q → CarriesAsSetUp from s p → CarriesAsSetUp from s q → Alike from s p q
  both_changed : (n : KeyNumber) → Changed s p → Changed s q → Carries s p n → Carries s q n → Alike from s p q

-- what the office and the locks give out
abbrev pub Ordered : Vault → List Given → KeyNumber → Type 0
Ordered v given n = HasGiven v given Office (order_statement v.change (Some n))

abbrev pub VotedReady : Vault → List Given → ℕ → KeyNumber → Type 0
VotedReady v given p n = HasGiven v given (Lock (place p)) (vote_statement v.change (place p) (Some n) Ready)

-- the law, of a state, of what was given out, and of how many receipts were served to each lock
pub record HonestLocksNeverPart (v : Vault) (honest : Seats) (from s : State) (given : List Given) (receipts : ℕ → ℕ) : Type 0 where
  -- two honest locks that have ended, not necessarily different ones, are alike
  pub alike : (p q : ℕ) → HonestLock v honest p → HonestLock v honest q → Ended s p → Ended s q → Alike from s p q
  -- if an honest lock has changed, each honest lock to which a quorum of receipts was served has voted ready for the new number
  pub included : (p q : ℕ) (n : KeyNumber) → HonestLock v honest p → HonestLock v honest q → Changed s p → Carries s p n → quorum_of v.sizes ≤ receipts q → VotedReady v given q n
  -- and an honest office has ordered it
  pub ordered : (p : ℕ) (n : KeyNumber) → HonestLock v honest p → Changed s p → Carries s p n → HonestOffice honest → Ordered v given n

-- two honest controllers that hold results hold the same one
abbrev pub OneResult : Vault → Seats → State → Type 0
OneResult v honest s = (h k : ℕ) (x y : Outcome) → HonestController v honest h → HonestController v honest k → (controller_at s h).result ≡ Some x → (controller_at s k).result ≡ Some y → x ≡ y

-- the controller at seat h proposed the outcome in the view, or assented to it
pub data Ballot (v : Vault) (given : List Given) (h : ℕ) (w : View) (x : Outcome) (d : Digest) : Type 0 where
  proposed : HasGiven v given (Controller (seat h)) (proposal_statement v.change (seat h) w x d) → Ballot v given h w x d
  assented : HasGiven v given (Controller (seat h)) (assent_statement v.change (seat h) w x d) → Ballot v given h w x d

-- an outcome is supported in a view: a quorum of seats, each honest one of which proposed it or assented to it
pub record Supported (v : Vault) (honest : Seats) (given : List Given) (w : View) (x : Outcome) (d : Digest) : Type 0 where
  pub view_fits : is_byte w.0 ≡ true
  pub number_fits_holds : number_fits (outcome_number x) ≡ true
  pub digest_fits_holds : is_word d.0 ≡ true
  pub quorum : Seats
  pub enough : quorum_of v.sizes ≤ count quorum (seat_count v.sizes)
  pub each : (h : ℕ) → HonestController v honest h → quorum h ≡ true → Ballot v given h w x d

-- a supported number was ordered, if the office is honest, and each honest lock to which a quorum of receipts was served
-- has voted ready for it
pub record SupportedNumbersStand (v : Vault) (honest : Seats) (given : List Given) (receipts : ℕ → ℕ) : Type 0 where
  pub ordered : (w : View) (n : KeyNumber) (d : Digest) → Supported v honest given w (Number n) d → HonestOffice honest → Ordered v given n
  pub ready : (w : View) (n : KeyNumber) (d : Digest) (q : ℕ) → Supported v honest given w (Number n) d → HonestLock v honest q → quorum_of v.sizes ≤ receipts q → VotedReady v given q n

-- ---- the law, with one more call as the last of the list

-- a sound list of calls from a set-up, in which this call comes next, with few faulty controllers
pub record SoundWith {v : Vault} {from s : State} (honest : Seats) (run : Run v from s) (call : Call) : Type 0 where
  pub few_faulty : FewFaulty v honest
  pub set_up : SetUp v from
  pub sound : Sound honest run
  pub in_bytes : InBytes call.request
  pub fair : Fair v honest (given_out run) call.request

-- what was given out, and how many receipts were served to each lock, this call included
abbrev pub given_with : {v : Vault} {from s : State} → Run v from s → Went → List Given
given_with {v} run w = given_at v w ++ given_out run

abbrev pub receipts_with : {v : Vault} {from s : State} → Run v from s → Call → Went → ℕ → ℕ
receipts_with {v} run call w p = receipt_at v p call w + receipts_served p run

-- for every choice of honest parties, and every sound list of calls that leads from a set-up to the state that this call
-- finds, with this call as the last: honest locks have not parted in what it leaves
abbrev pub NeverParts : (v : Vault) (s : State) (call : Call) (w : Went) → Type 0
NeverParts v s call w = (honest : Seats) (from : State) (run : Run v from s) → SoundWith honest run call → HonestLocksNeverPart v honest from w.state (given_with run w) (receipts_with run call w)

-- and honest controllers hold one result
abbrev pub HoldsOneResult : (v : Vault) (s : State) (call : Call) (w : Went) → Type 0
HoldsOneResult v s call w = (honest : Seats) (from : State) (run : Run v from s) → SoundWith honest run call → OneResult v honest w.state

-- and numbers that are supported stand
abbrev pub StandsBySupported : (v : Vault) (s : State) (call : Call) (w : Went) → Type 0
StandsBySupported v s call w = (honest : Seats) (from : State) (run : Run v from s) → SoundWith honest run call → SupportedNumbersStand v honest (given_with run w) (receipts_with run call w)

-- ---- every call that is served or refused by the rules keeps the law

abbrev pub HonestLocksNeverPartLaw : Type 0
HonestLocksNeverPartLaw = (v : Vault) (s : State) (call : Call) (w : Went) → Step v s call w → NeverParts v s call w

abbrev pub HonestControllersHoldOneResult : Type 0
HonestControllersHoldOneResult = (v : Vault) (s : State) (call : Call) (w : Went) → Step v s call w → HoldsOneResult v s call w

abbrev pub SupportedNumbersStandLaw : Type 0
SupportedNumbersStandLaw = (v : Vault) (s : State) (call : Call) (w : Went) → Step v s call w → StandsBySupported v s call w
