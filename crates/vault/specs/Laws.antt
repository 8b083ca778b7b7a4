-- What the contract of every call on a vault carries: for every choice of honest parties, and for every sound list of calls that
-- leads from a set-up to what the call finds, with this call as its last. Nothing is assumed of how this call went.
use Rattle.std.specs.Prelude.{ℕ, ◌≤◌}
use Rattle.terms.specs.declared.numbers.KeyNumber.{KeyNumber}
use Rattle.terms.specs.Sizes.{quorum_of}
use Rattle.agreement.specs.Calls.{Vault, State, Call, Went}
use Rattle.agreement.specs.Law.{HonestLock, HonestOffice, Ended, Changed, Carries, Alike, VotedReady, Ordered, SoundWith, given_with, receipts_with}
use Rattle.agreement.specs.Runs.{Run}
use Rattle.agreement.specs.Seats.{Seats}

-- two honest locks that have ended, not necessarily different ones, both kept, each with the number from the set-up; or both
-- changed, and the same number is in force at both places
abbrev pub ShareOneResult : Vault → State → Call → Went → Type 0
ShareOneResult v s call w =
    (honest : Seats) (from : State) (run : Run v from s) → SoundWith honest run call →
    (p q : ℕ) → HonestLock v honest p → HonestLock v honest q → Ended w.state p → Ended w.state q → Alike from w.state p q

-- if an honest lock has changed, every honest lock to which a quorum of receipts was served has given out a ready vote for the new
-- number
abbrev pub VotedReadyIfEnrolled : Vault → State → Call → Went → Type 0
VotedReadyIfEnrolled v s call w =
    (honest : Seats) (from : State) (run : Run v from s) → SoundWith honest run call →
    (p q : ℕ) (n : KeyNumber) → HonestLock v honest p → HonestLock v honest q → Changed w.state p → Carries w.state p n → quorum_of v.sizes ≤ receipts_with run call w q → VotedReady v (given_with run w) q n

-- and if the office is honest, it has given out an order of that number
abbrev pub OrderedByOffice : Vault → State → Call → Went → Type 0
OrderedByOffice v s call w =
    (honest : Seats) (from : State) (run : Run v from s) → SoundWith honest run call →
    (p : ℕ) (n : KeyNumber) → HonestLock v honest p → Changed w.state p → Carries w.state p n → HonestOffice honest → Ordered v (given_with run w) n
