-- The enums that stand for bytes of a letter, each tied to its byte once.
use Rattle.std.specs.Prelude.{ℕ, ◌/◌, ◌%◌, ◌^◌, Bool, cond, ◌&&◌, Some, None, Ok, Err, Option, Result, ◌==◌, nat_lt}
use Rattle.terms.specs.declared.numbers.Seat.{Seat}
use Rattle.terms.specs.declared.refusals.FormCause.{FormCause}
use Rattle.terms.specs.declared.refusals.FormCause.TheVariants.{OutOfRange}
use Rattle.letters.specs.declared.sorts.Seal.{Seal}
use Rattle.letters.specs.declared.sorts.Digest.{Digest}
use Rattle.letters.specs.declared.sorts.SeatSet.{SeatSet}
use Rattle.letters.specs.declared.sorts.Kind.{Kind}
use Rattle.letters.specs.declared.sorts.Kind.TheVariants as K
use Rattle.letters.specs.declared.sorts.Answer.{Answer}
use Rattle.letters.specs.declared.sorts.Answer.TheVariants.{Ready, Refuse}

abbrev pub seal : ℕ → Seal
seal n = record { 0 = n }

abbrev pub digest : ℕ → Digest
digest n = record { 0 = n }

abbrev pub seat_set : ℕ → SeatSet
seat_set n = record { 0 = n }

-- bit k of a map stands
abbrev pub stands : ℕ → ℕ → Bool
stands map k = map / 2 ^ k % 2 == 1

abbrev pub holds_seat : SeatSet → Seat → Bool
holds_seat set s = nat_lt s.0 16 && stands set.0 s.0

abbrev pub kind_number : Kind → ℕ
kind_number K.Enrol = 1
kind_number K.Receipt = 2
kind_number K.Order = 3
kind_number K.Summons = 4
kind_number K.Vote = 5
kind_number K.Proposal = 6
kind_number K.Assent = 7
kind_number K.Confirm = 8
kind_number K.Result = 9
kind_number K.Move = 10

-- the kind that has a number
abbrev pub kind_of : ℕ → Option Kind
kind_of n =
    cond (n == 1) (Some K.Enrol)
    (cond (n == 2) (Some K.Receipt)
    (cond (n == 3) (Some K.Order)
    (cond (n == 4) (Some K.Summons)
    (cond (n == 5) (Some K.Vote)
    (cond (n == 6) (Some K.Proposal)
    (cond (n == 7) (Some K.Assent)
    (cond (n == 8) (Some K.Confirm)
    (cond (n == 9) (Some K.Result)
    (cond (n == 10) (Some K.Move) None)))))))))

abbrev pub answer_number : Answer → ℕ
answer_number Ready = 1
answer_number Refuse = 0

abbrev pub answer_of : ℕ → Option Answer
answer_of n = cond (n == 1) (Some Ready) (cond (n == 0) (Some Refuse) None)

-- what a byte stands for; one that stands for nothing is out of range
abbrev pub in_range : {A : Type 0} → Option A → Result A FormCause
in_range (Some a) = Ok a
in_range None = Err OutOfRange
