-- The rules of a lock, at its place of a board: guards in order, then what the lock becomes, what the
-- board shows and what is sent.
use Rattle.std.specs.Prelude.{◌≡◌, ℕ, ◌+◌, Bool, true, false, cond, not, ◌&&◌, ◌||◌, List, is_some, Some, None, Ok, Err, Option, Result, ◌==◌, nat_le, nat_lt, slice_index_or, slice_set}
use Rattle.terms.specs.declared.numbers.KeyNumber.{KeyNumber}
use Rattle.terms.specs.declared.numbers.Place.{Place}
use Rattle.terms.specs.declared.numbers.Seat.{Seat}
use Rattle.terms.specs.declared.parties.Outcome.{Outcome}
use Rattle.terms.specs.declared.parties.Outcome.TheVariants.{Keep, Number}
use Rattle.terms.specs.declared.refusals.RuleCause.{RuleCause}
use Rattle.terms.specs.declared.refusals.RuleCause.TheVariants as R
use Rattle.terms.specs.declared.sizes.Sizes.{Sizes}
use Rattle.terms.specs.Sizes.{quorum_of}
use Rattle.letters.specs.declared.sorts.Answer.TheVariants as A
use Rattle.letters.specs.declared.bodies.Body.TheVariants as B
use Rattle.ballots.specs.Counts.{count_agree}
use Rattle.ballots.specs.Kinds.{always_agree, same_outcome}
use Rattle.ballots.specs.declared.Receipted.{Receipted}
use Rattle.boards.specs.Boards.{Meaning, staged_at, stages, after_stage, after_take_over, after_drop}
use Rattle.posting.specs.declared.few.AtMostTwo.TheVariants.{Nothing, One}
use Rattle.posting.specs.Calls.{has_room}
use Rattle.posting.specs.Replies as Replies
use Rattle.posting.specs.Replies.{Bodies, refuse_if}
use Rattle.locks.specs.declared.lock.Lock.{Lock}
use Rattle.locks.specs.declared.lock.Standing.{Standing}
use Rattle.locks.specs.declared.lock.Standing.TheVariants as S

-- the standings in order; the last two are ended
abbrev pub rank : Standing → ℕ
rank S.New = 0
rank S.Applied = 1
rank S.Enrolled = 2
rank S.Ready = 3
rank S.Changed = 4
rank S.Kept = 5

-- what a lock does at its place of the board
pub data Deed : Type 0 where
  nothing : Deed
  stages_there : KeyNumber → Deed
  takes_over_there : Deed
  drops_there : Deed

-- refused, and nothing changes; or served: the lock, what it does at its place, and what it sends
pub data Reply : Type 0 where
  refused : RuleCause → Reply
  served : Lock → Deed → Bodies → Reply

-- the same reply, but for the board
abbrev pub replied : Reply → Replies.Reply RuleCause Lock
replied (refused c) = Replies.refused c
replied (served k d b) = Replies.served k b

abbrev pub sends : Reply → Result Bodies RuleCause
sends r = Replies.sends (replied r)

abbrev pub lock_after : Lock → Reply → Lock
lock_after k r = Replies.after k (replied r)

-- a rule was followed: what it sends or its refusal is answered, and the lock is what it makes of it
pub record Follows (k : Lock) (r : Reply) (said : Result Bodies RuleCause) (j : Lock) : Type 0 where
  pub answer : said ≡ sends r
  pub lock : j ≡ lock_after k r

abbrev pub deed_done : Meaning → Place → Deed → Meaning
deed_done m p nothing = m
deed_done m p (stages_there n) = after_stage m p n
deed_done m p takes_over_there = after_take_over m p
deed_done m p drops_there = after_drop m p

abbrev pub board_after : Meaning → Place → Reply → Meaning
board_after m p (refused c) = m
board_after m p (served k d b) = deed_done m p d

-- the guards, then the rest
abbrev pub passing : Result (Unit {0}) RuleCause → Reply → Reply
passing (Err c) rest = refused c
passing (Ok x) rest = rest

abbrev pub with_standing : Lock → Standing → Lock
with_standing k s = record { place = k.place; standing = s; receipts = k.receipts; results = k.results }

abbrev pub with_receipts : Lock → List (Option Receipted) → Lock
with_receipts k rs = record { place = k.place; standing = k.standing; receipts = rs; results = k.results }

abbrev pub with_results : Lock → List (Option Outcome) → Lock
with_results k rs = record { place = k.place; standing = k.standing; receipts = k.receipts; results = rs }

-- ---- enrol: 9 not new; applied, and sends its enrolment

abbrev pub may_apply : Lock → Result (Unit {0}) RuleCause
may_apply k = refuse_if (not (rank k.standing == 0)) R.OutOfTurn (Ok tt)

abbrev pub enrol_rule : Lock → Reply
enrol_rule k = passing (may_apply k) (served (with_standing k S.Applied) nothing (One (B.Enrol k.place)))

-- ---- receipt: 12 another place; 9 new; 10 the seat is recorded, or past applied; recorded, and a quorum makes it enrolled

abbrev pub may_receipt : Lock → Seat → Place → Result (Unit {0}) RuleCause
may_receipt k s p =
    refuse_if (not (p.0 == k.place.0)) R.Differs
    (refuse_if (rank k.standing == 0) R.OutOfTurn
    (refuse_if (is_some (slice_index_or k.receipts s.0 None) || nat_lt 1 (rank k.standing)) R.Repeated (Ok tt)))

abbrev receipt : Receipted
receipt = record {}

abbrev pub receipted : Lock → Seat → Lock
receipted k s = with_receipts k (slice_set k.receipts s.0 (Some receipt))

abbrev pub enrolled_by : Sizes → Lock → Lock
enrolled_by sizes k = cond (nat_le (quorum_of sizes) (count_agree always_agree receipt k.receipts)) (with_standing k S.Enrolled) k

abbrev pub receipt_rule : Sizes → Lock → Seat → Place → Reply
receipt_rule sizes k s p = passing (may_receipt k s p) (served (enrolled_by sizes (receipted k s)) nothing Nothing)

-- ---- decline: 9 not enrolled; kept

abbrev pub may_decline : Lock → Result (Unit {0}) RuleCause
may_decline k = refuse_if (not (rank k.standing == 2)) R.OutOfTurn (Ok tt)

abbrev pub decline_rule : Lock → Reply
decline_rule k = passing (may_decline k) (served (with_standing k S.Kept) nothing Nothing)

-- ---- summons: 9 new or applied; 10 past enrolled; stages the number: ready; if it is not taken, kept; sends its vote

abbrev pub may_summon : Lock → Result (Unit {0}) RuleCause
may_summon k =
    refuse_if (nat_lt (rank k.standing) 2) R.OutOfTurn
    (refuse_if (nat_lt 2 (rank k.standing)) R.Repeated (Ok tt))

abbrev pub summoned : Lock → Bool → KeyNumber → Reply
summoned k true n = served (with_standing k S.Ready) (stages_there n) (One (B.Vote k.place n A.Ready))
summoned k false n = served (with_standing k S.Kept) nothing (One (B.Vote k.place n A.Refuse))

abbrev pub summons_rule : Lock → Meaning → KeyNumber → Reply
summons_rule k m n = passing (may_summon k) (summoned k (stages m k.place n) n)

-- ---- result: 9 new or applied; 10 ended; 9 a number while enrolled; 12 neither keep nor staged; 10 the seat is recorded;
-- recorded, and f + 1 that agree end it: it takes over, or drops

abbrev pub is_number : Outcome → Bool
is_number Keep = false
is_number (Number n) = true

abbrev pub is_staged : Option KeyNumber → KeyNumber → Bool
is_staged None n = false
is_staged (Some m) n = m.0 == n.0

-- neither keep nor the staged number
abbrev pub strange : Option KeyNumber → Outcome → Bool
strange s Keep = false
strange s (Number n) = not (is_staged s n)

abbrev pub may_result_with : Lock → Option KeyNumber → Seat → Outcome → Result (Unit {0}) RuleCause
may_result_with k staged s x =
    refuse_if (nat_lt (rank k.standing) 2) R.OutOfTurn
    (refuse_if (nat_lt 3 (rank k.standing)) R.Repeated
    (refuse_if (is_number x && rank k.standing == 2) R.OutOfTurn
    (refuse_if (strange staged x) R.Differs
    (refuse_if (is_some (slice_index_or k.results s.0 None)) R.Repeated (Ok tt)))))

abbrev pub may_result : Lock → Meaning → Seat → Outcome → Result (Unit {0}) RuleCause
may_result k m s x = may_result_with k (staged_at m k.place) s x

abbrev pub resulted : Lock → Seat → Outcome → Lock
resulted k s x = with_results k (slice_set k.results s.0 (Some x))

abbrev pub ended_by : Lock → Outcome → Reply
ended_by k Keep = served (with_standing k S.Kept) drops_there Nothing
ended_by k (Number n) = served (with_standing k S.Changed) takes_over_there Nothing

abbrev pub counted : Sizes → Lock → Outcome → Reply
counted sizes k x = cond (nat_le (sizes.faults + 1) (count_agree same_outcome x k.results)) (ended_by k x) (served k nothing Nothing)

abbrev pub result_rule : Sizes → Lock → Meaning → Seat → Outcome → Reply
result_rule sizes k m s x = passing (may_result k m s x) (counted sizes (resulted k s x) x)

-- ---- the board after a call: as the reply says, if there is room for the call

abbrev pub board_called : Meaning → Place → List ℕ → List ℕ → Reply → Meaning
board_called m p out scratch r = cond (has_room out scratch) (board_after m p r) m
