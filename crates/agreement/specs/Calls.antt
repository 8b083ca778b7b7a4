-- The calls on a whole vault: what each answers, and what it leaves of the vault, the board and the two buffers.
use Rattle.std.specs.Prelude.{◌≡◌, ℕ, Bool, true, cond, List, length, is_ok, Some, None, Ok, Err, Option, Result, nat_lt, slice_index_or, slice_set}
use Rattle.terms.specs.declared.numbers.Change.{Change}
use Rattle.terms.specs.declared.numbers.Place.{Place}
use Rattle.terms.specs.declared.numbers.Seat.{Seat}
use Rattle.terms.specs.declared.parties.Party.{Party}
use Rattle.terms.specs.declared.parties.Party.TheVariants as P
use Rattle.terms.specs.declared.refusals.CallCause.TheVariants as C
use Rattle.terms.specs.declared.refusals.Cause.TheVariants as Cause
use Rattle.terms.specs.declared.refusals.Refusal.{Refusal}
use Rattle.terms.specs.declared.sizes.Sizes.{Sizes}
use Rattle.terms.specs.Numbers.{seat, place}
use Rattle.terms.specs.Parties.{party_number, seat_in, place_in, party_in}
use Rattle.terms.specs.Refusals.{no_room}
use Rattle.letters.specs.declared.sorts.Seal.{Seal}
use Rattle.letters.specs.declared.bodies.Letter.{Letter}
use Rattle.reading.specs.Parts.{Span, Spans}
use Rattle.kept.specs.Kept.{kept}
use Rattle.letters.specs.Senders.{sender_of}
use Rattle.seals.specs.Opening.{Relation, opening}
use Rattle.seals.specs.Scratch.{cleared}
use Rattle.boards.specs.Boards.{Meaning}
use Rattle.posting.specs.declared.few.AtMostTwo.{AtMostTwo}
use Rattle.posting.specs.declared.few.Seals.{Seals}
use Rattle.posting.specs.Calls as Unit-calls
use Rattle.posting.specs.Calls.{has_room, pointed, called, reply_sealed}
use Rattle.posting.specs.Posting.{are_words}
use Rattle.posting.specs.Replies.{Reply}
use Rattle.controllers.specs.declared.controller.Controller.{Controller}
use Rattle.controllers.specs.Letters as Controllers
use Rattle.controllers.specs.Letters.{fresh_controller}
use Rattle.controllers.specs.Rules.{ring_rule, propose_rule}
use Rattle.locks.specs.declared.lock.Lock.{Lock}
use Rattle.locks.specs.Fresh.{fresh_lock}
use Rattle.locks.specs.Letters as Locks
use Rattle.locks.specs.Rules as Lock-rules
use Rattle.locks.specs.Rules.{replied, board_called, enrol_rule, decline_rule}
use Rattle.office.specs.declared.Office.{Office}
use Rattle.office.specs.Rules.{order_reply}

-- what stays through all calls: the sizes of the vault, the change that it is in, and which seals are accepted
pub record Vault : Type 0 where
  pub sizes : Sizes
  pub change : Change
  pub relation : Relation

-- what calls alter: the units, of which a table may hold more than the vault has, and the board
pub record State : Type 0 where
  pub controllers : List Controller
  pub locks : List Lock
  pub office : Office
  pub board : Meaning

-- the controller at a seat, and the lock at a place
abbrev pub controller_at : State → ℕ → Controller
controller_at s h = slice_index_or s.controllers h (fresh_controller (seat h))

abbrev pub lock_at : State → ℕ → Lock
lock_at s p = slice_index_or s.locks p (fresh_lock (place p))

-- ---- what is asked

pub data Request : Type 0 where
  -- the office is to order a number, or a cancel
  orders : Option ℕ → Request
  -- the lock at a place is to enrol, or to decline
  enrols : ℕ → Request
  declines : ℕ → Request
  -- the controller at a seat is rung, or is to propose
  rings : ℕ → Request
  proposes : ℕ → Request
  -- bytes are handed in to the party with a number: a seat, or 32 and a place
  hands_in : ℕ → List ℕ → Request

-- a call: what is asked, and the output buffer and the scratch buffer that are lent for it
pub record Call : Type 0 where
  pub request : Request
  pub out : List ℕ
  pub scratch : List ℕ

-- what a call answers, the length of each letter sent or a refusal, and what it leaves
pub record Went : Type 0 where
  pub answer : Result (AtMostTwo ℕ) Refusal
  pub state : State
  pub out : List ℕ
  pub scratch : List ℕ

abbrev pub went : Result (AtMostTwo ℕ) Refusal → State → List ℕ → List ℕ → Went
went a s o x = record { answer = a; state = s; out = o; scratch = x }

-- ---- whose turn it is

-- 18: no unit of this vault has the number, or the table that is lent does not reach it
abbrev pub no_such_unit : Refusal
no_such_unit = record { cause = Cause.Call C.NoSuchUnit; place = 0 }

-- what a call comes to once its own checks are made
pub data Turn : Type 0 where
  -- it is refused, and nothing is touched
  halted : Refusal → Turn
  -- the letter does not open, and nothing but the scratch buffer is touched
  unopened : Refusal → Turn
  -- a controller's turn: its seat, and what its rules say under a first seal
  of_controller : ℕ → (Seal → Reply Refusal Controller) → Turn
  -- a lock's turn: its place, the party that a refusal points to, and what its rules say
  of_lock : ℕ → ℕ → Lock-rules.Reply → Turn
  of_office : Reply Refusal Office → Turn

abbrev pub asks_controller : State → Option Seat → (Controller → Turn) → Turn
asks_controller s None rest = halted no_such_unit
asks_controller s (Some h) rest = cond (nat_lt h.0 (length s.controllers)) (rest (controller_at s h.0)) (halted no_such_unit)

abbrev pub asks_lock : State → Option Place → (Lock → Turn) → Turn
asks_lock s None rest = halted no_such_unit
asks_lock s (Some p) rest = cond (nat_lt p.0 (length s.locks)) (rest (lock_at s p.0)) (halted no_such_unit)

abbrev pub opens : Result (Letter Span Spans) Refusal → (Letter Span Spans → Turn) → Turn
opens (Err e) rest = unopened e
opens (Ok l) rest = rest l

-- room is tried, and then the letter is opened: form, sender's seal, inner seals
abbrev pub after_opening : Vault → Call → List ℕ → (Letter Span Spans → Turn) → Turn
after_opening v call bytes rest =
    cond (has_room call.out call.scratch) (opens (opening v.sizes v.relation bytes) rest) (halted no_room)

-- a refusal of a letter by the rules points to its sender
abbrev pub sender : Letter Span Spans → ℕ
sender l = party_number (sender_of l.body)

abbrev pub letter_to_controller : Vault → ℕ → Controller → Letter Span Spans → Turn
letter_to_controller v h u l = of_controller h (λ own. pointed (sender l) (Controllers.letter_rule v.sizes v.change u (kept l) own))

abbrev pub letter_to_lock : Vault → State → ℕ → Lock → Letter Span Spans → Turn
letter_to_lock v s p k l = of_lock p (sender l) (Locks.letter_rule v.sizes v.change k s.board l)

-- letters are for controllers and locks
abbrev pub handed_to : Vault → State → Call → List ℕ → Option Party → Turn
handed_to v s call bytes None = halted no_such_unit
handed_to v s call bytes (Some P.Office) = halted no_such_unit
handed_to v s call bytes (Some (P.Controller h)) = asks_controller s (Some h) (λ u. after_opening v call bytes (letter_to_controller v h.0 u))
handed_to v s call bytes (Some (P.Lock p)) = asks_lock s (Some p) (λ k. after_opening v call bytes (letter_to_lock v s p.0 k))

-- a refusal by the rules points to 0 where no letter is handed in
abbrev pub turn_for : Vault → State → Call → Request → Turn
turn_for v s call (orders n) = of_office (order_reply s.office n)
turn_for v s call (enrols n) = asks_lock s (place_in v.sizes n) (λ k. of_lock n 0 (enrol_rule k))
turn_for v s call (declines n) = asks_lock s (place_in v.sizes n) (λ k. of_lock n 0 (decline_rule k))
turn_for v s call (rings n) = asks_controller s (seat_in v.sizes n) (λ u. of_controller n (λ own. pointed 0 (ring_rule u)))
turn_for v s call (proposes n) = asks_controller s (seat_in v.sizes n) (λ u. of_controller n (λ own. pointed 0 (propose_rule v.sizes v.change u own)))
turn_for v s call (hands_in n bytes) = handed_to v s call bytes (party_in v.sizes n)

abbrev pub turn_of : Vault → State → Call → Turn
turn_of v s call = turn_for v s call call.request

-- ---- what a turn leaves

abbrev pub controller_went : State → ℕ → Unit-calls.Went Controller → Went
controller_went s h w =
    went w.answer (record { controllers = slice_set s.controllers h w.unit; locks = s.locks; office = s.office; board = s.board }) w.out w.scratch

abbrev pub lock_went : State → Call → ℕ → Lock-rules.Reply → Unit-calls.Went Lock → Went
lock_went s call p r w =
    went w.answer
    (record { controllers = s.controllers; locks = slice_set s.locks p w.unit; office = s.office; board = board_called s.board (lock_at s p).place call.out call.scratch r })
    w.out w.scratch

abbrev pub office_went : State → Unit-calls.Went Office → Went
office_went s w = went w.answer (record { controllers = s.controllers; locks = s.locks; office = w.unit; board = s.board }) w.out w.scratch

-- `zs` are the seals under what is sent
abbrev pub turn_went : Change → State → Call → Seals → Turn → Went
turn_went t s call zs (halted e) = went (Err e) s call.out call.scratch
turn_went t s call zs (unopened e) = went (Err e) s call.out (cleared call.scratch)
turn_went t s call zs (of_controller h rule) = controller_went s h (called t (controller_at s h) call.out call.scratch zs (rule zs.first))
turn_went t s call zs (of_lock p from r) = lock_went s call p r (called t (lock_at s p) call.out call.scratch zs (pointed from (replied r)))
turn_went t s call zs (of_office r) = office_went s (called t s.office call.out call.scratch zs r)

-- each seal is its sender's on what its letter says
abbrev pub turn_sealed : Relation → Change → Seals → Turn → Bool
turn_sealed holds t zs (halted e) = true
turn_sealed holds t zs (unopened e) = true
turn_sealed holds t zs (of_controller h rule) = reply_sealed holds t zs (rule zs.first)
turn_sealed holds t zs (of_lock p from r) = reply_sealed holds t zs (replied r)
turn_sealed holds t zs (of_office r) = reply_sealed holds t zs r

-- what a call answers and leaves, under the seals that it made
unfoldable pub step : Vault → State → Call → Seals → Went
step v s call zs = turn_went v.change s call zs (turn_of v s call)

-- a call is served or refused by the rules, with some seals that are in the relation under what it sends
pub record Step (v : Vault) (s : State) (call : Call) (w : Went) : Type 0 where
  pub seals : Seals
  pub words : are_words seals ≡ true
  pub goes : w ≡ step v s call seals
  pub sealed : is_ok w.answer ≡ true → turn_sealed v.relation v.change seals (turn_of v s call) ≡ true
