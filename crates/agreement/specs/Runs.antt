-- Lists of calls on a vault that was set up, what parties give out in them, and what letters bear.
use Rattle.std.specs.Prelude.{◌≡◌, ℕ, ◌+◌, ◌<◌, ◌≤◌, Bool, true, false, cond, ◌&&◌, List, [], ◌∷◌, ◌++◌, length, take, drop, is_ok, None, Ok, Err, Result as Res, ◌==◌, ◌≢◌}
use Rattle.terms.specs.declared.parties.Party.{Party}
use Rattle.terms.specs.declared.refusals.Refusal.{Refusal}
use Rattle.terms.specs.declared.sizes.Sizes.{Sizes}
use Rattle.terms.specs.Numbers.{is_change, seat, place}
use Rattle.terms.specs.Parties.{party_number}
use Rattle.terms.specs.Sizes.{seat_count}
use Rattle.letters.specs.declared.bodies.Body.{Body}
use Rattle.letters.specs.declared.bodies.Body.TheVariants.{Enrol, Receipt, Order, Summons, Vote, Proposal, Assent, Confirm, Result, Move}
use Rattle.letters.specs.declared.bodies.Letter.{Letter}
use Rattle.letters.specs.declared.statements.Borne.{Borne}
use Rattle.letters.specs.declared.statements.Statement.{Statement}
use Rattle.letters.specs.Bodies.{in_brief}
use Rattle.letters.specs.Inner.{inner_borne}
use Rattle.letters.specs.Statements.{statement_of, statement_bytes}
use Rattle.reading.specs.Form.{read}
use Rattle.reading.specs.Parts.{Span, Spans}
use Rattle.kept.specs.Kept.{kept_body}
use Rattle.roundtrip.specs.Laws.{Bytes}
use Rattle.letters.specs.Senders.{sender_of}
use Rattle.seals.specs.Opening.{accepted, sender_borne}
use Rattle.boards.specs.Boards.{how_many, staged_at}
use Rattle.posting.specs.declared.few.AtMostTwo.{AtMostTwo}
use Rattle.posting.specs.declared.few.AtMostTwo.TheVariants.{Nothing, One, Two}
use Rattle.controllers.specs.Letters.{fresh_controller}
use Rattle.locks.specs.Fresh.{fresh_lock}
use Rattle.office.specs.Rules.{office}
use Rattle.agreement.specs.Calls.{Vault, State, controller_at, lock_at, Request, orders, enrols, declines, rings, proposes, hands_in, Call, Went, Step}

-- ---- lists of calls

-- a vault that was just set up: a change number in range, a new unit at each seat and place, no order given,
-- and a board that has its places, with nothing staged
pub record SetUp (v : Vault) (s : State) : Type 0 where
  pub numbered : is_change v.change.0 ≡ true
  pub seats : seat_count v.sizes ≤ length s.controllers
  pub new_controllers : (h : ℕ) → h < seat_count v.sizes → controller_at s h ≡ fresh_controller (seat h)
  pub places : v.sizes.locks ≤ length s.locks
  pub new_locks : (p : ℕ) → p < v.sizes.locks → lock_at s p ≡ fresh_lock (place p)
  pub not_ordered : s.office ≡ office false
  pub doors : v.sizes.locks ≤ how_many s.board
  pub unstaged : (p : ℕ) → staged_at s.board (place p) ≡ None

-- what is handed in are bytes
abbrev pub InBytes : Request → Type 0
InBytes (orders n) = Unit {0}
InBytes (enrols n) = Unit {0}
InBytes (declines n) = Unit {0}
InBytes (rings n) = Unit {0}
InBytes (proposes n) = Unit {0}
InBytes (hands_in n bytes) = Bytes bytes

-- the lists of calls that lead from a state to another: each call is served or refused by the rules, and finds vault and
-- board as the last one left them
pub data Run (v : Vault) (from : State) : State → Type 0 where
  start : Run v from from
  next : {s : State} → Run v from s → (call : Call) (w : Went) → InBytes call.request → Step v s call w → Run v from w.state

-- ---- what is given out

-- a statement under the seal of the party that it is from
pub record Given : Type 0 where
  pub party : Party
  pub statement : Statement

-- what a letter's own seal stands on
abbrev pub given_of : Letter Span Spans → Given
given_of l = record { party = sender_of l.body; statement = statement_of l.change (in_brief (kept_body l.body)) }

abbrev pub given_in : Res (Letter Span Spans) Refusal → List Given
given_in (Err e) = []
given_in (Ok l) = given_of l ∷ []

-- what a call gives out: the letters in the output buffer of a served call, cut by the lengths answered, the last first
abbrev pub given_by : Sizes → Res (AtMostTwo ℕ) Refusal → List ℕ → List Given
given_by sizes (Err e) out = []
given_by sizes (Ok Nothing) out = []
given_by sizes (Ok (One n)) out = given_in (read sizes (take n out))
given_by sizes (Ok (Two m n)) out = given_in (read sizes (take n (drop m out))) ++ given_in (read sizes (take m out))

abbrev pub given_at : Vault → Went → List Given
given_at v w = given_by v.sizes w.answer w.out

-- what was given out in a list of calls, the last first
abbrev pub given_out : {v : Vault} {from s : State} → Run v from s → List Given
given_out start = []
given_out {v} (next run call w bytes step) = given_at v w ++ given_out run

pub data Among {A : Type 0} (x : A) : List A → Type 0 where
  here : {y : A} {ys : List A} → x ≡ y → Among x (y ∷ ys)
  there : {y : A} {ys : List A} → Among x ys → Among x (y ∷ ys)

-- the party has given out the statement, byte for byte; one of another change counts as given out
pub data HasGiven (v : Vault) (given : List Given) (q : Party) (st : Statement) : Type 0 where
  of_another_change : (st.change.0 ≢ v.change.0) → HasGiven v given q st
  gave : (g : Given) → Among g given → g.party ≡ q → statement_bytes g.statement ≡ statement_bytes st → HasGiven v given q st

-- ---- what letters bear

-- the seals that bytes bear: none unless they have the form; else the sender's seal and those inside
abbrev pub borne_by : Sizes → Res (Letter Span Spans) Refusal → List Borne
borne_by sizes (Err e) = []
borne_by sizes (Ok l) = sender_borne l.change (kept_body l.body) l.seal ∷ inner_borne sizes l.change (kept_body l.body)

-- each accepted seal of an honest party that the bytes bear is on a statement that the party gave out before
abbrev pub Unforged : Vault → (ℕ → Bool) → List Given → List ℕ → Type 0
Unforged v honest given bytes =
    (b : Borne) → Among b (borne_by v.sizes (read v.sizes bytes)) → honest (party_number b.party) ≡ true → accepted v.relation b ≡ true
    → HasGiven v given b.party b.statement

abbrev pub Fair : Vault → (ℕ → Bool) → List Given → Request → Type 0
Fair v honest given (orders n) = Unit {0}
Fair v honest given (enrols n) = Unit {0}
Fair v honest given (declines n) = Unit {0}
Fair v honest given (rings n) = Unit {0}
Fair v honest given (proposes n) = Unit {0}
Fair v honest given (hands_in n bytes) = Unforged v honest given bytes

-- no letter handed in, be it refused or served, bears a forged seal
abbrev pub Sound : {v : Vault} {from s : State} → (ℕ → Bool) → Run v from s → Type 0
Sound honest start = Unit {0}
Sound {v} honest (next run call w bytes step) = Sound honest run × Fair v honest (given_out run) call.request

-- ---- receipts

abbrev pub is_receipt : {C B : Type 0} → Body C B → Bool
is_receipt (Enrol p) = false
is_receipt (Receipt s p) = true
is_receipt (Order n) = false
is_receipt (Summons s n z) = false
is_receipt (Vote p n a) = false
is_receipt (Proposal s v x c m) = false
is_receipt (Assent s v x d) = false
is_receipt (Confirm s v x d) = false
is_receipt (Result s x) = false
is_receipt (Move s v b) = false

abbrev pub reads_receipt : Res (Letter Span Spans) Refusal → Bool
reads_receipt (Err e) = false
reads_receipt (Ok l) = is_receipt l.body

-- a receipt is handed in to the lock at place p
abbrev pub hands_receipt : Vault → ℕ → Request → Bool
hands_receipt v p (orders n) = false
hands_receipt v p (enrols n) = false
hands_receipt v p (declines n) = false
hands_receipt v p (rings n) = false
hands_receipt v p (proposes n) = false
hands_receipt v p (hands_in n bytes) = n == 32 + p && reads_receipt (read v.sizes bytes)

-- and served: 1 or 0
abbrev pub receipt_at : Vault → ℕ → Call → Went → ℕ
receipt_at v p call w = cond (hands_receipt v p call.request && is_ok w.answer) 1 0

-- how many receipts were served to the lock at place p
abbrev pub receipts_served : {v : Vault} {from s : State} → ℕ → Run v from s → ℕ
receipts_served p start = 0
receipts_served {v} p (next run call w bytes step) = receipt_at v p call w + receipts_served p run
