-- The form of a letter: map, kind, fit, then the fields whose bit stands, in the order of the bits.
use Rattle.std.specs.Prelude.{ℕ, ◌+◌, ◌-◌, Bool, cond, not, ◌&&◌, ◌||◌, List, Ok, Result as Res, ◌==◌, bit_and}
use Rattle.terms.specs.declared.numbers.Change.{Change}
use Rattle.terms.specs.declared.numbers.Seat.{Seat}
use Rattle.terms.specs.declared.numbers.View.{View}
use Rattle.terms.specs.declared.refusals.FormCause.TheVariants.{UnfitMap}
use Rattle.terms.specs.declared.refusals.Refusal.{Refusal}
use Rattle.terms.specs.declared.sizes.Sizes.{Sizes}
use Rattle.terms.specs.Parties.{leader_of}
use Rattle.letters.specs.declared.sorts.Kind.{Kind}
use Rattle.letters.specs.declared.sorts.Kind.TheVariants as K
use Rattle.letters.specs.declared.bodies.Letter.{Letter}
use Rattle.letters.specs.declared.bodies.Body.{Body}
use Rattle.letters.specs.declared.bodies.Body.TheVariants.{Enrol, Receipt, Order, Summons, Vote, Proposal, Assent, Confirm, Result, Move}
use Rattle.letters.specs.Bodies.{letter}
use Rattle.letters.specs.Layout.{bit, common}
use Rattle.letters.specs.Sorts.{stands}
use Rattle.reading.specs.Bind.{◌>>=◌}
use Rattle.reading.specs.Fields as F
use Rattle.reading.specs.Fields.{Read, refuse, checked}
use Rattle.reading.specs.Parts.{Span, Spans}
use Rattle.reading.specs.Spans.{certificate_field, grounds_if}

-- a map without a bit that may stand
abbrev pub without : ℕ → ℕ → ℕ
without b map = bit_and map (65535 - b)

-- besides the common fields, a kind has these; a number may be absent where it is left out of the map first
abbrev pub fits : Kind → ℕ → Bool
fits K.Enrol map = map == common
fits K.Receipt map = map == common + bit 3
fits K.Order map = without (bit 5) map == common
fits K.Summons map = map == common + bit 5 + bit 8
fits K.Vote map = map == common + bit 5 + bit 6
fits K.Proposal map = without (bit 5 + bit 11) map == common + bit 4 + bit 10
fits K.Assent map = without (bit 5) map == common + bit 4 + bit 7
fits K.Confirm map = without (bit 5) map == common + bit 4 + bit 7
fits K.Result map = without (bit 5) map == common
fits K.Move map = map == common + bit 4 || without (bit 5) map == common + bit 4 + bit 9 + bit 10

abbrev pub fit : Kind → ℕ → Res (Unit {0}) Refusal
fit kind map = cond (fits kind map) (Ok tt) (refuse UnfitMap 0)

abbrev pub leads : Sizes → Change → View → Seat → Bool
leads sizes change view seat = seat.0 == (leader_of sizes change view).0

-- a proposal comes from the leader of its view, and names movers exactly if the view is not 0
abbrev pub proposal_view_fits : Sizes → Change → View → Seat → Bool → Bool
proposal_view_fits sizes change view seat moved = leads sizes change view seat && cond moved (not (view.0 == 0)) (view.0 == 0)

abbrev pub enrol_body : Sizes → List ℕ → ℕ → Read (Body Span Spans)
enrol_body sizes xs at = do
  (sender, next) ← F.lock_field sizes xs at
  Ok (Enrol sender, next)

abbrev pub receipt_body : Sizes → List ℕ → ℕ → Read (Body Span Spans)
receipt_body sizes xs at = do
  (sender, a1) ← F.controller_field sizes xs at
  (place, next) ← F.place_field sizes xs a1
  Ok (Receipt sender place, next)

abbrev pub order_body : Sizes → ℕ → List ℕ → ℕ → Read (Body Span Spans)
order_body sizes map xs at = do
  (_, a1) ← F.office_field sizes xs at
  (number, next) ← F.number_if (stands map 5) xs a1
  Ok (Order number, next)

abbrev pub summons_body : Sizes → List ℕ → ℕ → Read (Body Span Spans)
summons_body sizes xs at = do
  (sender, a1) ← F.controller_field sizes xs at
  (number, a2) ← F.number_field xs a1
  (seal, next) ← F.seal_field xs a2
  Ok (Summons sender number seal, next)

abbrev pub vote_body : Sizes → List ℕ → ℕ → Read (Body Span Spans)
vote_body sizes xs at = do
  (sender, a1) ← F.lock_field sizes xs at
  (number, a2) ← F.number_field xs a1
  (answer, next) ← F.answer_field xs a2
  Ok (Vote sender number answer, next)

abbrev pub proposal_body : Sizes → Change → ℕ → List ℕ → ℕ → Read (Body Span Spans)
proposal_body sizes change map xs at = do
  (sender, a1) ← F.controller_field sizes xs at
  (view, a2) ← F.view_field xs a1
  _ ← checked (proposal_view_fits sizes change view sender (stands map 11)) a1
  (outcome, a3) ← F.outcome_if (stands map 5) xs a2
  (certificate, a4) ← certificate_field sizes xs a3
  (movers, next) ← F.movers_if (stands map 11) sizes xs a4
  Ok (Proposal sender view outcome certificate movers, next)

-- an assent comes from any seat but the leader of its view
abbrev pub assent_body : Sizes → Change → ℕ → List ℕ → ℕ → Read (Body Span Spans)
assent_body sizes change map xs at = do
  (sender, a1) ← F.controller_field sizes xs at
  (view, a2) ← F.view_field xs a1
  _ ← checked (not (leads sizes change view sender)) a1
  (outcome, a3) ← F.outcome_if (stands map 5) xs a2
  (digest, next) ← F.digest_field xs a3
  Ok (Assent sender view outcome digest, next)

abbrev pub confirm_body : Sizes → ℕ → List ℕ → ℕ → Read (Body Span Spans)
confirm_body sizes map xs at = do
  (sender, a1) ← F.controller_field sizes xs at
  (view, a2) ← F.view_field xs a1
  (outcome, a3) ← F.outcome_if (stands map 5) xs a2
  (digest, next) ← F.digest_field xs a3
  Ok (Confirm sender view outcome digest, next)

abbrev pub result_body : Sizes → ℕ → List ℕ → ℕ → Read (Body Span Spans)
result_body sizes map xs at = do
  (sender, a1) ← F.controller_field sizes xs at
  (outcome, next) ← F.outcome_if (stands map 5) xs a1
  Ok (Result sender outcome, next)

-- a move leads to another view than 0
abbrev pub move_body : Sizes → Change → ℕ → List ℕ → ℕ → Read (Body Span Spans)
move_body sizes change map xs at = do
  (sender, a1) ← F.controller_field sizes xs at
  (view, a2) ← F.view_field xs a1
  _ ← checked (not (view.0 == 0)) a1
  (basis, next) ← grounds_if (stands map 9) (stands map 5) sizes change view xs a2
  Ok (Move sender view basis, next)

-- what a letter of a kind says, from its sender on
abbrev pub body_field : Sizes → Change → ℕ → Kind → List ℕ → ℕ → Read (Body Span Spans)
body_field sizes change map K.Enrol xs at = enrol_body sizes xs at
body_field sizes change map K.Receipt xs at = receipt_body sizes xs at
body_field sizes change map K.Order xs at = order_body sizes map xs at
body_field sizes change map K.Summons xs at = summons_body sizes xs at
body_field sizes change map K.Vote xs at = vote_body sizes xs at
body_field sizes change map K.Proposal xs at = proposal_body sizes change map xs at
body_field sizes change map K.Assent xs at = assent_body sizes change map xs at
body_field sizes change map K.Confirm xs at = confirm_body sizes map xs at
body_field sizes change map K.Result xs at = result_body sizes map xs at
body_field sizes change map K.Move xs at = move_body sizes change map xs at

-- the letter in the bytes, for a vault of these sizes, or why there is none
abbrev pub read : Sizes → List ℕ → Res (Letter Span Spans) Refusal
read sizes xs = do
  (map, a1) ← F.map_field xs 0
  (kind, a2) ← F.kind_field xs a1
  _ ← fit kind map
  (change, a3) ← F.change_field xs a2
  (body, a4) ← body_field sizes change map kind xs a3
  (seal, a5) ← F.seal_field xs a4
  _ ← F.ended xs a5
  Ok (letter change body seal)
