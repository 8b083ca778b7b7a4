-- The worked cases: what the definitions come to at numbers that can be checked by hand.
use Rattle.std.specs.Prelude.{◌≡◌, ℕ, true, false, List, [], ◌∷◌, replicate, pos, negsuc, Some, None, Option}
use Rattle.terms.specs.declared.numbers.Change.{Change}
use Rattle.terms.specs.declared.numbers.Place.{Place}
use Rattle.terms.specs.declared.sizes.Sizes.{Sizes}
use Rattle.terms.specs.declared.parties.Outcome.TheVariants.{Keep, Number}
use Rattle.terms.specs.Numbers.{seat, place, change, view_of, key}
use Rattle.terms.specs.Parties.{leader_of}
use Rattle.boards.specs.Boards.{has_place, takes_at}
use Rattle.boards.specs.Keypads.{Keypad, keypad_meaning}
use Rattle.boards.specs.Wheels.{turn_of}
use Rattle.boards.specs.WheelBoards.{WheelBoard, wheel_meaning}
use Rattle.letters.specs.declared.sorts.Seal.{Seal}
use Rattle.letters.specs.declared.sorts.Answer.{Answer}
use Rattle.letters.specs.declared.sorts.Answer.TheVariants.{Ready, Refuse}
use Rattle.letters.specs.declared.certificates.Vote.{Vote}
use Rattle.letters.specs.declared.certificates.Certificate.{Certificate}
use Rattle.letters.specs.declared.certificates.Basis.{Basis}
use Rattle.letters.specs.declared.bodies.Letter.{Letter}
use Rattle.letters.specs.declared.bodies.Body.{Body}
use Rattle.letters.specs.declared.bodies.Body.TheVariants.{Enrol, Order}
use Rattle.letters.specs.Bodies.{in_brief, letter}
use Rattle.letters.specs.Certificates.{result_of}
use Rattle.letters.specs.Layout.{layout}
use Rattle.letters.specs.Statements.{statement_bytes, statement_of}
use Rattle.schemes.specs.Kinds.{sheet_seal}
use Rattle.seals.specs.Opening.{sender_of}

-- a row for each of eight places: these at places 0 and 1, and nothing at the others
abbrev pub rows : {A : Type 0} → Option A → Option A → List (Option A)
rows a b = a ∷ b ∷ None ∷ None ∷ None ∷ None ∷ None ∷ None ∷ []

abbrev pub vote : Answer → Seal → Option Vote
vote a z = Some (record { answer = a; seal = z })

-- a certificate under an order of 5,020, whose seal is z
abbrev pub under5020 : Seal → List (Option Seal) → List (Option Vote) → Certificate
under5020 z es vs = record { order = record { number = Some (key 5020); seal = z }; enrolled = es; votes = vs }

-- the same, with places 0 and 1 enrolled and these answers of theirs, under whatever seals
abbrev pub answered : Seal → Seal → Seal → Seal → Seal → Answer → Answer → Certificate
answered z d e u v a b = under5020 z (rows (Some d) (Some e)) (rows (vote a u) (vote b v))

-- a sheet of ones for every party
abbrev pub ones : List (List ℕ)
ones = replicate 25 (replicate 25 1)

-- a letter of change 7, with the sender's seal under the sheets of ones
abbrev pub sealed_by_ones : Body Certificate Basis → Letter Certificate Basis
sealed_by_ones b = letter (change 7) b (sheet_seal ones (sender_of b) (statement_bytes (statement_of (change 7) (in_brief b))))

pub record WorkedCases : Type 0 where
  -- among seven controllers seat 2 leads view 9 of every change
  pub seat_2_leads_view_9 : (sizes : Sizes) (t : Change) → sizes.faults ≡ 2 → leader_of sizes t (view_of 9) ≡ seat 2
  -- a wheel turns 49 forth, but 50 back rather than forth
  pub turns_49_forth : turn_of 10 59 ≡ pos 49
  pub turns_50_back : turn_of 10 60 ≡ negsuc 49
  -- a wheel board takes 5,020 at each of its places, and 5,019 at none
  pub wheels_take_5020 : (b : WheelBoard) (p : Place) → has_place (wheel_meaning b) p ≡ true → takes_at (wheel_meaning b) p 5020 ≡ true
  pub wheels_do_not_take_5019 : (b : WheelBoard) (p : Place) → takes_at (wheel_meaning b) p 5019 ≡ false
  -- a keypad takes 111,112 at each of its places, and 111,111 at none
  pub keypad_takes_111112 : (k : Keypad) (p : Place) → has_place (keypad_meaning k) p ≡ true → takes_at (keypad_meaning k) p 111112 ≡ true
  pub keypad_does_not_take_111111 : (k : Keypad) (p : Place) → takes_at (keypad_meaning k) p 111111 ≡ false
  -- 5,020 if places 0 and 1 are enrolled and both are ready; keep if one of them refuses
  pub both_ready : (z d e u v : Seal) → result_of (answered z d e u v Ready Ready) ≡ Number (key 5020)
  pub first_refuses : (z d e u v : Seal) → result_of (answered z d e u v Refuse Ready) ≡ Keep
  pub second_refuses : (z d e u v : Seal) → result_of (answered z d e u v Ready Refuse) ≡ Keep
  -- keep if nobody is enrolled, whatever votes there are
  pub nobody_enrolled : (z : Seal) (vs : List (Option Vote)) → result_of (under5020 z (rows None None) vs) ≡ Keep
  -- under sheets of ones, lock 2 enrols in change 7 so, and the office orders 123,456 so
  pub enrolment_of_lock_2 : layout (sealed_by_ones (Enrol (place 2))) ≡ 0x07 ∷ 0x10 ∷ 0x01 ∷ 0x07 ∷ 0x22 ∷ 0x43 ∷ 0 ∷ 0 ∷ 0 ∷ 0 ∷ 0 ∷ 0 ∷ 0 ∷ []
  pub order_of_123456 : layout (sealed_by_ones (Order (Some (key 123456)))) ≡ 0x27 ∷ 0x10 ∷ 0x03 ∷ 0x07 ∷ 0x40 ∷ 0x40 ∷ 0xE2 ∷ 0x01 ∷ 0x00 ∷ 0x87 ∷ 0x01 ∷ 0 ∷ 0 ∷ 0 ∷ 0 ∷ 0 ∷ 0 ∷ []
