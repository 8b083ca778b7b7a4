-- The bytes of a letter.
use Rattle.std.specs.Prelude.{ℕ, ◌+◌, ◌/◌, ◌%◌, ◌^◌, cond, List, [], ◌∷◌, ◌++◌, is_some, Some, None, Option, ◌==◌}
use Rattle.terms.specs.declared.numbers.Change.{Change}
use Rattle.terms.specs.declared.numbers.KeyNumber.{KeyNumber}
use Rattle.terms.specs.declared.numbers.View.{View}
use Rattle.terms.specs.declared.parties.Party.{Party}
use Rattle.terms.specs.declared.parties.Party.TheVariants.{Controller, Lock, Office}
use Rattle.terms.specs.Parties.{party_number}
use Rattle.letters.specs.declared.sorts.SeatSet.{SeatSet}
use Rattle.letters.specs.declared.sorts.Kind.{Kind}
use Rattle.letters.specs.declared.sorts.Kind.TheVariants as K
use Rattle.letters.specs.declared.certificates.Certificate.{Certificate}
use Rattle.letters.specs.declared.certificates.Basis.{Basis}
use Rattle.letters.specs.declared.bodies.Letter.{Letter}
use Rattle.letters.specs.declared.bodies.Body.{Body}
use Rattle.letters.specs.declared.bodies.Body.TheVariants.{Enrol, Receipt, Order, Summons, Vote, Proposal, Assent, Confirm, Result, Move}
use Rattle.letters.specs.Sorts.{kind_number, answer_number}
use Rattle.letters.specs.Bytes.{le2, le4, le8, map_of, row_bytes}
use Rattle.letters.specs.Certificates.{certificate_bytes, number_bytes}
use Rattle.letters.specs.Statements.{outcome_number}

-- a letter's map has a bit for each field: 0 kind, 1 change, 2 sender, 3 place, 4 view, 5 number,
-- 6 answer, 7 digest, 8 office's seal, 9 basis, 10 certificate, 11 movers, 12 seal
abbrev pub bit : ℕ → ℕ
bit k = 2 ^ k

-- kind, change, sender and seal, which every letter has
abbrev pub common : ℕ
common = bit 0 + bit 1 + bit 2 + bit 12

abbrev pub number_bit : Option KeyNumber → ℕ
number_bit None = 0
number_bit (Some n) = bit 5

abbrev pub movers_bit : View → ℕ
movers_bit v = cond (v.0 == 0) 0 (bit 11)

-- map, kind, change and sender
abbrev pub head : ℕ → Kind → Change → Party → List ℕ
head map k t q = (map % 256) ∷ (map / 256) ∷ kind_number k ∷ (t.0 % 256) ∷ (party_number q % 256) ∷ []

-- a proposal names movers unless its view is 0
abbrev pub movers_bytes : View → SeatSet → List ℕ
movers_bytes v m = cond (v.0 == 0) [] (le2 m.0)

-- view, seat map, the leader's seal, then the seals of the seats
abbrev pub basis_bytes : Basis → List ℕ
basis_bytes b = (((b.view.0 ∷ []) ++ le2 (map_of is_some b.assents)) ++ le8 b.leader_seal.0) ++ row_bytes b.assents

abbrev pub move_map : Option Basis → ℕ
move_map None = common + bit 4
move_map (Some b) = common + bit 4 + number_bit (outcome_number b.outcome) + bit 9 + bit 10

abbrev pub grounds_bytes : Option Basis → List ℕ
grounds_bytes None = []
grounds_bytes (Some b) = (number_bytes (outcome_number b.outcome) ++ basis_bytes b) ++ certificate_bytes b.certificate

-- an outcome in a view with a digest: an assent or a confirm
abbrev pub viewed_bytes : Kind → Change → Party → View → Option KeyNumber → ℕ → List ℕ
viewed_bytes k t q v n d = ((head (common + bit 4 + number_bit n + bit 7) k t q ++ (v.0 ∷ [])) ++ number_bytes n) ++ le8 d

-- all of a letter but its seal
abbrev pub body_bytes : Change → Body Certificate Basis → List ℕ
body_bytes t (Enrol p) = head common K.Enrol t (Lock p)
body_bytes t (Receipt s p) = head (common + bit 3) K.Receipt t (Controller s) ++ (p.0 ∷ [])
body_bytes t (Order n) = head (common + number_bit n) K.Order t Office ++ number_bytes n
body_bytes t (Summons s n z) = (head (common + bit 5 + bit 8) K.Summons t (Controller s) ++ le4 n.0) ++ le8 z.0
body_bytes t (Vote p n a) = (head (common + bit 5 + bit 6) K.Vote t (Lock p) ++ le4 n.0) ++ (answer_number a ∷ [])
body_bytes t (Proposal s v x c m) =
    (((head (common + bit 4 + number_bit (outcome_number x) + bit 10 + movers_bit v) K.Proposal t (Controller s) ++ (v.0 ∷ []))
    ++ number_bytes (outcome_number x)) ++ certificate_bytes c) ++ movers_bytes v m
body_bytes t (Assent s v x d) = viewed_bytes K.Assent t (Controller s) v (outcome_number x) d.0
body_bytes t (Confirm s v x d) = viewed_bytes K.Confirm t (Controller s) v (outcome_number x) d.0
body_bytes t (Result s x) = head (common + number_bit (outcome_number x)) K.Result t (Controller s) ++ number_bytes (outcome_number x)
body_bytes t (Move s v b) = (head (move_map b) K.Move t (Controller s) ++ (v.0 ∷ [])) ++ grounds_bytes b

abbrev pub layout : Letter Certificate Basis → List ℕ
layout l = body_bytes l.change l.body ++ le8 l.seal.0
