-- Letters within range, for a vault of given sizes.
use Rattle.std.specs.Prelude.{ℕ, ◌*◌, ◌^◌, Bool, true, cond, not, ◌&&◌, List, [], ◌∷◌, length, is_some, Some, None, Option, ◌==◌, count_ones, nat_lt}
use Rattle.terms.specs.declared.numbers.Change.{Change}
use Rattle.terms.specs.declared.numbers.KeyNumber.{KeyNumber}
use Rattle.terms.specs.declared.numbers.Place.{Place}
use Rattle.terms.specs.declared.numbers.Seat.{Seat}
use Rattle.terms.specs.declared.numbers.View.{View}
use Rattle.terms.specs.declared.sizes.Sizes.{Sizes}
use Rattle.terms.specs.Numbers.{is_change, is_key}
use Rattle.terms.specs.Parties.{leader_of}
use Rattle.terms.specs.Sizes.{seat_count, quorum_of}
use Rattle.letters.specs.declared.sorts.Seal.{Seal}
use Rattle.letters.specs.declared.certificates.Certificate.{Certificate}
use Rattle.letters.specs.declared.certificates.Basis.{Basis}
use Rattle.letters.specs.declared.certificates.Vote.{Vote as CastVote}
use Rattle.letters.specs.declared.bodies.Letter.{Letter}
use Rattle.letters.specs.declared.bodies.Body.{Body}
use Rattle.letters.specs.declared.bodies.Body.TheVariants.{Enrol, Receipt, Order, Summons, Vote, Proposal, Assent, Confirm, Result, Move}
use Rattle.letters.specs.Bytes.{map_of}
use Rattle.letters.specs.Certificates.{vote_seals}
use Rattle.letters.specs.Sorts.{stands}
use Rattle.letters.specs.Statements.{outcome_number}

abbrev pub is_byte : ℕ → Bool
is_byte n = nat_lt n 256

abbrev pub is_word : ℕ → Bool
is_word n = nat_lt n (2 ^ 64)

abbrev pub number_fits : Option KeyNumber → Bool
number_fits None = true
number_fits (Some n) = is_key n.0

-- a seat of the vault
abbrev pub seat_fits : Sizes → Seat → Bool
seat_fits sizes s = nat_lt s.0 (seat_count sizes)

-- a place of the vault
abbrev pub place_fits : Sizes → Place → Bool
place_fits sizes p = nat_lt p.0 sizes.locks

-- every seal in the rows is a word
unfoldable pub rows_fit : List (Option Seal) → Bool
rows_fit [] = true
rows_fit (None ∷ rs) = rows_fit rs
rows_fit (Some z ∷ rs) = is_word z.0 && rows_fit rs

-- nobody has voted that is not enrolled
unfoldable pub votes_within : List (Option Seal) → List (Option CastVote) → Bool
votes_within es [] = true
votes_within [] (v ∷ vs) = not (is_some v) && votes_within [] vs
votes_within (e ∷ es) (v ∷ vs) = cond (is_some v) (is_some e) true && votes_within es vs

-- nobody has voted under a cancel
abbrev pub cancel_unvoted : Option KeyNumber → List (Option CastVote) → Bool
cancel_unvoted (Some n) vs = true
cancel_unvoted None vs = map_of is_some vs == 0

-- eight rows, none of them at L or above; votes only of enrolled places, and none under a cancel
abbrev pub certificate_fits : Sizes → Certificate → Bool
certificate_fits sizes c =
    (length c.enrolled == 8 && length c.votes == 8)
    && (nat_lt (map_of is_some c.enrolled) (2 ^ sizes.locks)
    && (votes_within c.enrolled c.votes
    && (cancel_unvoted c.order.number c.votes
    && (number_fits c.order.number
    && (is_word c.order.seal.0
    && (rows_fit c.enrolled && rows_fit (vote_seals c.votes)))))))

-- sixteen rows; exactly 2f seats of the vault, its view's leader not among them; a view below the letter's
abbrev pub basis_fits : Sizes → Change → View → Basis → Bool
basis_fits sizes t v b =
    nat_lt b.view.0 v.0
    && (length b.assents == 16
    && (nat_lt (map_of is_some b.assents) (2 ^ seat_count sizes)
    && (count_ones (map_of is_some b.assents) == 2 * sizes.faults
    && (not (stands (map_of is_some b.assents) (leader_of sizes t b.view).0)
    && (number_fits (outcome_number b.outcome)
    && (is_word b.leader_seal.0
    && (rows_fit b.assents
    && certificate_fits sizes b.certificate)))))))

abbrev pub grounds_fit : Sizes → Change → View → Option Basis → Bool
grounds_fit sizes t v None = true
grounds_fit sizes t v (Some b) = basis_fits sizes t v b

-- none in view 0; else exactly 2f + 1 seats of the vault
abbrev pub movers_fit : Sizes → View → ℕ → Bool
movers_fit sizes v m = cond (v.0 == 0) (m == 0) (nat_lt m (2 ^ seat_count sizes) && count_ones m == quorum_of sizes)

-- the leader of the view, or any other seat
abbrev pub leads : Sizes → Change → View → Seat → Bool
leads sizes t v s = s.0 == (leader_of sizes t v).0

abbrev pub body_fits : Sizes → Change → Body Certificate Basis → Bool
body_fits sizes t (Enrol p) = place_fits sizes p
body_fits sizes t (Receipt s p) = seat_fits sizes s && place_fits sizes p
body_fits sizes t (Order n) = number_fits n
body_fits sizes t (Summons s n z) = seat_fits sizes s && (is_key n.0 && is_word z.0)
body_fits sizes t (Vote p n a) = place_fits sizes p && is_key n.0
body_fits sizes t (Proposal s v x c m) =
    is_byte v.0 && (leads sizes t v s && (number_fits (outcome_number x) && (certificate_fits sizes c && movers_fit sizes v m.0)))
body_fits sizes t (Assent s v x d) =
    seat_fits sizes s && (is_byte v.0 && (not (leads sizes t v s) && (number_fits (outcome_number x) && is_word d.0)))
body_fits sizes t (Confirm s v x d) = seat_fits sizes s && (is_byte v.0 && (number_fits (outcome_number x) && is_word d.0))
body_fits sizes t (Result s x) = seat_fits sizes s && number_fits (outcome_number x)
body_fits sizes t (Move s v b) = seat_fits sizes s && (is_byte v.0 && (not (v.0 == 0) && grounds_fit sizes t v b))

-- a letter within range
abbrev pub letter_fits : Sizes → Letter Certificate Basis → Bool
letter_fits sizes l = is_change l.change.0 && (is_word l.seal.0 && body_fits sizes l.change l.body)
