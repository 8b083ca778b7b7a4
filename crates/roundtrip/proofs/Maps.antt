-- A letter's map: it fits the kind, and says which fields there are. And the movers.
use Rattle.std.proofs.Common.{◌≡◌, ℕ, ◌+◌, ◌*◌, ◌/◌, ◌%◌, ◌^◌, ◌<◌, ◌≤◌, Bool, true, false, cond, not, ◌&&◌, eqb, ltb, List, [], length, is_some, Some, None, Ok, Option, sym, refl, ap, ◌∙◌, subst, ap₂, inl, inr, arith, pow_mono}
use lib.Bits.{bit_and}
use lib.Count.{ones}
use Rattle.std.proofs.lemmas.Nat.{and_mod, and_shr, and_mask}
use Rattle.std.proofs.lemmas.Bool.Decides.{nat_tests}
use Rattle.std.proofs.lemmas.Bool.{ltb-true, lt-ltb, eqb-true, eq-eqb, and_parts, and_from, or_cases}
use Rattle.terms.specs.declared.numbers.KeyNumber.{KeyNumber}
use Rattle.terms.specs.declared.numbers.View.{View}
use Rattle.terms.specs.declared.sizes.Sizes.{Sizes}
use Rattle.terms.specs.Sizes.{seat_count, quorum_of}
use Rattle.letters.specs.declared.sorts.Kind.{Kind}
use Rattle.letters.specs.declared.sorts.Kind.TheVariants as K
use Rattle.letters.specs.declared.sorts.SeatSet.{SeatSet}
use Rattle.letters.specs.declared.certificates.Basis.{Basis}
use Rattle.letters.specs.Bytes.{le2}
use Rattle.letters.specs.Layout.{bit, common, number_bit, movers_bytes, move_map}
use Rattle.letters.specs.Ranges.{movers_fit}
use Rattle.letters.specs.Sorts.{stands, seat_set}
use Rattle.letters.specs.Statements.{outcome_number}
use Rattle.reading.specs.Fields as F
use Rattle.reading.specs.Form.{fits}
use Rattle.roundtrip.specs.Laws.{Bytes}
use Rattle.roundtrip.proofs.Pieces.{Piece, nothing}
use Rattle.roundtrip.proofs.Steps.{after, step, pass, passed, ok_same, two_reads, two_found}
use Rattle.roundtrip.proofs.Certificates.{map_low, low_map}
use Rattle.roundtrip.proofs.Bases.{numbered_in}

-- a map that fits its kind
abbrev pub MapFits : Kind → ℕ → Type 0
MapFits k m = ((ltb m 8192 && stands m 0) ≡ true) × (fits k m ≡ true)

abbrev pub order_map : Option KeyNumber → ℕ
order_map n = common + number_bit n

pub order_fits_lem : (n : Option KeyNumber) → MapFits K.Order (order_map n) × MapFits K.Result (order_map n) × (stands (order_map n) 5 ≡ is_some n)
order_fits_lem n = grind arith

abbrev pub viewed_map : Option KeyNumber → ℕ
viewed_map n = common + bit 4 + number_bit n + bit 7

pub viewed_fits : (n : Option KeyNumber) → MapFits K.Assent (viewed_map n) × MapFits K.Confirm (viewed_map n) × (stands (viewed_map n) 5 ≡ is_some n)
viewed_fits n = grind arith

abbrev pub proposal_map : Option KeyNumber → Bool → ℕ
proposal_map n moved = common + bit 4 + number_bit n + bit 10 + cond moved (bit 11) 0

pub proposal_fits : (n : Option KeyNumber) (moved : Bool) → MapFits K.Proposal (proposal_map n moved) × (stands (proposal_map n moved) 5 ≡ is_some n) × (stands (proposal_map n moved) 11 ≡ moved)
proposal_fits n moved = grind arith

pub movers_bit_lem : (x : Bool) → cond x 0 (bit 11) ≡ cond (not x) (bit 11) 0
movers_bit_lem x = grind arith

pub move_fits : (b : Option Basis) → MapFits K.Move (move_map b) × (stands (move_map b) 9 ≡ is_some b) × (stands (move_map b) 5 ≡ numbered_in b)
move_fits b = grind arith

-- ---- movers

seats_below : (sizes : Sizes) (n : ℕ) → n < 2 ^ seat_count sizes → n < 65536
seats_below sizes n h = let k : seat_count sizes ≤ 16 = omega arith in let p : 2 ^ seat_count sizes ≤ 2 ^ 16 = pow_mono k in omega arith

movers_read_by : (x : Bool) (sizes : Sizes) (s : SeatSet) {xs : List ℕ} {a e : ℕ} → cond x (eqb s.0 0) (ltb s.0 (2 ^ seat_count sizes) && eqb (ones s.0) (quorum_of sizes)) ≡ true → Piece xs a (cond x [] (le2 s.0)) e → F.movers_if (not x) sizes xs a ≡ Ok (s, e)
movers_read_by true sizes s {xs} {a} {e} f p = ap₂ (λ (n k : ℕ). Ok (seat_set n, k)) (sym (eqb-true _ _ f)) (omega (arith, p.ends))
movers_read_by false sizes s {xs} {a} {e} f p =
    let g = and_parts (ltb s.0 (2 ^ seat_count sizes)) (eqb (ones s.0) (quorum_of sizes)) f in
    let h = ltb-true _ _ g.0 in
    after _ (two_reads p (seats_below sizes s.0 h)) (pass _ a _ _ (and_from _ _ (eq-eqb _ _ (map_low s.0 (seat_count sizes) h)) g.1) refl)

pub movers_read : (v : View) (sizes : Sizes) (s : SeatSet) {xs : List ℕ} {a e : ℕ} → movers_fit sizes v s.0 ≡ true → Piece xs a (movers_bytes v s) e → F.movers_if (not (eqb v.0 0)) sizes xs a ≡ Ok (s, e)
movers_read v sizes s f p = movers_read_by (eqb v.0 0) sizes s f p

abbrev MoversBy : Bool → Sizes → List ℕ → ℕ → SeatSet × ℕ → Type 0
MoversBy x sizes xs a p = Piece xs a (cond x [] (le2 p.0.0)) p.1 × (cond x (eqb p.0.0 0) (ltb p.0.0 (2 ^ seat_count sizes) && eqb (ones p.0.0) (quorum_of sizes)) ≡ true)

movers_found_by : (x : Bool) (sizes : Sizes) (xs : List ℕ) → Bytes xs → (a : ℕ) → a ≤ length xs → (p : SeatSet × ℕ) → F.movers_if (not x) sizes xs a ≡ Ok p → MoversBy x sizes xs a p
movers_found_by true sizes xs bytes a h p e = subst (MoversBy true sizes xs a) (ok_same e) (nothing xs a h, refl)
movers_found_by false sizes xs bytes a h p e =
    step (F.two xs a) _ p e (λ q e1 e2.
    let (f, e3) = passed (eqb (q.0 / 2 ^ seat_count sizes) 0 && eqb (ones q.0) (quorum_of sizes)) a _ p e2 in
    let g = and_parts (eqb (q.0 / 2 ^ seat_count sizes) 0) (eqb (ones q.0) (quorum_of sizes)) f in
    let (s, b) = two_found xs bytes a q e1 in
    subst (MoversBy false sizes xs a) (ok_same e3) (s, and_from _ _ (lt-ltb _ _ (low_map _ _ (eqb-true _ _ g.0))) g.1))

pub movers_found : (v : View) (moved : Bool) (sizes : Sizes) (xs : List ℕ) → Bytes xs → (a : ℕ) → a ≤ length xs → moved ≡ not (eqb v.0 0) → (p : SeatSet × ℕ) → F.movers_if moved sizes xs a ≡ Ok p
    → Piece xs a (movers_bytes v p.0) p.1 × (movers_fit sizes v p.0.0 ≡ true)
movers_found v moved sizes xs bytes a h m p e = movers_found_by (eqb v.0 0) sizes xs bytes a h p (subst (λ x. F.movers_if x sizes xs a ≡ Ok p) m e)

-- ---- the map of what was read

-- the maps of a proposal and of a move with a basis, but for what may be absent
abbrev proposed : ℕ
proposed = common + bit 4 + bit 10

abbrev based : ℕ
based = common + bit 4 + bit 9 + bit 10

-- a map is known, but for its number's bit
without_number : (m c : ℕ) → m < 8192 → bit_and m 65503 ≡ c → c / 32 % 2 ≡ 0 → m ≡ c + m / 32 % 2 * 32
without_number m c h e z = omega (arith, and_mod m 65503 5, and_mask (m % 32) 5, and_shr m 65503 6, and_mask (m / 64) 10)

bit_is : (n : Option KeyNumber) (k : ℕ) → k % 2 ≡ k → eqb k 1 ≡ is_some n → k * 32 ≡ number_bit n
bit_is n k h e = grind (arith, nat_tests)

numbered_map : (m c : ℕ) (n : Option KeyNumber) → ltb m 8192 ≡ true → eqb (bit_and m 65503) c ≡ true → c / 32 % 2 ≡ 0 → stands m 5 ≡ is_some n → m ≡ c + number_bit n
numbered_map m c n h e z s = without_number m c (ltb-true _ _ h) (eqb-true _ _ e) z ∙ ap (λ x. c + x) (bit_is n (m / 32 % 2) (omega arith) s)

pub order_map_lem : (m : ℕ) (n : Option KeyNumber) → ltb m 8192 ≡ true → fits K.Order m ≡ true → stands m 5 ≡ is_some n → m ≡ order_map n
order_map_lem m n h e s = numbered_map m common n h e refl s

pub viewed_map_lem : (m : ℕ) (n : Option KeyNumber) → ltb m 8192 ≡ true → fits K.Assent m ≡ true → stands m 5 ≡ is_some n → m ≡ viewed_map n
viewed_map_lem m n h e s = let r = numbered_map m (common + bit 4 + bit 7) n h e refl s in omega arith

-- the same, but for the movers' bit too
without_both : (m : ℕ) → m < 8192 → bit_and m 63455 ≡ proposed → m ≡ proposed + m / 32 % 2 * 32 + m / 2048 % 2 * 2048
without_both m h e = omega (arith, and_mod m 63455 5, and_mask (m % 32) 5, and_mod (m / 64) 991 5, and_mask (m / 64 % 32) 5, and_shr m 63455 6, and_shr m 63455 12, and_mask (m / 4096) 4)

pub proposal_map_lem : (m : ℕ) (n : Option KeyNumber) (x : Bool) → ltb m 8192 ≡ true → fits K.Proposal m ≡ true → stands m 5 ≡ is_some n → stands m 11 ≡ not x → m ≡ common + bit 4 + number_bit n + bit 10 + cond x 0 (bit 11)
proposal_map_lem m n x h e s t =
    let r = without_both m (ltb-true _ _ h) (eqb-true _ _ e) in
    let p = bit_is n (m / 32 % 2) (omega arith) s in
    let q : m / 2048 % 2 * 2048 ≡ cond x 0 (bit 11) = grind (arith, nat_tests, t) in
    omega arith

pub move_map_lem : (m : ℕ) (b : Option Basis) → ltb m 8192 ≡ true → fits K.Move m ≡ true → stands m 9 ≡ is_some b → (stands m 9 ≡ true → stands m 5 ≡ numbered_in b) → m ≡ move_map b
move_map_lem m None h e s n = elim (or_cases (eqb m (common + bit 4)) _ e) [
  | inl f ↦ eqb-true _ _ f
  | inr f ↦ (let r = without_number m based (ltb-true _ _ h) (eqb-true _ _ f) refl in grind (arith, nat_tests, s))
]
move_map_lem m (Some b) h e s n = elim (or_cases (eqb m (common + bit 4)) _ e) [
  | inl f ↦ (let r : m ≡ common + bit 4 = eqb-true _ _ f in let z = eqb-true (m / 512 % 2) 1 s in absurd (omega arith))
  | inr f ↦ (let r = numbered_map m based (outcome_number b.outcome) h f refl (n s) in omega arith)
]
