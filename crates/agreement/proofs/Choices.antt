-- The recursions of the rules: what they say of each seat and place.
use Rattle.std.proofs.Common.{◌≡◌, ℕ, zero, suc, ◌+◌, ◌-◌, ◌*◌, ◌/◌, ◌%◌, ◌^◌, ◌<◌, ◌≤◌, Bool, true, false, cond, not, ◌&&◌, ◌||◌, eqb, ltb, ◌⊎◌, List, length, get_or, is_some, Some, None, Option, sym, refl, ap, ◌∙◌, inl, inr, arith}
use lib.Count.{ones, ones_step, ones-le}
use Rattle.std.proofs.lemmas.Bool.Decides.{nat_tests}
use Rattle.std.proofs.lemmas.Nat.Bits.{bit_at-suc, bit_at-zero, bit_at_above, bit_at_cat_low, bit_at_cat_high}
use Rattle.std.proofs.lemmas.Bool.{cases_Bool, and_parts, cases_eq, cases_lt, both_ways, eqb-true, ne_eqb, eq-eqb, cond_both, ltb-true, ltb-false, or_cases, not-true, true≢false}
use Rattle.terms.specs.declared.numbers.KeyNumber.{KeyNumber}
use Rattle.terms.specs.declared.numbers.View.{View}
use Rattle.terms.specs.declared.parties.Outcome.TheVariants.{Keep, Number}
use Rattle.letters.specs.declared.sorts.Seal.{Seal}
use Rattle.letters.specs.declared.sorts.Answer.{Answer}
use Rattle.letters.specs.declared.sorts.Answer.TheVariants as A
use Rattle.letters.specs.declared.certificates.Basis.{Basis}
use Rattle.letters.specs.declared.certificates.Certificate.{Certificate}
use Rattle.letters.specs.declared.certificates.Vote.{Vote}
use Rattle.letters.specs.Certificates.{is_ready, ready_vote, row_ready, all_ready, some_enrolled, result_under, result_of}
use Rattle.controllers.specs.declared.controller.MoveRecord.{MoveRecord}
use Rattle.controllers.specs.declared.controller.Picked.{Picked}
use Rattle.controllers.specs.Choice.{stands_in, names, offer, better, best, all_recorded, covers, picked}
use Rattle.agreement.specs.Seats.{count}
use Rattle.agreement.proofs.Tools.{some_below, count_front, count_same}
use Rattle.std.proofs.lemmas.Option.{same_Some}
use Rattle.steps.proofs.Replies.{none_some}

-- ---- the best of the offers

abbrev pub offering : List (Option MoveRecord) → ℕ → View → ℕ → Option Basis
offering rs m v k = offer (stands_in m k) (get_or rs k None) v

pub record Best (g : ℕ → Option Basis) (n : ℕ) (b : Basis) : Type 0 where
  pub seat : ℕ
  pub below : seat < n
  pub is : g seat ≡ Some b
  pub top : (k : ℕ) (y : Basis) → k < n → g k ≡ Some y → y.view.0 ≤ b.view.0

better_none : (a o : Option Basis) → better a o ≡ None → (a ≡ None) × (o ≡ None)
better_none None None e = (refl, refl)
better_none (Some a) None e = absurd (none_some e refl)
better_none None (Some y) e = absurd (none_some e refl)
better_none (Some a) (Some y) e = cond_both (ltb a.view.0 y.view.0) (Some y) (Some a) (λ r. r ≡ None → (Some a ≡ None) × (Some y ≡ None)) (λ _ q. absurd (none_some q refl)) (λ _ q. absurd (none_some q refl)) e

pub best_none : (rs : List (Option MoveRecord)) (m : ℕ) (v : View) (n : ℕ) → best rs m v n ≡ None → (k : ℕ) → k < n → offering rs m v k ≡ None
unfolding best
best_none rs m v zero e k h = absurd (omega arith)
best_none rs m v (suc n) e k h = let p = better_none (best rs m v n) (offering rs m v n) e in elim (cases_eq k n) [ inl q ↦ rw q p.1 | inr q ↦ best_none rs m v n p.0 k (omega arith) ]

data Won (a o : Option Basis) (b : Basis) : Type 0 where
  stays : a ≡ Some b → ((y : Basis) → o ≡ Some y → y.view.0 ≤ b.view.0) → Won a o b
  wins : o ≡ Some b → ((y : Basis) → a ≡ Some y → y.view.0 ≤ b.view.0) → Won a o b

view_of : {a b : Basis} → Some a ≡ Some b → a.view.0 ≡ b.view.0
view_of e = ap {A = Basis} (λ k. k.view.0) (same_Some _ _ e)

better_won : (a o : Option Basis) (b : Basis) → better a o ≡ Some b → Won a o b
better_won None None b e = absurd (none_some refl e)
better_won (Some a) None b e = stays e (λ y q. absurd (none_some refl q))
better_won None (Some y) b e = wins e (λ y q. absurd (none_some refl q))
better_won (Some a) (Some y) b e = cond_both (ltb a.view.0 y.view.0) (Some y) (Some a) (λ r. r ≡ Some b → Won (Some a) (Some y) b)
    (λ t q. wins q (λ z r. omega (arith, ltb-true _ _ t, view_of r, view_of q)))
    (λ t q. stays q (λ z r. omega (arith, ltb-false _ _ t, view_of r, view_of q)))
    e

pub best_some : (rs : List (Option MoveRecord)) (m : ℕ) (v : View) (n : ℕ) (b : Basis) → best rs m v n ≡ Some b → Best (offering rs m v) n b
unfolding best
best_some rs m v zero b e = absurd (none_some refl e)
best_some rs m v (suc n) b e = elim (better_won (best rs m v n) (offering rs m v n) b e) [
  | stays p top ↦ (let r = best_some rs m v n b p in record { seat = r.seat; below = omega (arith, r.below); is = r.is; top = λ k y h q. elim (cases_eq k n) [ inl z ↦ top y (rw z at q) | inr z ↦ r.top k y (omega arith) q ] })
  | wins p top ↦ record {
    seat = n;
    below = omega arith;
    is = p;
    top = λ k y h q. elim (cases_eq k n) [
      | inl z ↦ (let u = view_of (sym q ∙ ap (offering rs m v) z ∙ p) in omega arith)
      | inr z ↦ go (λ a r. best_some rs m v n a r) (best rs m v n) refl top k y (omega arith) q
    ];
  }
]
  where
    go : ((a : Basis) → best rs m v n ≡ Some a → Best (offering rs m v) n a) → (o : Option Basis) → best rs m v n ≡ o → ((y : Basis) → best rs m v n ≡ Some y → y.view.0 ≤ b.view.0) → (k : ℕ) (y : Basis) → k < n → offering rs m v k ≡ Some y → y.view.0 ≤ b.view.0
    go ih None r top k y h q = absurd (none_some (best_none rs m v n r k h) q)
    go ih (Some a) r top k y h q = omega (arith, top a r, (ih a r).top k y h q)

-- ---- a record that names a view, and its offer

pub names_some : (x : Option MoveRecord) (v : View) → names x v ≡ true → (r : MoveRecord) × (x ≡ Some r) × (r.view.0 ≡ v.0)
names_some None v e = absurd (true≢false (sym e))
names_some (Some r) v e = (r, refl, eqb-true r.view.0 v.0 e)

pub offer_some : (t : Bool) (x : Option MoveRecord) (v : View) (b : Basis) → offer t x v ≡ Some b → (r : MoveRecord) × (x ≡ Some r) × (r.view.0 ≡ v.0) × (r.basis ≡ Some b)
offer_some false x v b e = absurd (none_some refl e)
offer_some true None v b e = absurd (none_some refl e)
offer_some true (Some r) v b e = elim (cases_Bool (eqb r.view.0 v.0)) [
  | inl q ↦ (r, refl, eqb-true _ _ q, rw q at e)
  | inr q ↦ absurd (none_some refl (rw q at e))
]

pub offer_at : (t : Bool) (x : Option MoveRecord) (v : View) (r : MoveRecord) → t ≡ true → x ≡ Some r → r.view.0 ≡ v.0 → offer t x v ≡ r.basis
offer_at t x v r e q w = rw (e, q, eq-eqb r.view.0 v.0 w) refl

-- ---- every seat below

pub recorded_at : (rs : List (Option MoveRecord)) (m : ℕ) (v : View) (n : ℕ) → all_recorded rs m v n ≡ true → (k : ℕ) → k < n → stands_in m k ≡ true → names (get_or rs k None) v ≡ true
unfolding all_recorded
recorded_at rs m v zero e k h s = absurd (omega arith)
recorded_at rs m v (suc n) e k h s =
    let p = and_parts (all_recorded rs m v n) _ e in
    elim (cases_eq k n) [
      | inl q ↦ elim (or_cases (not (stands_in m n)) (names (get_or rs n None) v) p.1) [
        | inl a ↦ absurd (both_ways (stands_in m n) (not-true _ a) (rw q at s))
        | inr a ↦ rw q a
      ]
      | inr q ↦ recorded_at rs m v n p.0 k (omega arith) s
    ]

pub covers_at : (xs ys : List (Option Seal)) (n : ℕ) → covers xs ys n ≡ true → (k : ℕ) → k < n → is_some (get_or xs k None) ≡ true → is_some (get_or ys k None) ≡ true
unfolding covers
covers_at xs ys zero e k h s = absurd (omega arith)
covers_at xs ys (suc n) e k h s =
    let p = and_parts (covers xs ys n) _ e in
    elim (cases_eq k n) [
      | inl q ↦ elim (or_cases (not (is_some (get_or xs n None))) (is_some (get_or ys n None)) p.1) [
        | inl a ↦ absurd (both_ways (is_some (get_or xs n None)) (not-true _ a) (rw q at s))
        | inr a ↦ rw q a
      ]
      | inr q ↦ covers_at xs ys n p.0 k (omega arith) s
    ]

ready_at : (es : List (Option Seal)) (vs : List (Option Vote)) (n : ℕ) → all_ready es vs n ≡ true → (k : ℕ) → k < n → row_ready (get_or es k None) (get_or vs k None) ≡ true
unfolding all_ready
ready_at es vs zero e k h = absurd (omega arith)
ready_at es vs (suc n) e k h = let p = and_parts (all_ready es vs n) _ e in elim (cases_eq k n) [ inl q ↦ rw q p.1 | inr q ↦ ready_at es vs n p.0 k (omega arith) ]

-- ---- a certificate of a number, by its parts

answer_ready : (a : Answer) → is_ready a ≡ true → a ≡ A.Ready
answer_ready A.Ready e = refl
answer_ready A.Refuse e = absurd (true≢false (sym e))

vote_ready : (v : Option Vote) → ready_vote v ≡ true → (y : Vote) × (v ≡ Some y) × (y.answer ≡ A.Ready)
vote_ready None e = absurd (true≢false (sym e))
vote_ready (Some y) e = (y, refl, answer_ready y.answer e)

row_ready_lem : (x : Option Seal) (v : Option Vote) → is_some x ≡ true → row_ready x v ≡ true → ready_vote v ≡ true
row_ready_lem None v s e = absurd (true≢false (sym s))
row_ready_lem (Some z) v s e = e

certified_number : (c : Certificate) (n : KeyNumber) (o : Option KeyNumber) → result_under c o ≡ Number n → (o ≡ Some n) × (all_ready c.enrolled c.votes (length c.enrolled) ≡ true)
certified_number c n None e = cc
certified_number c n (Some m) e = elim (cases_Bool (some_enrolled c.enrolled (length c.enrolled) && all_ready c.enrolled c.votes (length c.enrolled))) [
  | inl q ↦ (let f : Number m ≡ Number n = rw q at e in (ap Some (let r : m ≡ n = cc in r), (and_parts _ _ q).1))
  | inr q ↦ (let f : Keep ≡ Number n = rw q at e in cc)
]

pub certificate_order : (c : Certificate) (n : KeyNumber) → result_of c ≡ Number n → c.order.number ≡ Some n
certificate_order c n e = (certified_number c n c.order.number e).0

pub certificate_vote : (c : Certificate) (n : KeyNumber) (p : ℕ) → result_of c ≡ Number n → is_some (get_or c.enrolled p None) ≡ true → (y : Vote) × (get_or c.votes p None ≡ Some y) × (y.answer ≡ A.Ready)
certificate_vote c n p e on =
    let r = ready_at c.enrolled c.votes (length c.enrolled) (certified_number c n c.order.number e).1 p (some_below c.enrolled p on) in
    vote_ready (get_or c.votes p None) (row_ready_lem (get_or c.enrolled p None) (get_or c.votes p None) on r)

-- ---- bits of a map

stands_suc : (m k : ℕ) → stands_in m (suc k) ≡ stands_in (m / 2) k
stands_suc m k = ap (λ b. eqb b 1) (bit_at-suc m k)

bit_of : (m : ℕ) → cond (stands_in m 0) 1 0 ≡ m % 2
bit_of m = grind (arith, nat_tests)

-- the bits of a map are as many as the seats that stand in it
pub ones_count : (n m : ℕ) → m < 2 ^ n → ones m ≡ count (stands_in m) n
ones_count zero m h = omega (arith, ones-le 0 m h)
ones_count (suc n) m h =
    let a : count (stands_in (m / 2)) n ≡ count (λ k. stands_in m (suc k)) n = count_same _ _ n (λ k l. sym (stands_suc m k)) in
    let b : m / 2 < 2 ^ n = omega arith in
    omega (arith, ones_step m, ones_count n (m / 2) b, count_front (stands_in m) n, bit_of m)

pub zero_stands : (k : ℕ) → stands_in 0 k ≡ false
zero_stands k = ap (λ b. eqb b 1) (bit_at-zero k)

-- one more bit, above those of the map
bit_added : (n m k : ℕ) → m < 2 ^ n → stands_in (m + 2 ^ n) k ≡ (eqb k n || stands_in m k)
bit_added n m k h = ap (λ x. stands_in x k) (let e : m + 2 ^ n ≡ 1 * 2 ^ n + m = omega arith in e) ∙ elim (cases_lt k n) [
  | inl l ↦ ap (λ b. eqb b 1) (bit_at_cat_low 1 n m k l) ∙ ap (λ b. b || stands_in m k) (sym (ne_eqb k n (λ e. omega arith)))
  | inr l ↦ ap (λ b. eqb b 1) (bit_at_cat_high 1 n m k h l) ∙ elim (cases_eq k n) [
    | inl e ↦ ap (stands_in 1) (let z : k - n ≡ 0 = omega arith in z) ∙ ap (λ b. b || stands_in m k) (sym (eq-eqb k n e))
    | inr e ↦ ap (λ b. eqb b 1) (bit_at_above 1 1 (k - n) (omega arith) (omega arith) ∙ sym (bit_at_above m n k h l)) ∙ ap (λ b. b || stands_in m k) (sym (ne_eqb k n e))
  ]
]

-- ---- the movers that a leader names

record Pick (rs : List (Option MoveRecord)) (v : View) (q n : ℕ) (p : Picked) : Type 0 where
  below : p.map < 2 ^ n
  named : (k : ℕ) → stands_in p.map k ≡ true → (k < n) × (names (get_or rs k None) v ≡ true)
  counted : count (stands_in p.map) n ≡ p.count
  enough : (count (λ k. names (get_or rs k None) v) n ≤ p.count) ⊎ (q ≤ p.count)

module _ (rs : List (Option MoveRecord)) (v : View) (q n : ℕ) (p : Picked) (was : Pick rs v q n p) where
  added : names (get_or rs n None) v ≡ true → Pick rs v q (suc n) (record { map = p.map + 2 ^ n; count = p.count + 1 })
  added e = record {
    below = omega (arith, was.below);
    named = λ k s. elim (or_cases (eqb k n) (stands_in p.map k) (sym (bit_added n p.map k was.below) ∙ s)) [
      | inl z ↦ (let r = eqb-true k n z in (omega arith, rw r e))
      | inr z ↦ (let r = was.named k z in (omega (arith, r.0), r.1))
    ];
    counted =
        let a : stands_in (p.map + 2 ^ n) n ≡ true = bit_added n p.map n was.below ∙ ap (λ (x : Bool). x || stands_in p.map n) (eq-eqb n n refl) in
        let b : count (stands_in (p.map + 2 ^ n)) n ≡ count (stands_in p.map) n = count_same _ _ n (λ k l. bit_added n p.map k was.below ∙ ap (λ (x : Bool). x || stands_in p.map k) (ne_eqb k n (λ z. omega arith))) in
        rw (a, b) (omega (arith, was.counted));
    enough = elim was.enough [ inl h ↦ inl (rw e (omega arith)) | inr h ↦ inr (omega arith) ];
  }

  passed_over : (names (get_or rs n None) v && ltb p.count q) ≡ false → Pick rs v q (suc n) p
  passed_over e = record {
    below = omega (arith, was.below);
    named = λ k s. let r = was.named k s in (omega (arith, r.0), r.1);
    counted =
        let a : stands_in p.map n ≡ false = elim (cases_Bool (stands_in p.map n)) [ inl z ↦ absurd (omega (arith, (was.named n z).0)) | inr z ↦ z ] in
        rw a (omega (arith, was.counted));
    enough = elim was.enough [
      | inl h ↦ elim (cases_Bool (names (get_or rs n None) v)) [
        | inl z ↦ (let w : ltb p.count q ≡ false = rw z at e in inr (ltb-false _ _ w))
        | inr z ↦ inl (rw z (omega arith))
      ]
      | inr h ↦ inr h
    ];
  }

pick : (rs : List (Option MoveRecord)) (v : View) (q n : ℕ) → Pick rs v q n (picked rs v q n)
unfolding picked
pick rs v q zero = record { below = omega arith; named = λ k s. absurd (both_ways _ (zero_stands k) s); counted = refl; enough = inl (omega arith) }
pick rs v q (suc n) = cond_both (names (get_or rs n None) v && ltb (picked rs v q n).count q) _ _ (Pick rs v q (suc n))
    (λ e. added rs v q n (picked rs v q n) (pick rs v q n) (and_parts _ _ e).0)
    (λ e. passed_over rs v q n (picked rs v q n) (pick rs v q n) e)

pub picked_names : (rs : List (Option MoveRecord)) (v : View) (q n k : ℕ) → stands_in (picked rs v q n).map k ≡ true → names (get_or rs k None) v ≡ true
picked_names rs v q n k s = ((pick rs v q n).named k s).1

-- if there are as many records of the view as are to be picked, so many are picked
pub picked_enough : (rs : List (Option MoveRecord)) (v : View) (q n : ℕ) → q ≤ count (λ k. names (get_or rs k None) v) n → q ≤ count (stands_in (picked rs v q n).map) n
picked_enough rs v q n h = let p = pick rs v q n in elim p.enough [ inl z ↦ omega (arith, p.counted) | inr z ↦ omega (arith, p.counted) ]
