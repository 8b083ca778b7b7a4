-- Small facts on logs, rows, tests and counts.
use Rattle.std.proofs.Common.{◌≡◌, ℕ, zero, suc, ◌+◌, ◌<◌, ◌≤◌, Bool, true, false, cond, ◌||◌, eqb, List, [], ◌∷◌, ◌++◌, length, get_or, take, is_some as option_is_some, Some, None, count_by, Option, sym, refl, ap, inl, inr, arith}
use Rattle.std.proofs.lemmas.List.Sums.{sum_by-cons}
use Rattle.std.proofs.lemmas.List.{take_all}
use Rattle.std.proofs.lemmas.Bool.{cases_Bool, and_parts, cases_eq, eqb-true, ne_eqb, eq-eqb, true≢false}
use Rattle.terms.specs.declared.numbers.KeyNumber.{KeyNumber}
use Rattle.terms.specs.declared.parties.Outcome.{Outcome}
use Rattle.letters.specs.declared.sorts.Digest.{Digest}
use Rattle.letters.specs.declared.statements.Borne.{Borne}
use Rattle.letters.specs.Inner.{consed, rows_borne}
use Rattle.ballots.specs.declared.Pair.{Pair}
use Rattle.ballots.specs.Counts.{votes_for, count_agree}
use Rattle.ballots.specs.Kinds.{same_outcome, same_pair}
use Rattle.agreement.specs.Seats.{Seats, count}
use Rattle.agreement.specs.Runs.{Among, here as first, there as later}
use Rattle.agreement.proofs.Words.{Words, receipt, propose, assent, confirm, result, move, Saying, says, Log, Said, Assented, proposed, assented}
use Rattle.agreement.proofs.Kept.{said_cases}
use Rattle.steps.proofs.Replies.{same_outcome_lem}

-- the kinds of words that a controller's invariants read
abbrev pub tag : Words → ℕ
tag (receipt p) = 5
tag (propose v x d) = 1
tag (assent v x d) = 1
tag (confirm v x d) = 3
tag (result x) = 6
tag (move v b) = 4
tag w = 0

-- s is no saying of h of that kind
abbrev pub Silent : Saying → ℕ → ℕ → Type 0
Silent s h n = (w : Words) → tag w ≡ n → says h w ≡ s → ⊥

-- s is no saying of h that its invariants read
abbrev pub Mute : Saying → ℕ → Type 0
Mute s h = (n : ℕ) → 0 < n → Silent s h n

pub silent_other : {h k : ℕ} {w : Words} {n : ℕ} → (h ≡ k → ⊥) → Silent (says k w) h n
silent_other ne u e q = ne (cc)

pub silent_kind : {h k n : ℕ} {w : Words} → (tag w ≡ n → ⊥) → Silent (says k w) h n
silent_kind {w = w} ne u e q = let same : u ≡ w = cc in ne (rw same at e)

pub older : {s : Saying} {h n : ℕ} {l : Log} → Silent s h n → (w : Words) → tag w ≡ n → Said (says h w) (s ∷ l) → Said (says h w) l
older q w e m = elim (said_cases m) [ inl p ↦ absurd (q w e p) | inr k ↦ k ]

pub older_voice : {s : Saying} {h v d : ℕ} {x : Outcome} {l : Log} → Silent s h 1 → Assented (s ∷ l) h v x d → Assented l h v x d
older_voice {v = v} {d} {x} q (proposed m) = proposed (older q (propose v x d) refl m)
older_voice {v = v} {d} {x} q (assented m) = assented (older q (assent v x d) refl m)

-- ---- rows

pub some_of : {A : Type 0} (o : Option A) → option_is_some o ≡ true → (a : A) × (o ≡ Some a)
some_of None e = cc
some_of (Some a) e = (a, refl)

pub is_some : {A : Type 0} {o : Option A} {a : A} → o ≡ Some a → option_is_some o ≡ true
is_some e = rw e refl

pub some_below : {A : Type 0} (xs : List (Option A)) (k : ℕ) → option_is_some (get_or xs k None) ≡ true → k < length xs
some_below [] k e = absurd (true≢false (sym e))
some_below (x ∷ xs) zero e = omega arith
some_below (x ∷ xs) (suc k) e = omega (arith, some_below xs k e)

-- ---- sorts

pub same_number_lem : (m n : KeyNumber) → m.0 ≡ n.0 → m ≡ n
same_number_lem m n e = λ i. record { 0 = e i }

pub same_digest : (m n : Digest) → m.0 ≡ n.0 → m ≡ n
same_digest m n e = λ i. record { 0 = e i }

pub same_pair_lem : (p q : Pair) → same_pair p q ≡ true → (p.outcome ≡ q.outcome) × (p.digest ≡ q.digest)
same_pair_lem p q e =
    let a = and_parts (eqb p.digest.0 q.digest.0) (same_outcome p.outcome q.outcome) e in
    (same_outcome_lem p.outcome q.outcome a.1, same_digest p.digest q.digest (eqb-true _ _ a.0))

-- ---- guards that were passed

-- ---- what a letter bears

pub in_left : {A : Type 0} {b : A} (xs ys : List A) → Among b xs → Among b (xs ++ ys)
in_left [] ys m = elim m [ ]
in_left (x ∷ xs) ys (first e) = first e
in_left (x ∷ xs) ys (later m) = later (in_left xs ys m)

pub in_right : {A : Type 0} {b : A} (xs ys : List A) → Among b ys → Among b (xs ++ ys)
in_right [] ys m = m
in_right (x ∷ xs) ys m = later (in_right xs ys m)

in_consed : {A : Type 0} {b : A} (o : Option A) (bs : List A) → Among b bs → Among b (consed o bs)
in_consed None bs m = m
in_consed (Some c) bs m = later m

pub in_rows : {b : Borne} (row : ℕ → Option Borne) (k n j : ℕ) → k ≤ j → j < k + n → row j ≡ Some b → Among b (rows_borne row k n)
unfolding rows_borne
in_rows row k zero j lo hi e = absurd (omega arith)
in_rows {b} row k (suc n) j lo hi e = elim (cases_eq j k) [
  | inl q ↦ (let r : row k ≡ Some b = rw q at e in rw r (first refl))
  | inr q ↦ in_consed (row k) (rows_borne row (k + 1) n) (in_rows row (k + 1) n j (omega arith) (omega arith) e)
]

-- ---- counts

pub count_same : (a b : Seats) (n : ℕ) → ((k : ℕ) → k < n → a k ≡ b k) → count a n ≡ count b n
count_same a b zero e = refl
count_same a b (suc n) e = rw (e n (omega arith)) (ap (λ (m : ℕ). cond (b n) 1 0 + m) (count_same a b n (λ k h. e k (omega arith))))

pub count_with : (a : Seats) (q n : ℕ) → q < n → a q ≡ false → count (λ k. eqb k q || a k) n ≡ suc (count a n)
count_with a q zero h e = absurd (omega arith)
count_with a q (suc n) h e = elim (cases_eq n q) [
  | inl p ↦ (let r : count (λ k. eqb k q || a k) n ≡ count a n = count_same _ _ n (λ k l. rw (ne_eqb k q (λ z. omega arith)) refl) in
      rw (eq-eqb n q p, r) (let z : a n ≡ false = rw p e in rw z (omega arith)))
  | inr p ↦ rw (ne_eqb n q p, count_with a q n (omega arith) e) (omega arith)
]

bit_le : (b c : Bool) (m n : ℕ) → (b ≡ true → c ≡ true) → m ≤ n → cond b 1 0 + m ≤ cond c 1 0 + n
bit_le true true m n e h = omega arith
bit_le true false m n e h = absurd (true≢false (sym (e refl)))
bit_le false true m n e h = omega arith
bit_le false false m n e h = omega arith

-- a set that holds another has as many members
pub count_le : (a b : Seats) (n : ℕ) → ((k : ℕ) → k < n → a k ≡ true → b k ≡ true) → count a n ≤ count b n
count_le a b zero e = omega arith
count_le a b (suc n) e = bit_le (a n) (b n) (count a n) (count b n) (e n (omega arith)) (count_le a b n (λ k h. e k (omega arith)))

pub count_grows : (a : Seats) (m n : ℕ) → m ≤ n → count a m ≤ count a n
count_grows a m zero h = let e : m ≡ 0 = omega arith in rw e (omega arith)
count_grows a m (suc n) h = elim (cases_eq m (suc n)) [ inl e ↦ rw e (omega arith) | inr e ↦ omega (arith, count_grows a m n (omega arith)) ]

-- a set of seats below n is counted below n
pub count_within : (a : Seats) (m n : ℕ) → ((k : ℕ) → a k ≡ true → k < n) → count a m ≤ count a n
count_within a zero n e = omega arith
count_within a (suc m) n e = elim (cases_Bool (a m)) [
  | inl q ↦ count_grows a (suc m) n (e m q)
  | inr q ↦ rw q (omega (arith, count_within a m n e))
]

count_none : (s : Seats) (n : ℕ) → ((k : ℕ) → s k ≡ false) → count s n ≡ 0
count_none s zero e = refl
count_none s (suc n) e = rw (e n, count_none s n e) refl

pub count_front : (s : Seats) (n : ℕ) → count s (suc n) ≡ cond (s 0) 1 0 + count (λ k. s (suc k)) n
count_front s zero = refl
count_front s (suc n) = omega (arith, count_front s n)

-- the count over a row is the count by number
count_row : {A : Type 0} (test : A → Bool) (d : A) → test d ≡ false → (xs : List A) (n : ℕ) → count (λ k. test (get_or xs k d)) n ≡ count_by test (take n xs)
count_row test d e [] zero = refl
count_row test d e [] (suc n) = count_none (λ k. test d) (suc n) (λ k. e)
count_row test d e (x ∷ xs) zero = refl
count_row test d e (x ∷ xs) (suc n) = omega (arith, count_front (λ k. test (get_or (x ∷ xs) k d)) n, count_row test d e xs n, sum_by-cons (λ y. cond (test y) 1 0) x (take n xs))

pub row_count : {A : Type 0} (test : A → Bool) (d : A) → test d ≡ false → (xs : List A) (n : ℕ) → ((k : ℕ) → test (get_or xs k d) ≡ true → k < n) → count_by test xs ≤ count (λ k. test (get_or xs k d)) n
row_count test d e xs n below =
    let a : count_by test (take (length xs) xs) ≡ count_by test xs = ap (λ ys. count_by test ys) (take_all (length xs) xs (omega arith)) in
    omega (arith, count_row test d e xs (length xs), count_within (λ k. test (get_or xs k d)) (length xs) n below)

-- ballots that agree, counted by seat
pub votes_some : {V : Type 0} (agree : V → V → Bool) (v : V) (o : Option V) → votes_for agree v o ≡ true → (w : V) × (o ≡ Some w) × (agree w v ≡ true)
votes_some agree v None e = absurd (true≢false (sym e))
votes_some agree v (Some w) e = (w, refl, e)

pub agree_count : {V : Type 0} (agree : V → V → Bool) (v : V) (row : List (Option V)) (n : ℕ) → ((k : ℕ) (y : V) → get_or row k None ≡ Some y → k < n)
    → count_agree agree v row ≤ count (λ k. votes_for agree v (get_or row k None)) n
agree_count agree v row n below = row_count (votes_for agree v) None refl row n (λ k e. let w = votes_some agree v (get_or row k None) e in below k w.0 w.1)
