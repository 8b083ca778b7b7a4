-- Rows with one more filled: their map, their count, and their seals.
use Rattle.std.proofs.Common.{◌≡◌, ℕ, zero, suc, ◌+◌, ◌*◌, ◌^◌, ◌<◌, Bool, true, false, cond, ◌&&◌, eqb, ◌⊎◌, List, [], ◌∷◌, length, get_or, map, set, replicate, is_some, Some, count_by, None, Option, sym, refl, ap, ◌∙◌, ap₂, inl, inr, pow-suc, arith}
use lib.Count.{ones, ones_in}
use lib.ListN.{get_or-map}
use Rattle.std.specs.Simd.Lanes.{mask_l}
use Rattle.std.proofs.lemmas.Option.{same_Some}
use Rattle.std.proofs.lemmas.Simd.{bit_mask_l, ones-mask_l}
use Rattle.std.proofs.lemmas.List.Sums.{sum_by-cons, sum_by-set}
use Rattle.std.proofs.lemmas.Bool.{and_parts, and_from}
use Rattle.letters.specs.declared.sorts.Seal.{Seal}
use Rattle.letters.specs.declared.certificates.Vote.{Vote}
use Rattle.letters.specs.Bytes.{map_of}
use Rattle.letters.specs.Certificates.{vote_seal, vote_seals}
use Rattle.letters.specs.Ranges.{is_word, rows_fit, votes_within}
use Rattle.letters.specs.Sorts.{stands}
use Rattle.ballots.specs.Counts.{votes_for, count_agree}
use Rattle.steps.proofs.Replies.{is_none}

-- ---- the map

-- the map is the mask of the tests
masked : {A : Type 0} (test : A → Bool) (xs : List A) → map_of test xs ≡ mask_l (map test xs)
unfolding map_of
masked test [] = refl
masked test (x ∷ xs) = ap (λ m. cond (test x) 1 0 + 2 * m) (masked test xs)

ones_filled : {A : Type 0} (rs : List (Option A)) → ones (map_of is_some rs) ≡ count_by is_some rs
ones_filled rs = ap ones (masked is_some rs) ∙ ones-mask_l is_some rs

pub ones_none : ones 0 ≡ 0
unfolding ones ones_in
ones_none = refl

bit_low : (x : Bool) (m n : ℕ) → cond x 1 0 + 2 * m < 2 ^ suc n → m < 2 ^ n
bit_low true m n h = omega (arith, pow-suc 2 n)
bit_low false m n h = omega (arith, pow-suc 2 n)

low_bit : (x : Bool) (m n : ℕ) → m < 2 ^ n → cond x 1 0 + 2 * m < 2 ^ suc n
low_bit true m n h = omega (arith, pow-suc 2 n)
low_bit false m n h = omega (arith, pow-suc 2 n)

same_bits : (x y : Bool) (m n : ℕ) → cond x 1 0 + 2 * m ≡ cond y 1 0 + 2 * n → ◌≡◌ {A = ℕ} (cond x 1 0) (cond y 1 0) × (m ≡ n)
same_bits true true m n e = (refl, omega arith)
same_bits false false m n e = (refl, omega arith)
same_bits true false m n e = absurd (omega arith)
same_bits false true m n e = absurd (omega arith)

-- rows below n stay below n
pub map_set : {A : Type 0} (rs : List (Option A)) (k n : ℕ) (z : A) → map_of is_some rs < 2 ^ n → k < n → map_of is_some (set rs k (Some z)) < 2 ^ n
unfolding map_of
map_set [] k n z h l = h
map_set (r ∷ rs) k zero z h l = absurd (omega arith)
map_set (r ∷ rs) zero (suc n) z h l = low_bit true (map_of is_some rs) n (bit_low (is_some r) (map_of is_some rs) n h)
map_set (r ∷ rs) (suc k) (suc n) z h l = low_bit (is_some r) _ n (map_set rs k n z (bit_low (is_some r) (map_of is_some rs) n h) (omega arith))

-- one more
pub ones_set : {A : Type 0} (rs : List (Option A)) (k : ℕ) (z : A) → k < length rs → is_some (get_or rs k None) ≡ false → ones (map_of is_some (set rs k (Some z))) ≡ ones (map_of is_some rs) + 1
ones_set rs k z l e =
    let free : ◌≡◌ {A = ℕ} (cond (is_some (get_or rs k None)) 1 0) 0 = ap (λ b. cond b 1 0) e in
    omega (arith, free, ones_filled rs, ones_filled (set rs k (Some z)), sum_by-set (λ r. cond (is_some r) 1 0) rs k (Some z) None l)

-- rows that are filled at the same places stay so
pub same_set : {A B : Type 0} (rs : List (Option A)) (qs : List (Option B)) (k : ℕ) (y : A) (z : B) → length rs ≡ length qs → map_of is_some rs ≡ map_of is_some qs → map_of is_some (set rs k (Some y)) ≡ map_of is_some (set qs k (Some z))
unfolding map_of
same_set [] [] k y z l e = refl
same_set [] (q ∷ qs) k y z l e = absurd (omega arith)
same_set (r ∷ rs) [] k y z l e = absurd (omega arith)
same_set (r ∷ rs) (q ∷ qs) zero y z l e = ap (λ m. 1 + 2 * m) (same_bits (is_some r) (is_some q) _ _ e).1
same_set (r ∷ rs) (q ∷ qs) (suc k) y z l e =
    let p = same_bits (is_some r) (is_some q) (map_of is_some rs) (map_of is_some qs) e in
    ap₂ (λ (a m : ℕ). a + 2 * m) p.0 (same_set rs qs k y z (omega arith) p.1)

-- a bit of the map says whether its row passes
pub map_stands : {A : Type 0} (test : A → Bool) (d : A) → test d ≡ false → (xs : List A) (j : ℕ) → stands (map_of test xs) j ≡ test (get_or xs j d)
map_stands test d e xs j = ap (λ m. stands m j) (masked test xs) ∙ ap (λ n. eqb n 1) (bit_mask_l (map test xs) j ∙ ap (λ b. cond b 1 0) (ap (get_or (map test xs) j) (sym e) ∙ get_or-map test xs j d)) ∙ bit (test (get_or xs j d))
  where
    bit : (b : Bool) → eqb (cond b 1 0) 1 ≡ b
    bit true = refl
    bit false = refl

pub stands_at : {A : Type 0} (rs : List (Option A)) (j : ℕ) → stands (map_of is_some rs) j ≡ is_some (get_or rs j None)
stands_at rs j = map_stands is_some None refl rs j

-- none is filled
pub none_filled : {A : Type 0} (rs : List (Option A)) (j : ℕ) → map_of is_some rs ≡ 0 → get_or rs j None ≡ None
unfolding map_of
none_filled {A} rs j e = is_none _ (sym (stands_at rs j) ∙ ap (λ m. stands m j) e ∙ stands_at {A = A} [] j)

-- ---- seals

pub seals_set : (rs : List (Option Seal)) (k : ℕ) (z : Seal) → rows_fit rs ≡ true → is_word z.0 ≡ true → rows_fit (set rs k (Some z)) ≡ true
unfolding rows_fit
seals_set [] k z f w = refl
seals_set (None ∷ rs) zero z f w = and_from _ _ w f
seals_set (Some r ∷ rs) zero z f w = and_from _ _ w (and_parts (is_word r.0) (rows_fit rs) f).1
seals_set (None ∷ rs) (suc k) z f w = seals_set rs k z f w
seals_set (Some r ∷ rs) (suc k) z f w = let p = and_parts (is_word r.0) (rows_fit rs) f in and_from _ _ p.0 (seals_set rs k z p.1 w)

pub votes_set : (vs : List (Option Vote)) (k : ℕ) (v : Vote) → vote_seals (set vs k (Some v)) ≡ set (vote_seals vs) k (Some v.seal)
unfolding vote_seals
votes_set [] k v = refl
votes_set (x ∷ vs) zero v = refl
votes_set (x ∷ vs) (suc k) v = ap (λ rs. vote_seal x ∷ rs) (votes_set vs k v)

-- ---- votes within the registered places

-- one more place is registered
wider : (x y : Bool) (r : Bool) → (cond x y true && r) ≡ true → (cond x true true && r) ≡ true
wider true y r e = grind (arith, e)
wider false y r e = e

pub within_registered : (es : List (Option Seal)) (vs : List (Option Vote)) (k : ℕ) (z : Seal) → votes_within es vs ≡ true → votes_within (set es k (Some z)) vs ≡ true
unfolding votes_within
within_registered es [] k z f = refl
within_registered [] (v ∷ vs) k z f = f
within_registered (e ∷ es) (v ∷ vs) zero z f = wider (is_some v) (is_some e) (votes_within es vs) f
within_registered (e ∷ es) (v ∷ vs) (suc k) z f = let p = and_parts (cond (is_some v) (is_some e) true) (votes_within es vs) f in and_from _ _ p.0 (within_registered es vs k z p.1)

-- a registered place votes
pub within_voted : (es : List (Option Seal)) (vs : List (Option Vote)) (k : ℕ) (v : Vote) → is_some (get_or es k None) ≡ true → votes_within es vs ≡ true → votes_within es (set vs k (Some v)) ≡ true
unfolding votes_within
within_voted es [] k v r f = refl
within_voted [] (x ∷ vs) k v r f = absurd (grind (arith, r))
within_voted (e ∷ es) (x ∷ vs) zero v r f = and_from _ _ r (and_parts (cond (is_some x) (is_some e) true) (votes_within es vs) f).1
within_voted (e ∷ es) (x ∷ vs) (suc k) v r f = let p = and_parts (cond (is_some x) (is_some e) true) (votes_within es vs) f in and_from _ _ p.0 (within_voted es vs k v r p.1)

-- ---- ballots that all agree

pub all_agree : {V : Type 0} (agree : V → V → Bool) (v : V) → agree v v ≡ true → (xs : List (Option V)) → ((k : ℕ) (x : V) → get_or xs k None ≡ Some x → x ≡ v) → count_agree agree v xs ≡ ones (map_of is_some xs)
all_agree {V} agree v s xs h = go xs h ∙ sym (ones_filled xs)
  where
    go : (xs : List (Option V)) → ((k : ℕ) (x : V) → get_or xs k None ≡ Some x → x ≡ v) → count_agree agree v xs ≡ count_by is_some xs
    go [] h = refl
    go (None ∷ xs) h = omega (arith, sum_by-cons (λ o. cond (votes_for agree v o) 1 0) None xs, sum_by-cons (λ o. cond (is_some o) 1 0) None xs, go xs (λ k x e. h (suc k) x e))
    go (Some x ∷ xs) h =
        let one : ◌≡◌ {A = ℕ} (cond (agree x v) 1 0) 1 = ap (λ y. cond (agree y v) 1 0) (h 0 x refl) ∙ ap (λ b. cond b 1 0) s in
        omega (arith, one, sum_by-cons (λ o. cond (votes_for agree v o) 1 0) (Some x) xs, sum_by-cons (λ o. cond (is_some o) 1 0) (Some x) xs, go xs (λ k x e. h (suc k) x e))

-- what stands in a row after a write
pub row_cases : {A : Type 0} (xs : List (Option A)) (k j : ℕ) (y a : A) → get_or (set xs k (Some y)) j None ≡ Some a → ((j ≡ k) × (y ≡ a)) ⊎ (get_or xs j None ≡ Some a)
row_cases [] k j y a e = inr e
row_cases (x ∷ xs) zero zero y a e = inl (refl, same_Some _ _ e)
row_cases (x ∷ xs) zero (suc j) y a e = inr e
row_cases (x ∷ xs) (suc k) zero y a e = inr e
row_cases (x ∷ xs) (suc k) (suc j) y a e = elim (row_cases xs k j y a e) [ inl p ↦ inl (ap suc p.0, p.1) | inr p ↦ inr p ]

-- what is filled stays filled
pub row_stays : {A : Type 0} (xs : List (Option A)) (i j : ℕ) (y : A) → is_some (get_or xs j None) ≡ true → is_some (get_or (set xs i (Some y)) j None) ≡ true
row_stays [] i j y h = h
row_stays (x ∷ xs) zero zero y h = refl
row_stays (x ∷ xs) zero (suc j) y h = h
row_stays (x ∷ xs) (suc i) zero y h = h
row_stays (x ∷ xs) (suc i) (suc j) y h = row_stays xs i j y h

pub blank_row : {A : Type 0} (n j : ℕ) → get_or {A = Option A} (replicate n None) j None ≡ None
blank_row zero j = refl
blank_row (suc n) zero = refl
blank_row (suc n) (suc j) = blank_row n j

pub blank_map : (A : Type 0) (n : ℕ) → map_of {A = Option A} is_some (replicate n None) ≡ 0
unfolding map_of
blank_map A zero = refl
blank_map A (suc n) = let e = blank_map A n in omega (arith, e)
