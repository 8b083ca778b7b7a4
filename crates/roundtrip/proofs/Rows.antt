-- Rows of optional seals: their map, their bytes, and what is read from those.
use Rattle.std.proofs.Common.{◌≡◌, ℕ, zero, suc, ◌+◌, ◌*◌, ◌/◌, ◌%◌, ◌^◌, ◌<◌, ◌≤◌, Bool, true, false, cond, List, [], ◌∷◌, length, is_some, Some, None, Option, sym, refl, ap, ◌∙◌, ap₂, pow-suc, arith}
use lib.Bits.{bit_and, and_step, and_zero_r}
use lib.Count.{ones, ones_in, ones_step}
use Rattle.std.proofs.lemmas.Bool.Decides.{nat_tests}
use Rattle.std.proofs.lemmas.Bool.{and_parts, and_from, ltb-true, lt-ltb, eqb-true, eqb-false}
use Rattle.letters.specs.declared.sorts.Seal.{Seal}
use Rattle.letters.specs.declared.certificates.Vote.{Vote}
use Rattle.letters.specs.Bytes.{le8, eight_at, map_of, row_bytes, lowest, row_at, after_row, rows_at}
use Rattle.letters.specs.Certificates.{is_ready, ready_vote, vote_seals}
use Rattle.letters.specs.Ranges.{is_word, rows_fit, votes_within}
use Rattle.kept.specs.Kept.{answer_if, votes_of}
use Rattle.roundtrip.specs.Laws.{Bytes}
use Rattle.roundtrip.proofs.Pieces.{Piece, join, first_part, second_part, nothing, eight_at_lem, eight_piece, eight_below}

-- ---- one bit and the rest

pub half : (x : Bool) (m : ℕ) → (cond x 1 0 + 2 * m) / 2 ≡ m
half x m = grind (arith)

pub odd : (x : Bool) (m : ℕ) → (cond x 1 0 + 2 * m) % 2 ≡ cond x 1 0
odd x m = grind (arith)

lowest_bit : (x : Bool) (m : ℕ) → lowest (cond x 1 0 + 2 * m) ≡ x
lowest_bit x m = grind (arith, nat_tests)

lowest_is : (map : ℕ) → map % 2 ≡ cond (lowest map) 1 0
lowest_is map = grind (arith, nat_tests)

-- one map in another: the lowest bits, and the rest
halves : (a b : ℕ) → bit_and a b ≡ a → (bit_and (a / 2) (b / 2) ≡ a / 2) × (a % 2 ≤ b % 2)
halves a b e = let s = and_step a b in (omega arith, omega arith)

doubled : (a b : ℕ) → bit_and (a / 2) (b / 2) ≡ a / 2 → a % 2 ≤ b % 2 → bit_and a b ≡ a
doubled a b e h = let s = and_step a b in omega arith

bit_below : (b : Bool) (m k : ℕ) → m < 2 ^ k → cond b 1 0 + 2 * m < 2 ^ suc k
bit_below b m k h = grind (arith, pow-suc 2 k)

pub map_below : {A : Type 0} (test : A → Bool) (rs : List A) → map_of test rs < 2 ^ length rs
unfolding map_of
map_below test [] = omega arith
map_below test (r ∷ rs) = bit_below (test r) (map_of test rs) (length rs) (map_below test rs)

ones_bit : (x : Bool) (m : ℕ) → ones (cond x 1 0 + 2 * m) ≡ cond x 1 0 + ones m
ones_bit x m = ones_step (cond x 1 0 + 2 * m) ∙ simp (odd x m, half x m)

ones_none : ones 0 ≡ 0
unfolding ones ones_in
ones_none = refl

-- ---- rows that were written

pub rows_length : (rs : List (Option Seal)) → length (row_bytes rs) ≡ ones (map_of is_some rs) * 8
unfolding map_of row_bytes le8
rows_length [] = omega (arith, ones_none)
rows_length (None ∷ rs) = omega (arith, ones_bit false (map_of is_some rs), rows_length rs)
rows_length (Some z ∷ rs) = omega (arith, ones_bit true (map_of is_some rs), rows_length rs)

pub rows_read : (rs : List (Option Seal)) {xs : List ℕ} {a b : ℕ} → rows_fit rs ≡ true → Piece xs a (row_bytes rs) b → rows_at (length rs) (map_of is_some rs) xs a ≡ rs
unfolding map_of row_bytes rows_at rows_fit le8
rows_read [] f p = refl
rows_read (None ∷ rs) {xs} {a} f p =
    let m = map_of is_some rs in
    simp (lowest_bit false m, half false m) (ap (λ r. None ∷ r) (rows_read rs f p))
rows_read (Some z ∷ rs) {xs} {a} f p =
    let m = map_of is_some rs in
    let g = and_parts (is_word z.0) (rows_fit rs) f in
    let e : eight_at xs a ≡ z.0 = eight_at_lem (first_part (le8 z.0) (row_bytes rs) p) (ltb-true _ _ g.0) in
    simp (lowest_bit true m, half true m) (ap₂ (λ n r. Some (record { 0 = n }) ∷ r) e (rows_read rs g.1 (second_part (le8 z.0) (row_bytes rs) p)))

-- ---- rows that were read

-- n rows, with a seal for each bit of the map, as they stand at a
pub record Rows (n map : ℕ) (xs : List ℕ) (a : ℕ) (rs : List (Option Seal)) : Type 0 where
  pub long : length rs ≡ n
  pub same : map_of is_some rs ≡ map
  pub fit : rows_fit rs ≡ true
  pub piece : Piece xs a (row_bytes rs) (a + ones map * 8)

ones_odd : (map : ℕ) → map % 2 ≡ 1 → ones map ≡ 1 + ones (map / 2)
ones_odd map e = ones_step map ∙ ap (λ k. k + ones (map / 2)) e

ones_even : (map : ℕ) → map % 2 ≡ 0 → ones map ≡ 0 + ones (map / 2)
ones_even map e = ones_step map ∙ ap (λ k. k + ones (map / 2)) e

seal_row : (n map : ℕ) (xs : List ℕ) (a : ℕ) (rs : List (Option Seal)) → Bytes xs → map % 2 ≡ 1 → Rows n (map / 2) xs (a + 8) rs → Rows (suc n) map xs a (row_at true xs a ∷ rs)
unfolding map_of row_bytes rows_fit
seal_row n map xs a rs bytes e r =
    let o = ones_odd map e in
    let w = r.piece.within in
    let l : a + 8 + ones (map / 2) * 8 ≡ a + ones map * 8 = omega arith in
    record {
      long = ap suc r.long;
      same = omega (arith, r.same);
      fit = and_from _ _ (lt-ltb _ _ (eight_below xs a bytes)) r.fit;
      piece = rw (← l) (join (eight_piece xs bytes a (omega arith)) r.piece);
    }

empty_row : (n map : ℕ) (xs : List ℕ) (a : ℕ) (rs : List (Option Seal)) → map % 2 ≡ 0 → Rows n (map / 2) xs a rs → Rows (suc n) map xs a (row_at false xs a ∷ rs)
unfolding map_of row_bytes rows_fit
empty_row n map xs a rs e r =
    let o = ones_even map e in
    let l : a + ones (map / 2) * 8 ≡ a + ones map * 8 = omega arith in
    record { long = ap suc r.long; same = omega (arith, r.same); fit = r.fit; piece = rw (← l) r.piece }

pub rows_found : (n map : ℕ) (xs : List ℕ) (a : ℕ) → Bytes xs → map < 2 ^ n → a + ones map * 8 ≤ length xs → Rows n map xs a (rows_at n map xs a)
unfolding map_of row_bytes rows_at rows_fit
rows_found zero map xs a bytes h l =
    let e : map ≡ 0 = omega arith in
    let o : ones map ≡ 0 = ap ones e ∙ ones_none in
    let p : a + ones map * 8 ≡ a = omega arith in
    record { long = refl; same = sym e; fit = refl; piece = rw p (nothing xs a (omega arith)) }
rows_found (suc n) map xs a bytes h l =
    go (lowest map) refl (λ e. rows_found n (map / 2) xs (a + 8) bytes (omega (arith, pow-suc 2 n)) (omega (arith, ones_odd map e))) (λ e. rows_found n (map / 2) xs a bytes (omega (arith, pow-suc 2 n)) (omega (arith, ones_even map e)))
  where
    go : (b : Bool) → lowest map ≡ b → (map % 2 ≡ 1 → Rows n (map / 2) xs (a + 8) (rows_at n (map / 2) xs (a + 8))) → (map % 2 ≡ 0 → Rows n (map / 2) xs a (rows_at n (map / 2) xs a))
        → Rows (suc n) map xs a (row_at b xs a ∷ rows_at n (map / 2) xs (after_row b a))
    go true e f g = let k : map % 2 ≡ 1 = eqb-true _ _ e in seal_row n map xs a _ bytes k (f k)
    go false e f g = let k : map % 2 ≡ 0 = omega (arith, eqb-false _ _ e) in empty_row n map xs a _ k (g k)

-- ---- votes

pub votes_back : (vs : List (Option Vote)) → votes_of (map_of ready_vote vs) (vote_seals vs) ≡ vs
unfolding map_of votes_of vote_seals
votes_back [] = refl
votes_back (None ∷ vs) = simp (half false (map_of ready_vote vs)) (ap (λ r. None ∷ r) (votes_back vs))
votes_back (Some v ∷ vs) = simp (lowest_bit (is_ready v.answer) (map_of ready_vote vs), half (is_ready v.answer) (map_of ready_vote vs)) (ap₂ (λ a r. Some (record { answer = a; seal = v.seal }) ∷ r) (grind arith) (votes_back vs))

pub seals_map : (vs : List (Option Vote)) → map_of is_some (vote_seals vs) ≡ map_of is_some vs
unfolding map_of vote_seals
seals_map [] = refl
seals_map (None ∷ vs) = ap (λ m. 0 + 2 * m) (seals_map vs)
seals_map (Some v ∷ vs) = ap (λ m. 1 + 2 * m) (seals_map vs)

pub seals_long : (vs : List (Option Vote)) → length (vote_seals vs) ≡ length vs
unfolding vote_seals
seals_long [] = refl
seals_long (v ∷ vs) = ap suc (seals_long vs)

-- a map in another, bit by bit
more_within : (x y : Bool) (m n : ℕ) → bit_and m n ≡ m → (x ≡ true → y ≡ true) → bit_and (cond x 1 0 + 2 * m) (cond y 1 0 + 2 * n) ≡ cond x 1 0 + 2 * m
more_within x y m n e h = doubled _ _ (simp (half x m, half y n) e) (grind (arith, odd x m, odd y n))

less_within : (x y : Bool) (m n : ℕ) → bit_and (cond x 1 0 + 2 * m) (cond y 1 0 + 2 * n) ≡ cond x 1 0 + 2 * m → (bit_and m n ≡ m) × (x ≡ true → y ≡ true)
less_within x y m n e =
    let s = halves _ _ e in
    (simp (half x m, half y n) at s.0, λ g. grind (arith, s.1, odd x m, odd y n, g))

pub ready_within : (vs : List (Option Vote)) → bit_and (map_of ready_vote vs) (map_of is_some vs) ≡ map_of ready_vote vs
unfolding map_of
ready_within [] = refl
ready_within (None ∷ vs) = more_within false false _ _ (ready_within vs) (λ e. e)
ready_within (Some v ∷ vs) = more_within (is_ready v.answer) true _ _ (ready_within vs) (λ e. refl)

pub voted_within : (es : List (Option Seal)) (vs : List (Option Vote)) → votes_within es vs ≡ true → bit_and (map_of is_some vs) (map_of is_some es) ≡ map_of is_some vs
unfolding map_of votes_within
voted_within es [] f = refl
voted_within [] (None ∷ vs) f = let e : map_of is_some vs ≡ 0 = sym (voted_within [] vs f) ∙ and_zero_r _ in and_zero_r _ ∙ omega arith
voted_within [] (Some v ∷ vs) f = cc
voted_within (e ∷ es) (None ∷ vs) f = more_within false (is_some e) _ _ (voted_within es vs f) (λ q. grind (arith, q))
voted_within (e ∷ es) (Some v ∷ vs) f = let g = and_parts (is_some e) (votes_within es vs) f in more_within true (is_some e) _ _ (voted_within es vs g.1) (λ q. g.0)

-- what the votes are that were read
pub votes_seals : (ready : ℕ) (rs : List (Option Seal)) → vote_seals (votes_of ready rs) ≡ rs
unfolding vote_seals votes_of
votes_seals ready [] = refl
votes_seals ready (None ∷ rs) = ap (λ r. None ∷ r) (votes_seals (ready / 2) rs)
votes_seals ready (Some z ∷ rs) = ap (λ r. Some z ∷ r) (votes_seals (ready / 2) rs)

pub votes_map : (ready : ℕ) (rs : List (Option Seal)) → map_of is_some (votes_of ready rs) ≡ map_of is_some rs
votes_map ready rs = sym (seals_map (votes_of ready rs)) ∙ ap (map_of is_some) (votes_seals ready rs)

pub votes_long : (ready : ℕ) (rs : List (Option Seal)) → length (votes_of ready rs) ≡ length rs
votes_long ready rs = sym (seals_long (votes_of ready rs)) ∙ ap length (votes_seals ready rs)

bits_of : (n : ℕ) → n ≡ cond (lowest n) 1 0 + 2 * (n / 2)
bits_of n = omega (arith, lowest_is n)

ready_answer : (b : Bool) → is_ready (answer_if b) ≡ b
ready_answer b = grind arith

pub votes_ready : (ready : ℕ) (rs : List (Option Seal)) → bit_and ready (map_of is_some rs) ≡ ready → map_of ready_vote (votes_of ready rs) ≡ ready
unfolding map_of votes_of
votes_ready ready [] e = sym (and_zero_r ready) ∙ e
votes_ready ready (None ∷ rs) e =
    let g = less_within (lowest ready) false (ready / 2) (map_of is_some rs) (rw (← bits_of ready) e) in
    let h = (halves ready (0 + 2 * map_of is_some rs) e).1 in
    omega (arith, votes_ready (ready / 2) rs g.0)
votes_ready ready (Some z ∷ rs) e =
    let g = less_within (lowest ready) true (ready / 2) (map_of is_some rs) (rw (← bits_of ready) e) in
    simp (ready_answer (lowest ready), votes_ready (ready / 2) rs g.0) (sym (bits_of ready))

pub votes_within_lem : (ready : ℕ) (es rs : List (Option Seal)) → bit_and (map_of is_some rs) (map_of is_some es) ≡ map_of is_some rs → votes_within es (votes_of ready rs) ≡ true
unfolding map_of votes_of votes_within
votes_within_lem ready es [] e = refl
votes_within_lem ready [] (None ∷ rs) e = votes_within_lem (ready / 2) [] rs (and_zero_r _ ∙ omega (arith, and_zero_r (0 + 2 * map_of is_some rs), e))
votes_within_lem ready [] (Some z ∷ rs) e = absurd (omega (arith, and_zero_r (1 + 2 * map_of is_some rs), e))
votes_within_lem ready (s ∷ es) (None ∷ rs) e = let g = less_within false (is_some s) (map_of is_some rs) (map_of is_some es) e in votes_within_lem (ready / 2) es rs g.0
votes_within_lem ready (s ∷ es) (Some z ∷ rs) e = let g = less_within true (is_some s) (map_of is_some rs) (map_of is_some es) e in and_from _ _ (g.1 refl) (votes_within_lem (ready / 2) es rs g.0)
