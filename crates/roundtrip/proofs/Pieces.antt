-- Bytes that stand in others: where they begin, and where they end.
use Rattle.std.proofs.Common.{◌≡◌, ℕ, ◌+◌, ◌-◌, ◌^◌, ◌<◌, ◌≤◌, List, [], ◌∷◌, ◌++◌, length, get_or, take, drop, sym, refl, ap, ◌∙◌, subst, add-zero, arith, length-append}
use Rattle.std.proofs.lemmas.Grind.{common_steps}
use Rattle.std.proofs.lemmas.List.{append_assoc, append-nil, drop_more, drop_all, drop-drop, drop_at, take_at, take-append-drop, get_or-take, get_or-drop}
use Rattle.std.proofs.lemmas.Nat.{le_bytes_2, le_bytes_4, le_bytes_8, from_le_bytes-to_le_bytes_4, from_le_bytes-to_le_bytes_8}
use Rattle.letters.specs.Bytes.{le2, le4, le8, two_at, four_at, eight_at}
use Rattle.roundtrip.specs.Laws.{Bytes}

-- ys stands in xs from `at` up to `next`
pub record Piece (xs : List ℕ) (at : ℕ) (ys : List ℕ) (next : ℕ) : Type 0 where
  pub rest : drop at xs ≡ ys ++ drop next xs
  pub ends : next ≡ at + length ys
  pub within : next ≤ length xs

pub join : {xs ys zs : List ℕ} {a b c : ℕ} → Piece xs a ys b → Piece xs b zs c → Piece xs a (ys ++ zs) c
join {xs} {ys} {zs} {a} {b} {c} p q = record {
  rest = p.rest ∙ (ap (λ r. ys ++ r) q.rest ∙ sym (append_assoc ys zs (drop c xs)));
  ends = omega (arith, length-append ys zs, p.ends, q.ends);
  within = q.within;
}

module _ (ys zs : List ℕ) {xs : List ℕ} {a c : ℕ} (p : Piece xs a (ys ++ zs) c) where
  left_rest : drop a xs ≡ ys ++ (zs ++ drop c xs)
  left_rest = p.rest ∙ append_assoc ys zs (drop c xs)

  second : drop (a + length ys) xs ≡ zs ++ drop c xs
  second = sym (drop-drop (length ys) a xs) ∙ (ap (drop (length ys)) left_rest ∙ drop_at ys (zs ++ drop c xs) (length ys) refl)

  pub first_part : Piece xs a ys (a + length ys)
  first_part = record {
    rest = left_rest ∙ ap (λ r. ys ++ r) (sym second);
    ends = refl;
    within = omega (arith, length-append ys zs, p.ends, p.within);
  }

  pub second_part : Piece xs (a + length ys) zs c
  second_part = record {
    rest = second;
    ends = omega (arith, length-append ys zs, p.ends);
    within = p.within;
  }

-- a list stands in itself
pub whole : (xs : List ℕ) → Piece xs 0 xs (length xs)
whole xs = record { rest = sym (append-nil xs) ∙ ap (λ r. xs ++ r) (sym (drop_all (length xs) xs (omega arith))); ends = omega arith; within = omega arith }

-- what stands from the start to the end is all
pub all_of : {xs ys : List ℕ} {n : ℕ} → Piece xs 0 ys n → length xs ≤ n → xs ≡ ys
all_of {xs} {ys} {n} p h = p.rest ∙ (ap (λ r. ys ++ r) (drop_all n xs h) ∙ append-nil ys)

-- the bytes between two offsets
pub between_is : {xs ys : List ℕ} {a b : ℕ} → Piece xs a ys b → take (b - a) (drop a xs) ≡ ys
between_is {xs} {ys} {a} {b} p = ap (take (b - a)) p.rest ∙ take_at ys (drop b xs) (b - a) (omega (arith, p.ends))

pub nothing : (xs : List ℕ) (a : ℕ) → a ≤ length xs → Piece xs a [] a
nothing xs a h = record { rest = refl; ends = omega arith; within = h }

-- an element of a piece
pub at_piece : {xs ys : List ℕ} {a b : ℕ} → Piece xs a ys b → (i : ℕ) → get_or xs (a + i) 0 ≡ get_or (ys ++ drop b xs) i 0
at_piece {xs} {ys} {a} {b} p i = sym (get_or-drop a xs i 0) ∙ ap (λ (r : List ℕ). get_or r i 0) p.rest

pub at_first : {xs ys : List ℕ} {a b : ℕ} → Piece xs a ys b → get_or xs a 0 ≡ get_or (ys ++ drop b xs) 0 0
at_first {xs} {ys} {a} {b} p = ap (λ k. get_or xs k 0) (sym (add-zero a)) ∙ at_piece p 0

-- ---- the bytes of a number

pub two_at_lem : {xs : List ℕ} {a b n : ℕ} → Piece xs a (le2 n) b → n < 65536 → two_at xs a ≡ n
unfolding le2
two_at_lem p h = omega (arith, at_first p, at_piece p 1)

pub four_at_lem : {xs : List ℕ} {a b n : ℕ} → Piece xs a (le4 n) b → n < 4294967296 → four_at xs a ≡ n
unfolding le4
four_at_lem {xs} {a} {b} {n} p h = omega (arith, at_first p, at_piece p 1, at_piece p 2, at_piece p 3, from_le_bytes-to_le_bytes_4 n h)

pub eight_at_lem : {xs : List ℕ} {a b n : ℕ} → Piece xs a (le8 n) b → n < 2 ^ 64 → eight_at xs a ≡ n
unfolding le8
eight_at_lem {xs} {a} {b} {n} p h =
    omega (arith, at_first p, at_piece p 1, at_piece p 2, at_piece p 3, at_piece p 4, at_piece p 5, at_piece p 6, at_piece p 7, from_le_bytes-to_le_bytes_8 n h)

module _ (xs : List ℕ) (bytes : Bytes xs) (a : ℕ) where
  taken : (n : ℕ) → a + n ≤ length xs → Piece xs a (take n (drop a xs)) (a + n)
  taken n h = record {
    rest = sym (take-append-drop n (drop a xs)) ∙ ap (λ r. take n (drop a xs) ++ r) (drop-drop n a xs);
    ends = grind (arith, common_steps);
    within = h;
  }

  taken_length : (n : ℕ) → a + n ≤ length xs → length (take n (drop a xs)) ≡ n
  taken_length n h = grind (arith, common_steps)

  taken_at : (n i : ℕ) → i < n → get_or (take n (drop a xs)) i 0 ≡ get_or xs (a + i) 0
  taken_at n i h = get_or-take n (drop a xs) i 0 h ∙ get_or-drop a xs i 0

  taken_first : (n : ℕ) → 0 < n → get_or (take n (drop a xs)) 0 0 ≡ get_or xs a 0
  taken_first n h = taken_at n 0 h ∙ ap (λ k. get_or xs k 0) (add-zero a)

  taken_bytes : (n i : ℕ) → get_or (take n (drop a xs)) i 0 < 256
  taken_bytes n i = grind (arith, common_steps, bytes (a + i))

  -- n bytes, which a number gives back
  given_back : (n : ℕ) {ys : List ℕ} → a + n ≤ length xs → ys ≡ take n (drop a xs) → Piece xs a ys (a + n)
  given_back n h e = subst (λ ys. Piece xs a ys (a + n)) (sym e) (taken n h)

  pub byte_piece : a + 1 ≤ length xs → Piece xs a (get_or xs a 0 ∷ []) (a + 1)
  byte_piece h = record { rest = drop_more xs a 0 (omega arith); ends = refl; within = h }

  pub two_piece : a + 2 ≤ length xs → Piece xs a (le2 (two_at xs a)) (a + 2)
  unfolding le2
  two_piece h = given_back 2 h (le_bytes_2 _ _ (taken_length 2 h) (taken_bytes 2) (omega (arith, taken_first 2, taken_at 2 1)))

  pub four_piece : a + 4 ≤ length xs → Piece xs a (le4 (four_at xs a)) (a + 4)
  unfolding le4
  four_piece h = given_back 4 h (le_bytes_4 _ _ (taken_length 4 h) (taken_bytes 4) (omega (arith, taken_first 4, taken_at 4 1, taken_at 4 2, taken_at 4 3)))

  pub eight_piece : a + 8 ≤ length xs → Piece xs a (le8 (eight_at xs a)) (a + 8)
  unfolding le8
  eight_piece h = given_back 8 h (le_bytes_8 _ _ (taken_length 8 h) (taken_bytes 8) (omega (arith, taken_first 8, taken_at 8 1, taken_at 8 2, taken_at 8 3, taken_at 8 4, taken_at 8 5, taken_at 8 6, taken_at 8 7)))

-- numbers in bytes are bounded
pub two_below : (xs : List ℕ) (a : ℕ) → Bytes xs → two_at xs a < 65536
two_below xs a h = omega (arith, h a, h (a + 1))

pub four_below : (xs : List ℕ) (a : ℕ) → Bytes xs → four_at xs a < 4294967296
four_below xs a h = omega (arith, h a, h (a + 1), h (a + 2), h (a + 3))

pub eight_below : (xs : List ℕ) (a : ℕ) → Bytes xs → eight_at xs a < 2 ^ 64
eight_below xs a h = omega (arith, h a, h (a + 1), h (a + 2), h (a + 3), h (a + 4), h (a + 5), h (a + 6), h (a + 7))
