-- The words of eight bytes that a message is cut into.
use Rattle.std.proofs.Common.{◌≡◌, ℕ, zero, suc, ◌+◌, ◌*◌, ◌<◌, List, [], get_or, take, drop, refl, ap, ◌∙◌, arith}
use Rattle.std.proofs.lemmas.List.{get_or-take, get_or-drop, drop-drop}
use Rattle.std.specs.Int.{w64, from_le_bytes}
use Rattle.std.specs.Simd.{first_chunks}
use Rattle.letters.specs.Bytes.{eight_at}

chunk_at : (k : ℕ) (xs : List ℕ) (i at : ℕ) → i < k → at ≡ i * 8 → get_or (first_chunks 8 k xs) i [] ≡ take 8 (drop at xs)
chunk_at zero xs i at h e = absurd (omega arith)
chunk_at (suc k) xs zero at h e = let z : at ≡ 0 = omega arith in rw z
chunk_at (suc k) xs (suc i) at h e = let s : at ≡ 8 + i * 8 = omega arith in rw s (chunk_at k (drop 8 xs) i (i * 8) (omega arith) refl ∙ ap (take 8) (drop-drop (i * 8) 8 xs))

-- eight bytes taken at an offset, as one number
taken_word : (m : List ℕ) (at : ℕ) → from_le_bytes w64 (take 8 (drop at m)) ≡ eight_at m at
taken_word m at =
    let byte : (i j : ℕ) → i < 8 → j ≡ at + i → get_or (take 8 (drop at m)) i 0 ≡ get_or m j 0 = λ i j h e. rw e (get_or-take 8 (drop at m) i 0 h ∙ get_or-drop at m i 0) in
    omega (arith, byte 0 at (omega arith) (omega arith), byte 1 (at + 1) (omega arith) refl, byte 2 (at + 2) (omega arith) refl, byte 3 (at + 3) (omega arith) refl, byte 4 (at + 4) (omega arith) refl, byte 5 (at + 5) (omega arith) refl, byte 6 (at + 6) (omega arith) refl, byte 7 (at + 7) (omega arith) refl)

-- the i-th of the words
pub word_is : (m : List ℕ) (k i : ℕ) → i < k → from_le_bytes w64 (get_or (first_chunks 8 k m) i []) ≡ eight_at m (i * 8)
word_is m k i h = ap (from_le_bytes w64) (chunk_at k m i (i * 8) h refl) ∙ taken_word m (i * 8)

-- the number in the bytes that are left after an offset
pub left_word : (m : List ℕ) (at : ℕ) → eight_at (drop at m) 0 ≡ eight_at m at
left_word m at =
    let byte : (i j : ℕ) → j ≡ at + i → get_or (drop at m) i 0 ≡ get_or m j 0 = λ i j e. rw e (get_or-drop at m i 0) in
    omega (arith, byte 0 at (omega arith), byte 1 (at + 1) refl, byte 2 (at + 2) refl, byte 3 (at + 3) refl, byte 4 (at + 4) refl, byte 5 (at + 5) refl, byte 6 (at + 6) refl, byte 7 (at + 7) refl)
