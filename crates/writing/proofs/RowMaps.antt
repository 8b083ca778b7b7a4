-- Maps of rows, from the last row down.
use Rattle.std.proofs.Common.{◌≡◌, ℕ, suc, ◌+◌, ◌*◌, ◌^◌, ◌<◌, ◌≤◌, Bool, cond, List, [], ◌∷◌, ◌++◌, length, sym, refl, ap, ◌∙◌, pow-suc, arith, length-append, pow_mono}
use Rattle.std.proofs.lemmas.Grind.{common_steps}
use Rattle.std.proofs.lemmas.List.{append_assoc, append-nil}
use Rattle.letters.specs.Bytes.{map_of}

-- the rows are those that are left and those that are done, and m is the map of these under each
-- test that is known
pub record MapSoFar {A : Type 0} (Known : (A → Bool) → Type 0) (rows left : List A) (m : ℕ) : Type 0 where
  pub done : List A
  pub parts : left ++ done ≡ rows
  pub maps : (test : A → Bool) → Known test → m ≡ map_of test done
  pub small : m < 2 ^ length done

pub map_start : {A : Type 0} (Known : (A → Bool) → Type 0) (rows : List A) → MapSoFar Known rows rows 0
unfolding map_of
map_start Known rows = record { done = []; parts = append-nil rows; maps = λ test k. refl; small = omega arith }

bit_small : (b : Bool) → cond b 1 0 ≤ 1
bit_small b = grind arith

-- n rows have a map of n bits
pub map_small : {A : Type 0} (test : A → Bool) (xs : List A) → map_of test xs < 2 ^ length xs
unfolding map_of
map_small test [] = omega arith
map_small test (x ∷ xs) = let e : 2 ^ suc (length xs) ≡ 2 ^ length xs * 2 = pow-suc 2 (length xs) in omega (arith, bit_small (test x), map_small test xs)

-- the last row that is left is done
pub map_step :
    {A : Type 0} {Known : (A → Bool) → Type 0} {rows left rest : List A} {m : ℕ} (b : Bool) (x : A) →
    MapSoFar Known rows left m → left ≡ rest ++ x ∷ [] → ((test : A → Bool) → Known test → b ≡ test x) →
    MapSoFar Known rows rest (cond b 1 0 + 2 * m)
unfolding map_of
map_step {A} {Known} {rows} {left} {rest} {m} b x s e t =
    let double : 2 ^ suc (length s.done) ≡ 2 ^ length s.done * 2 = pow-suc 2 (length s.done) in record {
      done = x ∷ s.done;
      parts = sym (append_assoc rest (x ∷ []) s.done) ∙ ap (λ z. z ++ s.done) (sym e) ∙ s.parts;
      maps = λ test k. ap (λ z. cond z 1 0 + 2 * m) (t test k) ∙ ap (λ z. cond (test x) 1 0 + 2 * z) (s.maps test k);
      small = omega (arith, bit_small b, s.small);
    }

-- the map of those done is below a power of two, of which the rows that are left and they are no more
map_below :
    {A : Type 0} {Known : (A → Bool) → Type 0} {rows left : List A} {m : ℕ} (k : ℕ) →
    MapSoFar Known rows left m → length rows ≤ length left + k → m < 2 ^ k
map_below {A} {Known} {rows} {left} {m} k s h =
    let n : length rows ≡ length left + length s.done = ap length (sym s.parts) ∙ length-append left s.done in
    let few : length s.done ≤ k = omega arith in
    let p : 2 ^ length s.done ≤ 2 ^ k = pow_mono few in omega (arith, s.small)

-- of at most sixteen rows, with one left, those done have a map of fifteen bits
pub map_room :
    {A : Type 0} {Known : (A → Bool) → Type 0} {rows left : List A} {m : ℕ} →
    MapSoFar Known rows left m → 0 < length left → length rows ≤ 16 → m < 32768
map_room s e h = map_below 15 s (omega arith)

none_left : {A : Type 0} (left : List A) → length left ≡ 0 → left ≡ []
none_left left e = grind (arith, common_steps)

-- none is left
pub map_all : {A : Type 0} {Known : (A → Bool) → Type 0} {rows left : List A} {m : ℕ} → MapSoFar Known rows left m → length left ≡ 0 → (test : A → Bool) → Known test → m ≡ map_of test rows
map_all {A} {Known} {rows} {left} {m} s e test k = s.maps test k ∙ ap (map_of test) (sym (ap (λ z. z ++ s.done) (none_left left e)) ∙ s.parts)

-- up to eight rows have a map of one byte
pub map_byte : {A : Type 0} {Known : (A → Bool) → Type 0} {rows left : List A} {m : ℕ} → MapSoFar Known rows left m → length rows ≤ 8 → m < 256
map_byte s h = map_below 8 s (omega arith)
