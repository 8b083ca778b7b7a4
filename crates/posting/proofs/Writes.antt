-- One letter after another in one buffer, and a scratch buffer cleared twice.
use Rattle.std.proofs.Common.{◌≡◌, ℕ, ◌-◌, ◌≤◌, Bool, true, cond, List, [], ◌++◌, length, take, drop, replicate, sym, refl, ap, ◌∙◌, append_assoc, arith, length-append, length-drop}
use borrow.Rule.Slice.PartMut.{put_mid}
use Rattle.std.proofs.lemmas.List.{take_at, drop_at, drop_all, drop-drop, take_rest, append-nil}
use Rattle.letters.specs.Bytes.{written}
use Rattle.seals.specs.Scratch.{cleared}

-- T is the buffer after the first letter, and W what the second left in its part
pub then_written :
    (T W ps bs xs : List ℕ) (n : ℕ) → T ≡ written ps xs → n ≡ length ps →
    W ≡ written bs (take (length T - n) (drop n T)) →
    put_mid n (length T - n) T W ≡ written (ps ++ bs) xs
then_written T W ps bs xs n eT en eW =
    let tk : take n T ≡ ps = ap (take n) eT ∙ take_at ps _ n (sym en) in
    let dr : drop n T ≡ drop (length ps) xs = ap (drop n) eT ∙ drop_at ps _ n (sym en) in
    let po : drop (length T - n) (drop n T) ≡ [] = drop_all (length T - n) (drop n T) (omega (arith, length-drop n T)) in
    let w : W ≡ bs ++ drop (length (ps ++ bs)) xs =
    eW ∙ ap (written bs) (take_rest T n ∙ dr) ∙ ap (λ z. bs ++ z) (drop-drop (length bs) (length ps) xs ∙ ap (λ m. drop m xs) (sym (length-append ps bs))) in
    ap (λ z. z ++ (W ++ drop (length T - n) (drop n T))) tk ∙ ap (λ z. ps ++ (W ++ z)) po ∙ ap (λ z. ps ++ z) (append-nil W ∙ w) ∙ sym (append_assoc ps bs _)

pub cleared_twice : (xs : List ℕ) → cleared (cleared xs) ≡ cleared xs
unfolding cleared
cleared_twice xs = ap (λ z. replicate 24 0 ++ z) (drop_at (replicate 24 0) (drop 24 xs) 24 refl)

pub chosen : {A : Type 0} {t : Bool} (x y : A) → t ≡ true → x ≡ cond t x y
chosen {A} {t} x y e = sym (ap (λ b. cond b x y) e)

pub length_cleared : (xs : List ℕ) → 24 ≤ length xs → length (cleared xs) ≡ length xs
unfolding cleared
length_cleared xs h = omega (arith, length-append (replicate 24 0) (drop 24 xs), length-drop 24 xs)
