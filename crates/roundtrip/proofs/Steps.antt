-- One step of a reader after another: forwards, and back from what came out.
use Rattle.std.proofs.Common.{◌≡◌, ℕ, ◌+◌, ◌^◌, ◌<◌, ◌≤◌, Bool, true, false, cond, leb, List, [], ◌∷◌, length, Some, None, Ok, Err, Option, Result, sym, refl, ap, ◌∙◌, subst, ap₂, arith}
use Rattle.std.proofs.lemmas.Bool.{leb-true, le-leb, cond-true}
use Rattle.terms.specs.declared.refusals.Refusal.{Refusal}
use Rattle.letters.specs.Bytes.{le2, le4, le8}
use Rattle.reading.specs.Bind.{◌>>=◌}
use Rattle.reading.specs.Fields.{Read, ranged, checked, sized, byte, two, four, eight}
use Rattle.roundtrip.specs.Laws.{Bytes}
use Rattle.roundtrip.proofs.Pieces.{Piece, at_first, byte_piece, two_piece, four_piece, eight_piece, two_at_lem, four_at_lem, eight_at_lem, two_below, four_below, eight_below}

nothing_came : {A P : Type 0} {e : Refusal} {y : A} → ◌≡◌ {A = Result A Refusal} (Err e) (Ok y) → P
nothing_came e = cc

pub ok_same : {A : Type 0} {x y : A} → ◌≡◌ {A = Result A Refusal} (Ok x) (Ok y) → x ≡ y
ok_same e = cc

module _ {A B : Type 0} where
  pub after : {r : Result A Refusal} {x : A} {y : Result B Refusal} (f : A → Result B Refusal) → r ≡ Ok x → f x ≡ y → (r >>= f) ≡ y
  after f e h = ap (λ s. s >>= f) e ∙ h

  -- what a step gave, and what came of it
  pub came : (r : Result A Refusal) (f : A → Result B Refusal) (y : B) → (r >>= f) ≡ Ok y → (x : A) × (r ≡ Ok x) × (f x ≡ Ok y)
  came (Ok x) f y e = (x, refl, e)
  came (Err c) f y e = nothing_came e

module _ {A B P : Type 0} where
  -- the same, for a goal
  pub step : (r : Result A Refusal) (f : A → Result B Refusal) (y : B) → (r >>= f) ≡ Ok y → ((x : A) → r ≡ Ok x → f x ≡ Ok y → P) → P
  step r f y e k = let c = came r f y e in k c.0 c.1 c.2

  -- the same, with what is known of the field that was read
  pub found : {S : A → Type 0} {r : Result A Refusal} (f : A → Result B Refusal) (y : B) → ((x : A) → r ≡ Ok x → S x) → (r >>= f) ≡ Ok y → ((x : A) → S x → f x ≡ Ok y → P) → P
  found f y known e k = let c = came _ f y e in k c.0 (known c.0 c.1) c.2

module _ {B : Type 0} where
  -- a check that was passed
  pub passed : (t : Bool) (at : ℕ) (f : Unit {0} → Result B Refusal) (y : B) → (checked t at >>= f) ≡ Ok y → (t ≡ true) × (f tt ≡ Ok y)
  passed true at f y e = (refl, e)
  passed false at f y e = nothing_came e

  pub pass : (t : Bool) (at : ℕ) (f : Unit {0} → Result B Refusal) (y : Result B Refusal) → t ≡ true → f tt ≡ y → (checked t at >>= f) ≡ y
  pass t at f y e h = ap (λ s. checked s at >>= f) e ∙ h

-- a field that was read, and the check that it passed
module _ {A : Type 0} (r : List ℕ → ℕ → Read A) (t : A → Bool) (xs : List ℕ) (a : ℕ) (p : A × ℕ) where
  pub checked_found : (r xs a >>= (λ (q : A × ℕ). checked (t q.0) a >>= (λ (u : Unit {0}). Ok q))) ≡ Ok p → (r xs a ≡ Ok p) × (t p.0 ≡ true)
  checked_found e =
      step (r xs a) _ p e (λ q e1 e2.
      let (f, e3) = passed (t q.0) a _ p e2 in
      let g : q ≡ p = ok_same e3 in
      (e1 ∙ ap Ok g, ap (λ (p : A × ℕ). t p.0) (sym g) ∙ f))

pub chosen : {A : Type 0} (t : Bool) (x : A) (r : Refusal) (y : A) → cond t (Ok x) (Err r) ≡ Ok y → (t ≡ true) × (x ≡ y)
chosen true x r y e = (refl, ok_same e)
chosen false x r y e = nothing_came e

pub ranged_some : {A : Type 0} (o : Option A) (at : ℕ) (x : A) → ranged o at ≡ Ok x → o ≡ Some x
ranged_some (Some v) at x e = ap Some (ok_same e)
ranged_some None at x e = nothing_came e

-- ---- numbers

pub sized_reads : (n v : ℕ) (xs : List ℕ) (a w b : ℕ) → b ≡ a + n → b ≤ length xs → v ≡ w → sized n v xs a ≡ Ok (w, b)
sized_reads n v xs a w b e h f = cond-true (leb (a + n) (length xs)) (Ok (v, a + n)) (Err _) (le-leb _ _ (omega arith)) ∙ ap₂ (λ x k. Ok (x, k)) f (sym e)

pub byte_reads : {xs : List ℕ} {a b n : ℕ} → Piece xs a (n ∷ []) b → byte xs a ≡ Ok (n, b)
byte_reads {xs} {a} {b} {n} p = sized_reads 1 _ xs a n b p.ends p.within (at_first p)

pub two_reads : {xs : List ℕ} {a b n : ℕ} → Piece xs a (le2 n) b → n < 65536 → two xs a ≡ Ok (n, b)
unfolding le2
two_reads {xs} {a} {b} {n} p h = sized_reads 2 _ xs a n b p.ends p.within (two_at_lem p h)

pub four_reads : {xs : List ℕ} {a b n : ℕ} → Piece xs a (le4 n) b → n < 4294967296 → four xs a ≡ Ok (n, b)
unfolding le4
four_reads {xs} {a} {b} {n} p h = sized_reads 4 _ xs a n b p.ends p.within (four_at_lem p h)

pub eight_reads : {xs : List ℕ} {a b n : ℕ} → Piece xs a (le8 n) b → n < 2 ^ 64 → eight xs a ≡ Ok (n, b)
unfolding le8
eight_reads {xs} {a} {b} {n} p h = sized_reads 8 _ xs a n b p.ends p.within (eight_at_lem p h)

module _ (xs : List ℕ) (bytes : Bytes xs) (a : ℕ) (p : ℕ × ℕ) where
  pub byte_found : byte xs a ≡ Ok p → Piece xs a (p.0 ∷ []) p.1 × (p.0 < 256)
  byte_found e = let c = chosen _ _ _ _ e in subst (λ q. Piece xs a (q.0 ∷ []) q.1 × (q.0 < 256)) c.1 (byte_piece xs bytes a (leb-true _ _ c.0), bytes a)

  pub two_found : two xs a ≡ Ok p → Piece xs a (le2 p.0) p.1 × (p.0 < 65536)
  two_found e = let c = chosen _ _ _ _ e in subst (λ q. Piece xs a (le2 q.0) q.1 × (q.0 < 65536)) c.1 (two_piece xs bytes a (leb-true _ _ c.0), two_below xs a bytes)

  pub four_found : four xs a ≡ Ok p → Piece xs a (le4 p.0) p.1 × (p.0 < 4294967296)
  four_found e = let c = chosen _ _ _ _ e in subst (λ q. Piece xs a (le4 q.0) q.1 × (q.0 < 4294967296)) c.1 (four_piece xs bytes a (leb-true _ _ c.0), four_below xs a bytes)

  pub eight_found : eight xs a ≡ Ok p → Piece xs a (le8 p.0) p.1 × (p.0 < 2 ^ 64)
  eight_found e = let c = chosen _ _ _ _ e in subst (λ q. Piece xs a (le8 q.0) q.1 × (q.0 < 2 ^ 64)) c.1 (eight_piece xs bytes a (leb-true _ _ c.0), eight_below xs a bytes)

-- ---- a number, and the value that it stands for, if any

abbrev pub picked : {A : Type 0} → (List ℕ → ℕ → Read ℕ) → (ℕ → Option A) → List ℕ → ℕ → Read A
picked r o xs at = do
  (n, next) ← r xs at
  v ← ranged (o n) at
  Ok (v, next)

module _ {A : Type 0} (r : List ℕ → ℕ → Read ℕ) (xs : List ℕ) (a : ℕ) where
  pub picked_reads : (o : ℕ → Option A) (n : ℕ) (v : A) (b : ℕ) → r xs a ≡ Ok (n, b) → o n ≡ Some v → picked r o xs a ≡ Ok (v, b)
  picked_reads o n v b e f = after _ e (ap (λ s. ranged s a >>= (λ (x : A). Ok (x, b))) f)

  pub picked_found : (o : ℕ → Option A) (p : A × ℕ) → picked r o xs a ≡ Ok p → (n : ℕ) × (r xs a ≡ Ok (n, p.1)) × (o n ≡ Some p.0)
  picked_found o p e =
      let (q, e1, e2) = came (r xs a) _ p e in
      let (v, e3, e4) = came (ranged (o q.0) a) _ p e2 in
      let f : (v, q.1) ≡ p = ok_same e4 in
      (q.0, e1 ∙ ap (λ (s : A × ℕ). Ok (q.0, s.1)) f, ranged_some _ a v e3 ∙ ap (λ (s : A × ℕ). Some s.0) f)
