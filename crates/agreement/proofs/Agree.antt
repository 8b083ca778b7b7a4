-- Two decisions are of one outcome; a supported number includes the locks that a quorum gave receipts to, and was ordered.
use Rattle.std.proofs.Common.{◌≡◌, ℕ, ◌<◌, ◌≤◌, false, sym, refl, inl, inr, arith}
use Rattle.std.proofs.lemmas.Bool.{cases_lt}
use Rattle.agreement.specs.Seats.{Seats}
use Rattle.agreement.proofs.Meet.{Few, Backed}
use Rattle.terms.specs.declared.numbers.KeyNumber.{KeyNumber}
use Rattle.terms.specs.declared.parties.Outcome.{Outcome}
use Rattle.terms.specs.declared.parties.Outcome.TheVariants.{Number}
use Rattle.agreement.proofs.Words.{Brief, bare, built, Log, lock_party, office}
use Rattle.agreement.proofs.Core.{AtLeast, AtMost, Supported, Decided, first, chosen, free, Rules, Receipt, Ready, Ordered}
use Rattle.agreement.proofs.Strong.{strong}
use Rattle.agreement.proofs.Meet.{both, one}

between : (w u : ℕ) (b : Brief) → AtLeast w b → AtMost u b → w ≤ u
between w u bare l m = absurd l
between w u (built k x d) l m = omega arith

module _ {f : ℕ} {t : Seats} {l : Log} (few : Few f t) (r : Rules f t l) where
  pub decided_supported : {v : ℕ} {x : Outcome} {d : ℕ} → Decided f t l v x d → Supported f t l v x d
  decided_supported c = let s = one few c in r.confirms s.1 s.2

  one_voice : {v : ℕ} {x y : Outcome} {d e : ℕ} → Supported f t l v x d → Supported f t l v y e → x ≡ y
  one_voice a b = let s = both few a b in (r.voice s.1 s.2 s.3).0

  -- what is supported in a view after v rests on an earlier one, and not on one before v
  back : {v u : ℕ} {x y : Outcome} {d e : ℕ} → Decided f t l v x d → v < u → Supported f t l u y e →
      (w : ℕ) × (w < u) × (v ≤ w) × Supported f t l w y e
  back {v} c m s =
      let a = one few s in
      elim (r.grounds a.1 a.2) [
        | first z i ↦ absurd (omega arith)
        | chosen k ↦
            let h = both few c k.highest in
            (k.view, k.earlier, between v k.view h.3.0 (r.moves h.1 m h.2 h.3.1) h.3.2, k.supported)
        | free k ↦ let h = both few c k.none in absurd (r.moves h.1 m h.2 h.3)
      ]

  locked : {v : ℕ} {x y : Outcome} {d e : ℕ} → Decided f t l v x d → (u : ℕ) → v ≤ u → Supported f t l u y e → x ≡ y
  locked {v} {x} {y} {d} {e} c = strong (λ u. v ≤ u → Supported f t l u y e → x ≡ y) step
    where
      step : (u : ℕ) → ((w : ℕ) → w < u → v ≤ w → Supported f t l w y e → x ≡ y) → v ≤ u → Supported f t l u y e → x ≡ y
      step u ih m s =
          elim (cases_lt v u) [
            | inl k ↦ let b = back c k s in ih b.0 b.1 b.2 b.3
            | inr k ↦ let p : u ≡ v = omega arith in one_voice (decided_supported c) (rw p at s)
          ]

  pub agreement : (v w : ℕ) (x y : Outcome) (d e : ℕ) → Decided f t l v x d → Decided f t l w y e → x ≡ y
  agreement v w x y d e a b =
      elim (cases_lt v w) [
        | inl m ↦ locked a w (omega arith) (decided_supported b)
        | inr m ↦ sym (locked b v m (decided_supported a))
      ]

  pub inclusion : (v : ℕ) (n : KeyNumber) (d p : ℕ) → t (lock_party p) ≡ false → Supported f t l v (Number n) d → Backed f t (λ h. Receipt l h p) → Ready l p n
  inclusion v n d p loyal s q = strong (λ v. Supported f t l v (Number n) d → Ready l p n) step v s
    where
      step : (v : ℕ) → ((w : ℕ) → w < v → Supported f t l w (Number n) d → Ready l p n) → Supported f t l v (Number n) d → Ready l p n
      step v ih s =
          let h = both few s q in
          elim (r.grounds h.1 h.2) [
            | first z i ↦ i.locks refl h.3 loyal
            | chosen k ↦ ih k.view k.earlier k.supported
            | free k ↦ k.included.locks refl h.3 loyal
          ]

  pub ordering : (v : ℕ) (n : KeyNumber) (d : ℕ) → t office ≡ false → Supported f t l v (Number n) d → Ordered l n
  ordering v n d loyal s = strong (λ v. Supported f t l v (Number n) d → Ordered l n) step v s
    where
      step : (v : ℕ) → ((w : ℕ) → w < v → Supported f t l w (Number n) d → Ordered l n) → Supported f t l v (Number n) d → Ordered l n
      step v ih s =
          let h = one few s in
          elim (r.grounds h.1 h.2) [
            | first z i ↦ i.orders refl loyal
            | chosen k ↦ ih k.view k.earlier k.supported
            | free k ↦ k.included.orders refl loyal
          ]
