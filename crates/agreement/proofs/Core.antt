-- What honest parties give out keeps these rules; the log alone is read.
use Rattle.std.proofs.Common.{◌≡◌, ℕ, ◌<◌, ◌≤◌, false, Some}
use Rattle.agreement.specs.Seats.{Seats}
use Rattle.agreement.proofs.Meet.{Honest, Backed}
use Rattle.terms.specs.declared.numbers.KeyNumber.{KeyNumber}
use Rattle.terms.specs.declared.parties.Outcome.{Outcome}
use Rattle.terms.specs.declared.parties.Outcome.TheVariants.{Number}
use Rattle.agreement.proofs.Words.{receipt, order, ready, propose, assent, confirm, move, Brief, bare, built, Saying, says, Log, Said, Assented, lock_party, office}

abbrev pub AtLeast : ℕ → Brief → Type 0
AtLeast w bare = ⊥
AtLeast w (built u x d) = w ≤ u

abbrev pub AtMost : ℕ → Brief → Type 0
AtMost w bare = Unit {0}
AtMost w (built u x d) = u ≤ w

abbrev pub Confirmed : Log → ℕ → ℕ → Outcome → ℕ → Type 0
Confirmed l h v x d = Said (says h (confirm v x d)) l

abbrev pub Moved : Log → ℕ → ℕ → Brief → Type 0
Moved l h v b = Said (says h (move v b)) l

abbrev pub Receipt : Log → ℕ → ℕ → Type 0
Receipt l h p = Said (says h (receipt p)) l

abbrev pub Ready : Log → ℕ → KeyNumber → Type 0
Ready l p n = Said (says (lock_party p) (ready (Some n))) l

abbrev pub Ordered : Log → KeyNumber → Type 0
Ordered l n = Said (says office (order (Some n))) l

-- each honest lock that h gave a receipt to is ready for the number, if x is one; and an honest office ordered it
pub record Included (t : Seats) (l : Log) (h : ℕ) (x : Outcome) : Type 0 where
  pub locks : {n : KeyNumber} {p : ℕ} → x ≡ Number n → Receipt l h p → t (lock_party p) ≡ false → Ready l p n
  pub orders : {n : KeyNumber} → x ≡ Number n → t office ≡ false → Ordered l n

module _ (f : ℕ) (t : Seats) (l : Log) where
  abbrev pub Supported : ℕ → Outcome → ℕ → Type 0
  Supported v x d = Backed f t (λ h. Assented l h v x d)

  abbrev pub Decided : ℕ → Outcome → ℕ → Type 0
  Decided v x d = Backed f t (λ h. Confirmed l h v x d)

  pub record Chosen (v : ℕ) (x : Outcome) (d : ℕ) : Type 0 where
    pub view : ℕ
    pub earlier : view < v
    pub supported : Supported view x d
    pub highest : Backed f t (λ h. (b : Brief) × Moved l h v b × AtMost view b)

  pub record Free (h v : ℕ) (x : Outcome) : Type 0 where
    pub none : Backed f t (λ k. Moved l k v bare)
    pub included : Included t l h x

  pub data Ground (h v : ℕ) (x : Outcome) (d : ℕ) : Type 0 where
    first : v ≡ 0 → Included t l h x → Ground h v x d
    chosen : Chosen v x d → Ground h v x d
    free : Free h v x → Ground h v x d

  pub record Rules : Type 0 where
    pub voice : {h v : ℕ} {x y : Outcome} {d e : ℕ} → Honest f t h → Assented l h v x d → Assented l h v y e → (x ≡ y) × (d ≡ e)
    pub grounds : {h v : ℕ} {x : Outcome} {d : ℕ} → Honest f t h → Assented l h v x d → Ground h v x d
    pub confirms : {h v : ℕ} {x : Outcome} {d : ℕ} → Honest f t h → Confirmed l h v x d → Supported v x d
    pub moves : {h w v : ℕ} {x : Outcome} {d : ℕ} {b : Brief} → Honest f t h → w < v → Confirmed l h w x d → Moved l h v b → AtLeast w b
    pub once : {h v : ℕ} {b c : Brief} → Honest f t h → Moved l h v b → Moved l h v c → b ≡ c

  pub record Speaks (h v : ℕ) (x : Outcome) (d : ℕ) : Type 0 where
    pub silent : (y : Outcome) (e : ℕ) → Assented l h v y e → ⊥
    pub ground : Ground h v x d

  pub record Confirms (h v : ℕ) (x : Outcome) (d : ℕ) : Type 0 where
    pub supported : Supported v x d
    pub still : (w : ℕ) (b : Brief) → v < w → Moved l h w b → AtLeast v b

  pub record Moves (h v : ℕ) (b : Brief) : Type 0 where
    pub fresh : (c : Brief) → Moved l h v c → ⊥
    pub high : (w : ℕ) (x : Outcome) (d : ℕ) → w < v → Confirmed l h w x d → AtLeast w b

  abbrev pub Allowed : Saying → Type 0
  Allowed (says h (propose v x d)) = Honest f t h → Speaks h v x d
  Allowed (says h (assent v x d)) = Honest f t h → Speaks h v x d
  Allowed (says h (confirm v x d)) = Honest f t h → Confirms h v x d
  Allowed (says h (move v b)) = Honest f t h → Moves h v b
  Allowed (says h (receipt p)) = Honest f t h → (v : ℕ) (x : Outcome) (d : ℕ) → Assented l h v x d → ⊥
  Allowed (says h w) = Unit {0}
