-- What may be added to a log keeps its rules.
use Rattle.std.proofs.Common.{◌≡◌, ℕ, ◌<◌, ◌⊎◌, [], ◌∷◌, inl, inr}
use Rattle.agreement.specs.Seats.{Seats}
use Rattle.agreement.proofs.Meet.{Honest}
use Rattle.terms.specs.declared.parties.Outcome.{Outcome}
use Rattle.agreement.proofs.Words.{receipt, propose, assent, confirm, move, Brief, Saying, says, Log, Said, here, there, Assented, proposed, assented}
use Rattle.agreement.proofs.Core.{AtLeast, Included, Supported, Chosen, Ground, first, chosen, free, Rules, Allowed, Speaks, Confirmed, Moved}
use Rattle.agreement.proofs.Meet.{backed_map}

pub none_said : {s : Saying} → Said s [] → ⊥
none_said m = elim m [ ]

pub none_assented : {h v : ℕ} {x : Outcome} {d : ℕ} → Assented [] h v x d → ⊥
none_assented (proposed m) = none_said m
none_assented (assented m) = none_said m

pub said_cases : {s t : Saying} {l : Log} → Said s (t ∷ l) → (s ≡ t) ⊎ Said s l
said_cases (here e) = inl e
said_cases (there m) = inr m

-- s is a proposal or an assent
pub data Voice (s : Saying) (h v : ℕ) (x : Outcome) (d : ℕ) : Type 0 where
  by_propose : says h (propose v x d) ≡ s → Voice s h v x d
  by_assent : says h (assent v x d) ≡ s → Voice s h v x d

pub assented_cases : {s : Saying} {l : Log} {h v : ℕ} {x : Outcome} {d : ℕ} → Assented (s ∷ l) h v x d → Voice s h v x d ⊎ Assented l h v x d
assented_cases (proposed (here e)) = inl (by_propose e)
assented_cases (proposed (there m)) = inr (proposed m)
assented_cases (assented (here e)) = inl (by_assent e)
assented_cases (assented (there m)) = inr (assented m)

-- what was given out stays given out
pub assented_more : {s : Saying} {l : Log} {h v : ℕ} {x : Outcome} {d : ℕ} → Assented l h v x d → Assented (s ∷ l) h v x d
assented_more (proposed m) = proposed (there m)
assented_more (assented m) = assented (there m)

module _ {s : Saying} {l : Log} where
  pub supported_more : {f : ℕ} {t : Seats} {v : ℕ} {x : Outcome} {d : ℕ} → Supported f t l v x d → Supported f t (s ∷ l) v x d
  supported_more a = backed_map (λ h m. assented_more m) a

  chosen_more : {f : ℕ} {t : Seats} {v : ℕ} {x : Outcome} {d : ℕ} → Chosen f t l v x d → Chosen f t (s ∷ l) v x d
  chosen_more k =
      record {
        view = k.view;
        earlier = k.earlier;
        supported = supported_more k.supported;
        highest = backed_map (λ h m. (m.0, there m.1, m.2)) k.highest;
      }

  included_more : {t : Seats} {h : ℕ} {x : Outcome} → ((p : ℕ) → says h (receipt p) ≡ s → ⊥) → Included t l h x → Included t (s ∷ l) h x
  included_more none i =
      record { locks = λ {n} {p} e m o. elim (said_cases m) [ inl q ↦ absurd (none p q) | inr k ↦ there (i.locks e k o) ]; orders = λ e o. there (i.orders e o) }

  ground_more : {f : ℕ} {t : Seats} {h v : ℕ} {x : Outcome} {d : ℕ} → ((p : ℕ) → says h (receipt p) ≡ s → ⊥) → Ground f t l h v x d → Ground f t (s ∷ l) h v x d
  ground_more none (first z i) = first z (included_more none i)
  ground_more none (chosen k) = chosen (chosen_more k)
  ground_more none (free k) = free (record { none = backed_map (λ h m. there m) k.none; included = included_more none k.included })

  voice_speaks : {f : ℕ} {t : Seats} {h v : ℕ} {x : Outcome} {d : ℕ} → Allowed f t l s → Honest f t h → Voice s h v x d → Speaks f t l h v x d
  voice_speaks a o (by_propose e) = (rw (← e) at a) o
  voice_speaks a o (by_assent e) = (rw (← e) at a) o

voice_same : {s : Saying} {h v : ℕ} {x y : Outcome} {d e : ℕ} → Voice s h v x d → Voice s h v y e → (x ≡ y) × (d ≡ e)
voice_same (by_propose p) (by_propose q) = (cc, cc)
voice_same (by_propose p) (by_assent q) = (cc, cc)
voice_same (by_assent p) (by_propose q) = (cc, cc)
voice_same (by_assent p) (by_assent q) = (cc, cc)

voice_no_receipt : {s : Saying} {h v : ℕ} {x : Outcome} {d k p : ℕ} → Voice s h v x d → says k (receipt p) ≡ s → ⊥
voice_no_receipt (by_propose e) q = cc
voice_no_receipt (by_assent e) q = cc

module _ {f : ℕ} {t : Seats} {s : Saying} {l : Log} (a : Allowed f t l s) (r : Rules f t l) where
  voice_kept : {h v : ℕ} {x y : Outcome} {d e : ℕ} → Honest f t h → Assented (s ∷ l) h v x d → Assented (s ∷ l) h v y e → (x ≡ y) × (d ≡ e)
  voice_kept {h} {v} {x} {y} {d} {e} o m n = go (assented_cases m) (assented_cases n)
    where
      go : Voice s h v x d ⊎ Assented l h v x d → Voice s h v y e ⊎ Assented l h v y e → (x ≡ y) × (d ≡ e)
      go (inl p) (inl q) = voice_same p q
      go (inl p) (inr q) = absurd ((voice_speaks a o p).silent y e q)
      go (inr p) (inl q) = absurd ((voice_speaks a o q).silent x d p)
      go (inr p) (inr q) = r.voice o p q

  grounds_kept : {h v : ℕ} {x : Outcome} {d : ℕ} → Honest f t h → Assented (s ∷ l) h v x d → Ground f t (s ∷ l) h v x d
  grounds_kept {v = v} {x} {d} o m =
      elim (assented_cases m) [
        | inl p ↦ ground_more (λ q z. voice_no_receipt p z) (voice_speaks a o p).ground
        | inr p ↦ ground_more (λ q z. (rw (← z) at a) o v x d p) (r.grounds o p)
      ]

  confirms_kept : {h v : ℕ} {x : Outcome} {d : ℕ} → Honest f t h → Confirmed (s ∷ l) h v x d → Supported f t (s ∷ l) v x d
  confirms_kept o m =
      elim (said_cases m) [ inl e ↦ supported_more ((rw (← e) at a) o).supported | inr k ↦ supported_more (r.confirms o k) ]

  moves_kept : {h w v : ℕ} {x : Outcome} {d : ℕ} {b : Brief} → Honest f t h → w < v → Confirmed (s ∷ l) h w x d → Moved (s ∷ l) h v b → AtLeast w b
  moves_kept {h} {w} {v} {x} {d} {b} o lt m n = go (said_cases m) (said_cases n)
    where
      go : (says h (confirm w x d) ≡ s) ⊎ Confirmed l h w x d → (says h (move v b) ≡ s) ⊎ Moved l h v b → AtLeast w b
      go (inl p) (inl q) = cc
      go (inl p) (inr q) = ((rw (← p) at a) o).still v b lt q
      go (inr p) (inl q) = ((rw (← q) at a) o).high w x d lt p
      go (inr p) (inr q) = r.moves o lt p q

  once_kept : {h v : ℕ} {b c : Brief} → Honest f t h → Moved (s ∷ l) h v b → Moved (s ∷ l) h v c → b ≡ c
  once_kept {h} {v} {b} {c} o m n = go (said_cases m) (said_cases n)
    where
      go : (says h (move v b) ≡ s) ⊎ Moved l h v b → (says h (move v c) ≡ s) ⊎ Moved l h v c → b ≡ c
      go (inl p) (inl q) = cc
      go (inl p) (inr q) = absurd (((rw (← p) at a) o).fresh c q)
      go (inr p) (inl q) = absurd (((rw (← q) at a) o).fresh b p)
      go (inr p) (inr q) = r.once o p q

  pub step : Rules f t (s ∷ l)
  step = record { voice = voice_kept; grounds = grounds_kept; confirms = confirms_kept; moves = moves_kept; once = once_kept }

pub fresh_rules : {f : ℕ} {t : Seats} → Rules f t []
fresh_rules =
    record {
      voice = λ o m n. absurd (none_assented m);
      grounds = λ o m. absurd (none_assented m);
      confirms = λ o m. absurd (none_said m);
      moves = λ o lt m n. absurd (none_said m);
      once = λ o m n. absurd (none_said m);
    }
