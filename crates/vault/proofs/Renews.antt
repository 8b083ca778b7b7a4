-- Records made new one after the other, and places found idle one after the other.
use Rattle.std.proofs.Common.{◌≡◌, ℕ, zero, suc, ◌+◌, Bool, true, false, cond, not, ◌&&◌, List, length, set, Ok, Err, refl, ap, ◌∙◌, add-one, length-set}
use Rattle.terms.specs.declared.refusals.Refusal.{Refusal}
use Rattle.terms.specs.Numbers.{place}
use Rattle.terms.specs.Refusals.{set_up}
use Rattle.terms.specs.Sizes.{counts}
use Rattle.boards.specs.Boards.{Meaning, has_staged}
use Rattle.controllers.specs.declared.controller.Controller.{Controller}
use Rattle.locks.specs.declared.lock.Lock.{Lock}
use Rattle.vault.specs.SetUps.{renewed, unstaged_below, vault_set_up, controllers_set_up, locks_set_up}

pub renewed_none : {U : Type 0} (new : ℕ → U) (us : List U) → renewed new 0 us ≡ us
unfolding renewed
renewed_none new us = refl

pub renewed_more : {U : Type 0} (new : ℕ → U) (n : ℕ) (us : List U) → renewed new (n + 1) us ≡ set (renewed new n us) n (new n)
unfolding renewed
renewed_more new n us = ap (λ k. renewed new k us) (add-one n)

pub length_renewed : {U : Type 0} (new : ℕ → U) (n : ℕ) (us : List U) → length (renewed new n us) ≡ length us
unfolding renewed
length_renewed new zero us = refl
length_renewed new (suc n) us = length-set (renewed new n us) n (new n) ∙ length_renewed new n us

pub unstaged_none : (m : Meaning) → unstaged_below m 0 ≡ true
unfolding unstaged_below
unstaged_none m = refl

pub unstaged_more : (m : Meaning) (n : ℕ) → unstaged_below m (n + 1) ≡ (unstaged_below m n && not (has_staged m (place n)))
unfolding unstaged_below
unstaged_more m n = ap (unstaged_below m) (add-one n)

-- sizes that are refused leave all as it was
pub record LeftAlone (fits : Bool) (f l t : ℕ) (e : Refusal) (cs : List Controller) (ks : List Lock) : Type 0 where
  pub answer : Err e ≡ vault_set_up fits f l t
  pub controllers : cs ≡ controllers_set_up fits f cs
  pub locks : ks ≡ locks_set_up fits l ks

pub left_alone : (b rest : Bool) (f l t : ℕ) (e : Refusal) (cs : List Controller) (ks : List Lock) → Err e ≡ cond b (Ok (counts f l)) (Err set_up) → LeftAlone (b && rest) f l t e cs ks
left_alone true rest f l t e cs ks r = cc
left_alone false rest f l t e cs ks r = let same : e ≡ set_up = cc in record { answer = ap Err same; controllers = refl; locks = refl }
