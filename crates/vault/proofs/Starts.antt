-- A vault that was set up is the start of lists of calls.
use Rattle.std.proofs.Common.{◌≡◌, ℕ, zero, suc, ◌+◌, ◌*◌, ◌<◌, ◌≤◌, Bool, true, false, cond, ◌&&◌, leb, List, length, get_or, None, Ok, Result, sym, refl, ap, ◌∙◌, inl, inr, arith}
use Rattle.std.proofs.lemmas.List.Edits.{fill_by_more}
use Rattle.std.proofs.lemmas.Bool.{and_parts, cases_eq, cases_lt, le-ltb, leb-true, not-true}
use Rattle.terms.specs.declared.refusals.Refusal.{Refusal}
use Rattle.terms.specs.Numbers.{is_change, change, seat, place, within, key}
use Rattle.terms.specs.Sizes.{counts}
use Rattle.boards.specs.Boards.{Meaning, how_many, has_staged, staged_at, staged_of, idle}
use Rattle.controllers.specs.declared.controller.Controller.{Controller}
use Rattle.controllers.specs.Letters.{fresh_controller}
use Rattle.locks.specs.declared.lock.Lock.{Lock}
use Rattle.locks.specs.Fresh.{fresh_lock}
use Rattle.office.specs.Rules.{office}
use Rattle.seals.specs.Opening.{Relation}
use Rattle.agreement.specs.Runs.{SetUp}
use Rattle.vault.specs.declared.vault.Vault.{Vault}
use Rattle.vault.specs.SetUps.{renewed, new_controller, new_lock, unstaged_below, furnished, accepts, sets_up, Told, told, vault_set_up, controllers_set_up, locks_set_up, Starts}
use Rattle.vault.specs.Vaults.{constant, state}
use Rattle.steps.proofs.Replies.{is_none}
use Rattle.vault.proofs.Renews.{length_renewed}

-- the first n records are new
renewed_at : {U : Type 0} (new : ℕ → U) (n : ℕ) (us : List U) (h : ℕ) (d : U) → n ≤ length us → h < n → get_or (renewed new n us) h d ≡ new h
unfolding renewed
renewed_at new zero us h d l b = absurd (omega arith)
renewed_at new (suc n) us h d l b =
    fill_by_more new (renewed new n us) n d (omega (arith, length_renewed new n us)) (λ k c. renewed_at new n us k d (omega arith) c) h (omega arith)

-- a board that is idle at each of its places
idle_below : (m : Meaning) (n p : ℕ) → unstaged_below m n ≡ true → p < n → has_staged m (place p) ≡ false
unfolding unstaged_below
idle_below m zero p e l = absurd (omega arith)
idle_below m (suc n) p e l =
    let parts = and_parts (unstaged_below m n) _ e in
    elim (cases_eq p n) [ inl q ↦ ap (λ k. has_staged m (place k)) q ∙ not-true _ parts.1 | inr q ↦ idle_below m n p parts.0 (omega arith) ]

idle_board : (m : Meaning) → unstaged_below m (how_many m) ≡ true → (p : ℕ) → staged_at m (place p) ≡ None
idle_board m e p = elim (cases_lt p (how_many m)) [
  | inl l ↦ is_none (staged_at m (place p)) (idle_below m (how_many m) p e l)
  | inr l ↦ ap (λ b. staged_of (within b (get_or m.doors p (idle (key 0))))) (le-ltb p (how_many m) l)
]

-- what a set-up that was accepted tells of the vault
module _ (f l t : ℕ) (m : Meaning) (cs : List Controller) (ks : List Lock) where
  accepted : (b : Bool) (v : Vault) → told (Ok v) ≡ vault_set_up b f l t → (b ≡ true) × (told (Ok v) ≡ Ok (record { sizes = counts f l; change = change t; office = office false }))
  accepted true v e = (refl, e)
  accepted false v e = cc

  starts_with : (v : Vault) (cs' : List Controller) (ks' : List Lock) → sets_up f l t m cs ks ≡ true → v.sizes.faults ≡ f → v.sizes.locks ≡ l → v.change ≡ change t → v.office ≡ office false → cs' ≡ renewed new_controller (3 * f + 1) cs → ks' ≡ renewed new_lock l ks → (holds : Relation) → SetUp (constant v holds) (state cs' ks' v m)
  starts_with v cs' ks' fit ef el et eo ec ek holds =
      let right = (and_parts _ (accepts f l t m cs ks) fit).1 in
      let furnish = (and_parts (is_change t) _ right).1 in
      let tables = (and_parts _ (leb l (how_many m) && unstaged_below m (how_many m)) furnish).0 in
      let board = (and_parts (leb (3 * f + 1) (length cs) && leb l (length ks)) _ furnish).1 in
      let seats : 3 * f + 1 ≤ length cs = leb-true _ _ (and_parts _ (leb l (length ks)) tables).0 in
      let places : l ≤ length ks = leb-true _ _ (and_parts (leb (3 * f + 1) (length cs)) _ tables).1 in
      let doors : l ≤ how_many m = leb-true _ _ (and_parts _ (unstaged_below m (how_many m)) board).0 in
      record {
        numbered = ap (λ c. is_change c.0) et ∙ (and_parts _ (furnished f l m cs ks) right).0;
        seats = omega (arith, ap (λ (x : List Controller). length x) ec, length_renewed new_controller (3 * f + 1) cs, ef);
        new_controllers = λ h b. ap (λ x. get_or x h (fresh_controller (seat h))) ec ∙ renewed_at new_controller (3 * f + 1) cs h (fresh_controller (seat h)) seats (omega (arith, ef, b));
        places = omega (arith, ap (λ (x : List Lock). length x) ek, length_renewed new_lock l ks, el);
        new_locks = λ p b. ap (λ x. get_or x p (fresh_lock (place p))) ek ∙ renewed_at new_lock l ks p (fresh_lock (place p)) places (omega (arith, el, b));
        not_ordered = eo;
        doors = omega (arith, doors, el);
        unstaged = idle_board m (and_parts (leb l (how_many m)) _ board).1;
      }

  pub starts : (r : Result Vault Refusal) (cs' : List Controller) (ks' : List Lock) → told r ≡ vault_set_up (sets_up f l t m cs ks) f l t → cs' ≡ controllers_set_up (sets_up f l t m cs ks) f cs → ks' ≡ locks_set_up (sets_up f l t m cs ks) l ks → Starts r cs' ks' m
  starts r cs' ks' a ec ek v holds e =
      let got = accepted (sets_up f l t m cs ks) v (sym (ap told e) ∙ a) in
      let fit = got.0 in
      let same : ◌≡◌ {A = Told} (record { sizes = counts v.sizes.faults v.sizes.locks; change = v.change; office = v.office }) (record { sizes = counts f l; change = change t; office = office false }) = cc in
      starts_with v cs' ks' fit (ap (λ (x : Told). x.sizes.faults) same) (ap (λ (x : Told). x.sizes.locks) same) (ap (λ (x : Told). x.change) same) (ap (λ (x : Told). x.office) same)
      (ec ∙ ap (λ b. cond b (renewed new_controller (3 * f + 1) cs) cs) fit) (ek ∙ ap (λ b. cond b (renewed new_lock l ks) ks) fit) holds
