-- What the log says of an honest lock, and that each rule keeps it.
use Rattle.std.proofs.Common.{◌≡◌, ℕ, suc, ◌+◌, ◌*◌, ◌<◌, ◌≤◌, Bool, true, false, not, ◌&&◌, ◌||◌, eqb, ltb, leb, ◌⊎◌, [], ◌∷◌, ◌++◌, length, get_or, is_some as option_is_some, Some, None, Ok, Err, Option, Result as Res, refl, ap, ◌∙◌, subst, inl, inr, arith, length-set}
use Rattle.std.proofs.lemmas.List.{get_or-set_other, get_or-set_same}
use Rattle.std.proofs.lemmas.Bool.{cond_both, cases_eq, eqb-true, eq-eqb, ne_eqb, leb-true, ltb-false, or_parts, not-false, true≢false}
use Rattle.terms.specs.declared.numbers.KeyNumber.{KeyNumber}
use Rattle.terms.specs.declared.numbers.Place.{Place}
use Rattle.terms.specs.declared.numbers.Seat.{Seat}
use Rattle.terms.specs.declared.parties.Outcome.{Outcome}
use Rattle.terms.specs.declared.parties.Outcome.TheVariants.{Keep, Number}
use Rattle.terms.specs.declared.refusals.RuleCause.{RuleCause}
use Rattle.terms.specs.Numbers.{place}
use Rattle.terms.specs.Sizes.{quorum_of}
use Rattle.letters.specs.declared.sorts.Answer.TheVariants as A
use Rattle.letters.specs.declared.bodies.Body.TheVariants as B
use Rattle.ballots.specs.declared.Receipted.{Receipted}
use Rattle.ballots.specs.Counts.{votes_for, count_agree}
use Rattle.ballots.specs.Kinds.{always_agree, same_outcome}
use Rattle.boards.specs.Boards.{Meaning, in_force, staged_at, stages}
use Rattle.posting.specs.declared.few.AtMostTwo.TheVariants.{Nothing, One}
use Rattle.posting.specs.Replies.{Bodies}
use Rattle.locks.specs.declared.lock.Lock.{Lock}
use Rattle.locks.specs.declared.lock.Standing.{Standing}
use Rattle.locks.specs.declared.lock.Standing.TheVariants as S
use Rattle.locks.specs.Fresh.{fresh_lock}
use Rattle.locks.specs.Rules as L
use Rattle.locks.specs.Rules.{rank, Deed, nothing, stages_there, takes_over_there, drops_there, refused, served, deed_done, passing}
use Rattle.agreement.specs.Seats.{Seats, count}
use Rattle.agreement.specs.Calls.{Vault}
use Rattle.agreement.proofs.Meet.{seats, Honest}
use Rattle.agreement.proofs.Words.{receipt, ready, result, Saying, says, Log, Said, there, spoken, lock_party}
use Rattle.agreement.proofs.Core.{Receipt, Ready}
use Rattle.agreement.proofs.Kept.{said_cases, none_said}
use Rattle.agreement.proofs.Tools.{same_number_lem, count_same, count_with, agree_count}
use Rattle.agreement.proofs.Mirror.{faults}
use Rattle.agreement.proofs.Doors.{Frame, still, stage_leaves, drop_leaves, take_over}
use Rattle.steps.proofs.Replies.{none_some, not_refused}
use Rattle.steps.proofs.Rows.{row_cases, blank_row}

-- s is no ready vote of lock p
abbrev pub Quiet : Saying → ℕ → Type 0
Quiet s p = (n : KeyNumber) → says (lock_party p) (ready (Some n)) ≡ s → ⊥

-- the seats whose receipts are recorded, and those that said an outcome
abbrev pub receipts_of : Lock → Seats
receipts_of k h = option_is_some (get_or k.receipts h None)

abbrev pub results_of : Lock → Outcome → Seats
results_of k x h = votes_for same_outcome x (get_or k.results h None)

-- a seat of the vault, and what it said if it is honest
pub record Told (R : Vault) (t : Seats) (h : ℕ) (P : Type 0) : Type 0 where
  pub seat : h < seats (faults R)
  pub said : Honest (faults R) t h → P

-- the lock changed to the number in force
pub record Turned (R : Vault) (k : Lock) (force : Option KeyNumber) : Type 0 where
  pub number : KeyNumber
  pub now : force ≡ Some number
  pub results : faults R + 1 ≤ count (results_of k (Number number)) (seats (faults R))

pub record LockInv (R : Vault) (t : Seats) (l : Log) (p : ℕ) (was : Option KeyNumber) (k : Lock) (force : Option KeyNumber) (served : ℕ) : Type 0 where
  pub slots : length k.receipts ≡ 16
  pub receipts : (h : ℕ) (y : Receipted) → get_or k.receipts h None ≡ Some y → Told R t h (Receipt l h p)
  pub results : (h : ℕ) (x : Outcome) → get_or k.results h None ≡ Some x → Told R t h (Said (says h (result x)) l)
  pub counted : served ≤ count (receipts_of k) (seats (faults R))
  pub enrolled : 2 ≤ rank k.standing → 2 * faults R + 1 ≤ count (receipts_of k) (seats (faults R))
  pub unsaid : rank k.standing ≤ 2 → (n : KeyNumber) → Ready l p n → ⊥
  pub kept : rank k.standing ≡ 5 → ((n : KeyNumber) → Ready l p n → ⊥) ⊎ (faults R + 1 ≤ count (results_of k Keep) (seats (faults R)))
  pub changed : rank k.standing ≡ 4 → Turned R k force
  pub stays : (rank k.standing ≡ 4 → ⊥) → force ≡ was

told_more : {R : Vault} {t : Seats} {h : ℕ} {s w : Saying} {l : Log} → Told R t h (Said w l) → Told R t h (Said w (s ∷ l))
told_more m = record { seat = m.seat; said = λ o. there (m.said o) }

pub lock_more : {R : Vault} {t : Seats} {l : Log} {s : Saying} {p : ℕ} {was : Option KeyNumber} {k : Lock} {force : Option KeyNumber} {n : ℕ} → Quiet s p → LockInv R t l p was k force n → LockInv R t (s ∷ l) p was k force n
lock_more {s = s} q m = record {
  slots = m.slots;
  receipts = λ h y e. told_more (m.receipts h y e);
  results = λ h x e. told_more (m.results h x e);
  counted = m.counted;
  enrolled = m.enrolled;
  unsaid = λ le n a. elim (said_cases a) [ inl e ↦ q n e | inr b ↦ m.unsaid le n b ];
  kept = λ e. elim (m.kept e) [ inl z ↦ inl (λ n a. elim (said_cases a) [ inl e ↦ q n e | inr b ↦ z n b ]) | inr z ↦ inr z ];
  changed = m.changed;
  stays = m.stays;
}

-- a lock that has not ended comes to another standing
stands_otherwise : {R : Vault} {t : Seats} {l : Log} {p : ℕ} {was : Option KeyNumber} {k : Lock} {force : Option KeyNumber} {n : ℕ} → LockInv R t l p was k force n → (s : Standing) → rank k.standing ≤ 3
    → (rank s ≡ 4 → ⊥) → (2 ≤ rank s → 2 ≤ rank k.standing) → (rank s ≤ 2 → rank k.standing ≤ 2) → (rank s ≡ 5 → rank k.standing ≤ 2) → LockInv R t l p was (L.with_standing k s) force (0 + n)
stands_otherwise i s low unchanged enrolled unsaid kept = record {
  slots = i.slots;
  receipts = i.receipts;
  results = i.results;
  counted = omega (arith, i.counted);
  enrolled = λ le. i.enrolled (enrolled le);
  unsaid = λ le. i.unsaid (unsaid le);
  kept = λ e. inl (i.unsaid (kept e));
  changed = λ e. absurd (unchanged e);
  stays = λ e. i.stays (λ z. omega (arith, low));
}

pub lock_blank : (R : Vault) (t : Seats) (p : ℕ) (was : Option KeyNumber) → LockInv R t [] p was (fresh_lock (place p)) was 0
lock_blank R t p was = record {
  slots = refl;
  receipts = λ h y e. absurd (none_some (blank_row 16 h) e);
  results = λ h x e. absurd (none_some (blank_row 16 h) e);
  counted = omega arith;
  enrolled = λ le. absurd (omega arith);
  unsaid = λ le n a. none_said a;
  kept = λ e. absurd (omega arith);
  changed = λ e. absurd (omega arith);
  stays = λ e. refl;
}

-- what a lock's reply leaves: its place, the other places of the board, and what the log says of it if it is honest;
-- `more` is 1 if a receipt was served
pub data Fine (R : Vault) (t : Seats) (l : Log) (was : Option KeyNumber) (k : Lock) (m : Meaning) (more n : ℕ) : L.Reply → Type 0 where
  no : {e : RuleCause} → Fine R t l was k m more n (refused e)
  yes : {j : Lock} {d : Deed} {bs : Bodies} → j.place ≡ k.place → Frame m (deed_done m k.place d) k.place
      → (t (lock_party k.place.0) ≡ false → LockInv R t (spoken bs ++ l) k.place.0 was j (in_force (deed_done m k.place d) k.place) (more + n))
      → Fine R t l was k m more n (served j d bs)

pass : {R : Vault} {t : Seats} {l : Log} {was : Option KeyNumber} {k : Lock} {m : Meaning} {more n : ℕ} (gate : Res (Unit {0}) RuleCause) (rest : L.Reply) → (gate ≡ Ok tt → Fine R t l was k m more n rest) → Fine R t l was k m more n (passing gate rest)
pass (Err e) rest k = no
pass (Ok x) rest k = k refl

always_some : (v : Receipted) (o : Option Receipted) → votes_for always_agree v o ≡ option_is_some o
always_some v None = refl
always_some v (Some w) = refl

staged_is : (s : Option KeyNumber) (n : KeyNumber) → not (L.is_staged s n) ≡ false → s ≡ Some n
staged_is None n e = absurd (true≢false e)
staged_is (Some m) n e = ap Some (same_number_lem m n (eqb-true m.0 n.0 (not-false _ e)))

module _ {R : Vault} {t : Seats} {l : Log} {was : Option KeyNumber} {m : Meaning} {n : ℕ} (k : Lock) (inv : t (lock_party k.place.0) ≡ false → LockInv R t l k.place.0 was k (in_force m k.place) n) where
  pub enrol_fine : Fine R t l was k m 0 n (L.enrol_rule k)
  enrol_fine = pass (L.may_apply k) _ (λ q. yes {j = L.with_standing k S.Applied} {bs = One (B.Enrol k.place)} refl still (λ o.
      let new : rank k.standing ≡ 0 = eqb-true _ _ (not-false _ (not_refused (not (eqb (rank k.standing) 0)) _ _ _ q).0) in
      lock_more (λ n e. cc) (stands_otherwise (inv o) S.Applied (omega arith) (λ e. omega arith) (λ e. omega arith) (λ e. omega arith) (λ e. omega arith))))

  pub decline_fine : Fine R t l was k m 0 n (L.decline_rule k)
  decline_fine = pass (L.may_decline k) _ (λ q. yes {j = L.with_standing k S.Kept} {bs = Nothing} refl still (λ o.
      let en : rank k.standing ≡ 2 = eqb-true _ _ (not-false _ (not_refused (not (eqb (rank k.standing) 2)) _ _ _ q).0) in
      stands_otherwise (inv o) S.Kept (omega arith) (λ e. omega arith) (λ e. omega arith) (λ e. omega arith) (λ e. omega arith)))

  pub summons_fine : (x : KeyNumber) → Fine R t l was k m 0 n (L.summons_rule k m x)
  summons_fine x = pass (L.may_summon k) _ (λ q.
      let a = not_refused (ltb (rank k.standing) 2) _ _ _ q in
      let b = not_refused (ltb 2 (rank k.standing)) _ _ _ a.1 in
      go (stages m k.place x) (omega (arith, ltb-false _ _ a.0, ltb-false _ _ b.0)))
    where
      go : (s : Bool) → rank k.standing ≡ 2 → Fine R t l was k m 0 n (L.summoned k s x)
      go true en = yes {j = L.with_standing k S.Ready} {bs = One (B.Vote k.place x A.Ready)} refl (stage_leaves m k.place x).frame (λ o. let i = inv o in rw (stage_leaves m k.place x).same (record {
        slots = i.slots;
        receipts = λ h y e. told_more (i.receipts h y e);
        results = λ h x e. told_more (i.results h x e);
        counted = omega (arith, i.counted);
        enrolled = λ le. i.enrolled (omega arith);
        unsaid = λ le. absurd (omega arith);
        kept = λ e. absurd (omega arith);
        changed = λ e. absurd (omega arith);
        stays = λ e. i.stays (λ z. omega arith);
      }))
      go false en = yes {j = L.with_standing k S.Kept} {bs = One (B.Vote k.place x A.Refuse)} refl still (λ o.
          lock_more (λ n e. cc) (stands_otherwise (inv o) S.Kept (omega arith) (λ e. omega arith) (λ e. omega arith) (λ e. omega arith) (λ e. omega arith)))

  pub receipt_fine : (h : Seat) (q : Place) → h.0 < seats (faults R) → (t h.0 ≡ false → Said (says h.0 (receipt q.0)) l) → Fine R t l was k m 1 n (L.receipt_rule R.sizes k h q)
  receipt_fine h q below said = pass (L.may_receipt k h q) _ (λ e.
      let a = not_refused (not (eqb q.0 k.place.0)) _ _ _ e in
      let b = not_refused (eqb (rank k.standing) 0) _ _ _ a.1 in
      let c = not_refused (option_is_some (get_or k.receipts h.0 None) || ltb 1 (rank k.standing)) _ _ _ b.1 in
      let d = or_parts (option_is_some (get_or k.receipts h.0 None)) _ c.0 in
      let at : q.0 ≡ k.place.0 = eqb-true _ _ (not-false _ a.0) in
      let past : rank k.standing ≤ 1 = ltb-false _ _ d.1 in
      cond_both (leb (quorum_of R.sizes) (count_agree always_agree _ recorded.receipts)) _ _ (λ j. Fine R t l was k m 1 n (served j nothing Nothing))
      (λ full. yes {j = L.with_standing recorded S.Enrolled} {bs = Nothing} refl still (λ o. let i = inv o in record {
        slots = length-set k.receipts h.0 _ ∙ i.slots;
        receipts = heard at i;
        results = i.results;
        counted = omega (arith, one_more i d.0, i.counted);
        enrolled = λ le. omega (arith, leb-true _ _ full, enough at i);
        unsaid = λ le. i.unsaid (omega arith);
        kept = λ e. absurd (omega arith);
        changed = λ e. absurd (omega arith);
        stays = λ e. i.stays (λ z. omega arith);
      }))
      (λ _. yes {j = recorded} {bs = Nothing} refl still (λ o. let i = inv o in record {
        slots = length-set k.receipts h.0 _ ∙ i.slots;
        receipts = heard at i;
        results = i.results;
        counted = omega (arith, one_more i d.0, i.counted);
        enrolled = λ le. absurd (omega arith);
        unsaid = i.unsaid;
        kept = λ e. absurd (omega arith);
        changed = λ e. absurd (omega arith);
        stays = i.stays;
      })))
    where
      recorded : Lock
      recorded = L.receipted k h

      Inv : Type 0
      Inv = LockInv R t l k.place.0 was k (in_force m k.place) n

      heard : q.0 ≡ k.place.0 → Inv → (j : ℕ) (y : Receipted) → get_or recorded.receipts j None ≡ Some y → Told R t j (Receipt l j k.place.0)
      heard at i j y r = elim (row_cases k.receipts h.0 j _ y r) [ inl w ↦ rw w.0 (record { seat = below; said = λ o. rw at at (said o.loyal) }) | inr w ↦ i.receipts j y w ]

      enough : q.0 ≡ k.place.0 → Inv → count_agree always_agree _ recorded.receipts ≤ count (receipts_of recorded) (seats (faults R))
      enough at i = omega (arith, agree_count always_agree _ recorded.receipts (seats (faults R)) (λ j y e. (heard at i j y e).seat), count_same (λ j. votes_for always_agree _ (get_or recorded.receipts j None)) (receipts_of recorded) (seats (faults R)) (λ j lt. always_some _ (get_or recorded.receipts j None)))

      one_more : Inv → option_is_some (get_or k.receipts h.0 None) ≡ false → count (receipts_of recorded) (seats (faults R)) ≡ suc (count (receipts_of k) (seats (faults R)))
      one_more i none =
          count_same (receipts_of recorded) (λ j. eqb j h.0 || receipts_of k j) (seats (faults R)) (λ j lt. elim (cases_eq j h.0) [
            | inl e ↦ rw (e, eq-eqb h.0 h.0 refl, get_or-set_same k.receipts h.0 (Some (record {})) None (omega (arith, i.slots, below, R.sizes.faults_range))) refl
            | inr e ↦ rw (ne_eqb j h.0 e, get_or-set_other k.receipts h.0 j (Some (record {})) None e) refl
          ])
          ∙ count_with (receipts_of k) h.0 (seats (faults R)) below none

  pub result_fine : (h : Seat) (x : Outcome) → h.0 < seats (faults R) → (t h.0 ≡ false → Said (says h.0 (result x)) l) → Fine R t l was k m 0 n (L.result_rule R.sizes k m h x)
  result_fine h x below said = pass (L.may_result k m h x) _ (λ e.
      let a = not_refused (ltb (rank k.standing) 2) _ _ _ e in
      let b = not_refused (ltb 3 (rank k.standing)) _ _ _ a.1 in
      let c = not_refused (L.is_number x && eqb (rank k.standing) 2) _ _ _ b.1 in
      let d = not_refused (L.strange (staged_at m k.place) x) _ _ _ c.1 in
      cond_both (leb (faults R + 1) (count_agree same_outcome x recorded.results)) _ _ (Fine R t l was k m 0 n)
      (λ full. ends x refl (ltb-false _ _ a.0) (ltb-false _ _ b.0) d.0 (leb-true _ _ full))
      (λ _. yes {j = recorded} {bs = Nothing} refl still (λ o. let i = inv o in record {
        slots = i.slots;
        receipts = i.receipts;
        results = heard i;
        counted = omega (arith, i.counted);
        enrolled = i.enrolled;
        unsaid = i.unsaid;
        kept = λ e. absurd (omega (arith, ltb-false _ _ b.0));
        changed = λ e. absurd (omega (arith, ltb-false _ _ b.0));
        stays = i.stays;
      })))
    where
      recorded : Lock
      recorded = L.resulted k h x

      Inv : Type 0
      Inv = LockInv R t l k.place.0 was k (in_force m k.place) n

      heard : Inv → (j : ℕ) (y : Outcome) → get_or recorded.results j None ≡ Some y → Told R t j (Said (says j (result y)) l)
      heard i j y r = elim (row_cases k.results h.0 j x y r) [ inl w ↦ rw (w.0, ← w.1) (record { seat = below; said = λ o. said o.loyal }) | inr w ↦ i.results j y w ]

      enough : Inv → count_agree same_outcome x recorded.results ≤ count (results_of recorded x) (seats (faults R))
      enough i = agree_count same_outcome x recorded.results (seats (faults R)) (λ j y e. (heard i j y e).seat)

      many : Inv → faults R + 1 ≤ count_agree same_outcome x recorded.results → (y : Outcome) → x ≡ y → faults R + 1 ≤ count (results_of recorded y) (seats (faults R))
      many i full y e = subst (λ (z : Outcome). faults R + 1 ≤ count (results_of recorded z) (seats (faults R))) e (omega (arith, full, enough i))

      ends : (y : Outcome) → x ≡ y → 2 ≤ rank k.standing → rank k.standing ≤ 3 → L.strange (staged_at m k.place) y ≡ false → faults R + 1 ≤ count_agree same_outcome x recorded.results → Fine R t l was k m 0 n (L.ended_by recorded y)
      ends Keep e early late known full = yes {j = L.with_standing recorded S.Kept} {bs = Nothing} refl (drop_leaves m k.place).frame (λ o. let i = inv o in rw (drop_leaves m k.place).same (record {
        slots = i.slots;
        receipts = i.receipts;
        results = heard i;
        counted = omega (arith, i.counted);
        enrolled = λ le. i.enrolled early;
        unsaid = λ le. absurd (omega arith);
        kept = λ _. inr (many i full Keep e);
        changed = λ e. absurd (omega arith);
        stays = λ e. i.stays (λ z. omega arith);
      }))
      ends (Number z) e early late known full =
          let taken = take_over m k.place z (staged_is (staged_at m k.place) z known) in
          yes {j = L.with_standing recorded S.Changed} {bs = Nothing} refl taken.frame (λ o. let i = inv o in record {
            slots = i.slots;
            receipts = i.receipts;
            results = heard i;
            counted = omega (arith, i.counted);
            enrolled = λ le. i.enrolled early;
            unsaid = λ le. absurd (omega arith);
            kept = λ e. absurd (omega arith);
            changed = λ _. record { number = z; now = taken.now; results = many i full (Number z) e };
            stays = λ e. absurd (e refl);
          })
