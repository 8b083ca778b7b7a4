-- What the deeds of a lock leave in force on a board.
use Rattle.std.proofs.Common.{◌≡◌, true, Some, None, Option, sym, refl, ◌∙◌, inl, inr, length-set}
use Rattle.std.proofs.lemmas.List.{get_or-set_other, get_or-set_same}
use Rattle.std.proofs.lemmas.Bool.{cond_both, cases_Bool, ltb-true, true≢false}
use Rattle.terms.specs.declared.numbers.KeyNumber.{KeyNumber}
use Rattle.terms.specs.declared.numbers.Place.{Place}
use Rattle.terms.specs.Numbers.{key}
use Rattle.boards.specs.declared.door.Door.{Door}
use Rattle.boards.specs.Boards.{Meaning, door, idle, how_many, has_place, in_force, staged_at, has_staged, with_door, settled, awaiting, stages, after_stage, after_take_over, after_drop}
use Rattle.agreement.proofs.Tools.{is_some}
use Rattle.steps.proofs.Replies.{none_some}

-- a board changes at one place alone
pub record Frame (b c : Meaning) (p : Place) : Type 0 where
  pub other : (q : Place) → (q.0 ≡ p.0 → ⊥) → in_force c q ≡ in_force b q
  pub size : how_many c ≡ how_many b

pub still : {b : Meaning} {p : Place} → Frame b b p
still = record { other = λ q e. refl; size = refl }

door_other : (b : Meaning) (p q : Place) (d : Door) → (q.0 ≡ p.0 → ⊥) → in_force (with_door b p d) q ≡ in_force b q
door_other b p q d ne = rw (length-set b.doors p.0 d, get_or-set_other b.doors p.0 q.0 d (idle (key 0)) ne) refl

framed : (b : Meaning) (p : Place) (d : Door) → Frame b (with_door b p d) p
framed b p d = record { other = λ q ne. door_other b p q d ne; size = length-set b.doors p.0 d }

door_same : (b : Meaning) (p : Place) (d : Door) → has_place b p ≡ true → in_force (with_door b p d) p ≡ Some d.force
door_same b p d e = rw (length-set b.doors p.0 d, e, get_or-set_same b.doors p.0 d (idle (key 0)) (ltb-true _ _ e)) refl

-- where there is a number there is a place
force_place : (b : Meaning) (p : Place) (n : KeyNumber) → in_force b p ≡ Some n → has_place b p ≡ true
force_place b p n e = elim (cases_Bool (has_place b p)) [ inl q ↦ q | inr q ↦ absurd (none_some refl (rw q at e)) ]

staged_place : (b : Meaning) (p : Place) (n : KeyNumber) → staged_at b p ≡ Some n → has_place b p ≡ true
staged_place b p n e = elim (cases_Bool (has_place b p)) [ inl q ↦ q | inr q ↦ absurd (none_some refl (rw q at e)) ]

pub record Leaves (b c : Meaning) (p : Place) : Type 0 where
  pub frame : Frame b c p
  pub same : in_force c p ≡ in_force b p

leaves : {b : Meaning} {p : Place} → Leaves b b p
leaves = record { frame = still; same = refl }

await_leaves : (b : Meaning) (p : Place) (o : Option KeyNumber) (n : KeyNumber) → in_force b p ≡ o → Leaves b (awaiting b p o n) p
await_leaves b p None n e = leaves
await_leaves b p (Some f) n e = record { frame = framed b p (door f (Some n)); same = door_same b p (door f (Some n)) (force_place b p f e) ∙ sym e }

pub stage_leaves : (b : Meaning) (p : Place) (n : KeyNumber) → Leaves b (after_stage b p n) p
stage_leaves b p n = cond_both (stages b p n) _ _ (λ c. Leaves b c p) (λ _. await_leaves b p (in_force b p) n refl) (λ _. leaves)

settle_leaves : (b : Meaning) (p : Place) (o : Option KeyNumber) → in_force b p ≡ o → Leaves b (settled b p o) p
settle_leaves b p None e = leaves
settle_leaves b p (Some f) e = record { frame = framed b p (idle f); same = door_same b p (idle f) (force_place b p f e) ∙ sym e }

pub drop_leaves : (b : Meaning) (p : Place) → Leaves b (after_drop b p) p
drop_leaves b p = cond_both (has_staged b p) _ _ (λ c. Leaves b c p) (λ _. settle_leaves b p (in_force b p) refl) (λ _. leaves)

pub record Takes (b c : Meaning) (p : Place) (n : KeyNumber) : Type 0 where
  pub frame : Frame b c p
  pub now : in_force c p ≡ Some n

settle_takes : (b : Meaning) (p : Place) (o : Option KeyNumber) (n : KeyNumber) → o ≡ Some n → has_place b p ≡ true → Takes b (settled b p o) p n
settle_takes b p None n e h = absurd (none_some refl e)
settle_takes b p (Some m) n e h = record { frame = framed b p (idle m); now = door_same b p (idle m) h ∙ e }

pub take_over : (b : Meaning) (p : Place) (n : KeyNumber) → staged_at b p ≡ Some n → Takes b (after_take_over b p) p n
take_over b p n e =
    let s : has_staged b p ≡ true = is_some e in
    cond_both (has_staged b p) _ _ (λ c. Takes b c p n) (λ _. settle_takes b p (staged_at b p) n e (staged_place b p n e)) (λ q. absurd (true≢false (sym s ∙ q)))
