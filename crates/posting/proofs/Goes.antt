-- A call that ended by what its rule replied goes by that rule.
use Rattle.std.proofs.Common.{◌≡◌, ◌↔◌, ℕ, ◌≤◌, Bool, true, false, cond, ◌&&◌, List, length, is_ok as isOk, Ok, Err, Result, sym, refl, ap, ◌∙◌, arith}
use Rattle.std.proofs.lemmas.Bool.Decides.{nat_tests}
use Rattle.terms.specs.declared.numbers.Change.{Change}
use Rattle.terms.specs.declared.refusals.Refusal.{Refusal}
use Rattle.terms.specs.declared.refusals.RuleCause.{RuleCause}
use Rattle.terms.specs.Refusals.{layer_number, layer_of, no_room}
use Rattle.letters.specs.declared.sorts.Seal.{Seal}
use Rattle.letters.specs.Bytes.{written}
use Rattle.seals.specs.Opening.{Relation}
use Rattle.seals.specs.Scratch.{roomy, cleared, scratch_after}
use Rattle.posting.specs.declared.few.AtMostTwo.{AtMostTwo}
use Rattle.posting.specs.declared.few.Posted.{Posted}
use Rattle.posting.specs.declared.few.Seals.{Seals}
use Rattle.posting.specs.Calls.{enough, has_room, room_answer, ruled, pointed, Went, went, finished, called, reply_sealed, Goes, Ending, ending, ended, sent_sealed, answered, keeping}
use Rattle.posting.specs.Posting.{are_words, fits, bytes_of, lengths_of, no_seals, seals_in}
use Rattle.posting.specs.Replies.{Bodies, Reply, refused, served, sends, after}
use Rattle.posting.proofs.Writes.{cleared_twice, length_cleared}

false_true : false ≡ true → ⊥
false_true e = let z : ◌≡◌ {A = ℕ} 0 1 = ap (λ b. cond b 1 0) e in omega arith

-- ---- the room that a call has asked for

abbrev answer_of_room : Bool → Result (Unit {0}) Refusal
answer_of_room b = cond b (Ok tt) (Err no_room)

has : (b : Bool) (x : Unit {0}) → Ok x ≡ answer_of_room b → b ≡ true
has true x e = refl
has false x e = let z : ◌≡◌ {A = ℕ} 0 1 = cc in absurd (omega arith)

has_not : (b : Bool) (x : Refusal) → Err x ≡ answer_of_room b → b ≡ false
has_not true x e = let z : ◌≡◌ {A = ℕ} 0 1 = cc in absurd (omega arith)
has_not false x e = refl

pub has_room_lem : (out scratch : List ℕ) (x : Unit {0}) → Ok x ≡ room_answer (length out) (length scratch) → has_room out scratch ≡ true
has_room_lem out scratch x e = has (has_room out scratch) x e

pub has_no_room : (out scratch : List ℕ) (x : Refusal) → Err x ≡ room_answer (length out) (length scratch) → has_room out scratch ≡ false
has_no_room out scratch x e = has_not (has_room out scratch) x e

abbrev refusal_in : Result (Unit {0}) Refusal → Refusal
refusal_in (Ok x) = no_room
refusal_in (Err e) = e

-- a call that found too little room
pub goes_nowhere :
    {U : Type 0} (holds : Relation) (t : Change) (u : U) (out scratch : List ℕ) (rule : Seal → Reply Refusal U) (a : Result (AtMostTwo ℕ) Refusal) (x : Refusal) →
    Err x ≡ room_answer (length out) (length scratch) → a ≡ Err x → Goes holds t u out scratch rule (went a u out scratch)
goes_nowhere holds t u out scratch rule a x e k =
    let h = has_no_room out scratch x e in
    record {
      seals = no_seals;
      words = refl;
      goes =
          ap (λ y. went y u out scratch) k
          ∙ ap (λ y. went (Err y) u out scratch) (ap refusal_in e ∙ ap (λ b. refusal_in (answer_of_room b)) h)
          ∙ sym (ap (λ b. cond b (finished t u out scratch no_seals (rule no_seals.first)) (went (Err no_room) u out scratch)) h);
      sealed = λ o. absurd (false_true (sym (ap isOk k) ∙ o));
    }

-- ---- the end of a call

pub scratch_room : (out scratch : List ℕ) → has_room out scratch ≡ true → roomy scratch ≡ true
scratch_room out scratch h = grind (arith, nat_tests)

roomy_long : (scratch : List ℕ) → roomy scratch ≡ true → 24 ≤ length scratch
roomy_long scratch h = grind (arith, nat_tests)

-- 3 for a refusal by the rules, 4 for want of room
abbrev layer : Result (AtMostTwo ℕ) Refusal → ℕ
layer (Ok l) = 0
layer (Err e) = layer_number (layer_of e.cause)

module _ {U : Type 0} (t : Change) (sender : ℕ) (u : U) (out scratch : List ℕ) where
  -- by whether the letters fit
  served-goes :
      (zs : Seals) (v : U) (bs : Bodies) (f : Bool) →
      went (answered (cond f (Ok (record { lengths = lengths_of t bs zs; seals = zs })) (Err no_room)))
      (keeping u v (cond f (Ok (record { lengths = lengths_of t bs zs; seals = zs })) (Err no_room)))
      (cond f (written (bytes_of t bs zs) out) out) (cleared scratch)
      ≡ cond f (went (Ok (lengths_of t bs zs)) v (written (bytes_of t bs zs) out) (cleared scratch)) (went (Err no_room) u out (cleared scratch))
  served-goes zs v bs true = refl
  served-goes zs v bs false = refl

  after-ending :
      (zs : Seals) (r : Reply RuleCause U) (h : Bool) → roomy scratch ≡ h → h ≡ true →
      went (answered (ended t sender (sends r) zs out scratch).answer) (keeping u (after u r) (ended t sender (sends r) zs out scratch).answer)
      (ended t sender (sends r) zs out scratch).out (ended t sender (sends r) zs out scratch).scratch
      ≡ finished t u out scratch zs (pointed sender r)
  after-ending zs (refused c) h e x = ap (λ b. went (Err (ruled c sender)) u out (cond b (cleared scratch) scratch)) (e ∙ x)
  after-ending zs (served v bs) h e x =
      ap (λ b. went (answered (cond (b && fits t bs out) (Ok (record { lengths = lengths_of t bs zs; seals = zs })) (Err no_room)))
      (keeping u v (cond (b && fits t bs out) (Ok (record { lengths = lengths_of t bs zs; seals = zs })) (Err no_room)))
      (cond (b && fits t bs out) (written (bytes_of t bs zs) out) out) (cond b (cleared scratch) scratch)) (e ∙ x)
      ∙ served-goes zs v bs (fits t bs out)

  pub ended-called :
      (zs : Seals) (r : Reply RuleCause U) (a : Result Posted Refusal) (out' scratch' : List ℕ) → has_room out scratch ≡ true →
      ending a out' scratch' ≡ ended t sender (sends r) zs out scratch →
      went (answered a) (keeping u (after u r) a) out' scratch' ≡ called t u out scratch zs (pointed sender r)
  ended-called zs r a out' scratch' h e =
      ap (λ (x : Ending). went (answered x.answer) (keeping u (after u r) x.answer) x.out x.scratch) e
      ∙ after-ending zs r _ refl (scratch_room out scratch h)
      ∙ sym (ap (λ b. cond b (finished t u out scratch zs (pointed sender r)) (went (Err no_room) u out scratch)) h)

  reply_sealed_holds : (holds : Relation) (zs : Seals) (r : Reply RuleCause U) → sent_sealed holds t (sends r) zs ≡ true → reply_sealed holds t zs (pointed sender r) ≡ true
  reply_sealed_holds holds zs (refused c) e = refl
  reply_sealed_holds holds zs (served v bs) e = e

  is_ok : (a : Result Posted Refusal) → isOk (answered a) ≡ true → isOk a ≡ true
  is_ok (Ok p) e = refl
  is_ok (Err x) e = e

  -- a call that works on a copy of the unit and stores it last
  pub goes-copied :
      (holds : Relation) (rule : Seal → Reply RuleCause U) (reply : Result Bodies RuleCause) (a : Result Posted Refusal) (ans : Result (AtMostTwo ℕ) Refusal) (v : U) (out' scratch' : List ℕ) →
      Ok tt ≡ room_answer (length out) (length scratch) →
      reply ≡ sends (rule (seals_in a).first) →
      v ≡ keeping u (after u (rule (seals_in a).first)) a →
      ending a out' scratch' ≡ ended t sender reply (seals_in a) out scratch →
      are_words (seals_in a) ≡ true →
      (isOk a ≡ true → sent_sealed holds t reply (seals_in a) ≡ true) →
      ans ≡ answered a →
      Goes holds t u out scratch (λ z. pointed sender (rule z)) (went ans v out' scratch')
  goes-copied holds rule reply a ans v out' scratch' h p n e x s k = record {
    seals = seals_in a;
    words = x;
    goes =
        ap (λ y. went y v out' scratch') k
        ∙ ap (λ y. went (answered a) y out' scratch') n
        ∙ ended-called (seals_in a) (rule (seals_in a).first) a out' scratch' (has_room_lem out scratch tt h) (e ∙ ap (λ y. ended t sender y (seals_in a) out scratch) p);
    sealed = λ o. reply_sealed_holds holds (seals_in a) (rule (seals_in a).first) (sym (ap (λ y. sent_sealed holds t y (seals_in a)) p) ∙ s (is_ok a (sym (ap isOk k) ∙ o)));
  }

  -- what a served call sends fits
  abbrev pub AllFit : Reply RuleCause U → Type 0
  AllFit (refused c) = Unit {0}
  AllFit (served v bs) = fits t bs out ≡ true

  in_place : (zs : Seals) (r : Reply RuleCause U) (a : Result Posted Refusal) → roomy scratch ≡ true → AllFit r → a ≡ (ended t sender (sends r) zs out scratch).answer → keeping u (after u r) a ≡ after u r
  in_place zs (refused c) a h f e = ap (keeping u u) e
  in_place zs (served v bs) a h f e =
      ap (keeping u v) e
      ∙ ap (λ b. keeping u v (cond (b && fits t bs out) (Ok (record { lengths = lengths_of t bs zs; seals = zs })) (Err no_room))) h
      ∙ ap (λ b. keeping u v (cond b (Ok (record { lengths = lengths_of t bs zs; seals = zs })) (Err no_room))) f

  -- a call whose letters always fit changes the unit at once
  pub goes-in-place :
      (holds : Relation) (r : Reply RuleCause U) (reply : Result Bodies RuleCause) (a : Result Posted Refusal) (ans : Result (AtMostTwo ℕ) Refusal) (v : U) (out' scratch' : List ℕ) →
      Ok tt ≡ room_answer (length out) (length scratch) → (has_room out scratch ≡ true → AllFit r) →
      reply ≡ sends r →
      v ≡ after u r →
      ending a out' scratch' ≡ ended t sender reply (seals_in a) out scratch →
      are_words (seals_in a) ≡ true →
      (isOk a ≡ true → sent_sealed holds t reply (seals_in a) ≡ true) →
      ans ≡ answered a →
      Goes holds t u out scratch (λ z. pointed sender r) (went ans v out' scratch')
  goes-in-place holds r reply a ans v out' scratch' h f p n e x s k =
      let room = has_room_lem out scratch tt h in
      goes-copied holds (λ z. r) reply a ans v out' scratch' h p
      (n ∙ sym (in_place (seals_in a) r a (scratch_room out scratch room) (f room) (ap (λ (x : Ending). x.answer) e ∙ ap (λ x. (ended t sender x (seals_in a) out scratch).answer) p)))
      e x s k

  -- and is refused for want of room only before it began
  module _ (holds : Relation) (r : Reply RuleCause U) (w : Went U) (f : has_room out scratch ≡ true → AllFit r) (g : Goes holds t u out scratch (λ z. pointed sender r) w) where
    not_for_room : (q : Reply RuleCause U) → AllFit q → (finished t u out scratch g.seals (pointed sender q)).answer ≡ Err no_room → ⊥
    not_for_room (refused c) i e = let z : ◌≡◌ {A = ℕ} 3 4 = ap layer e in absurd (omega arith)
    not_for_room (served v bs) i e =
        let z : ◌≡◌ {A = ℕ} 0 4 = sym (ap (λ b. layer (cond b (went (Ok (lengths_of t bs g.seals)) v (written (bytes_of t bs g.seals) out) (cleared scratch)) (went (Err no_room) u out (cleared scratch))).answer) i) ∙ ap layer e in
        absurd (omega arith)

    answer_by : (b : Bool) → has_room out scratch ≡ b → w.answer ≡ (cond b (finished t u out scratch g.seals (pointed sender r)) (went (Err no_room) u out scratch)).answer
    answer_by b e = ap (λ (x : Went U). x.answer) g.goes ∙ ap (λ y. (cond y (finished t u out scratch g.seals (pointed sender r)) (went (Err no_room) u out scratch)).answer) e

    by_room : (b : Bool) → has_room out scratch ≡ b → (w.answer ≡ Err no_room) ↔ (b ≡ false)
    by_room true e = (λ x. absurd (not_for_room r (f e) (sym (answer_by true e) ∙ x)), λ x. absurd (false_true (sym x)))
    by_room false e = (λ x. refl, λ x. answer_by false e)

    pub room_suffices : (w.answer ≡ Err no_room) ↔ (has_room out scratch ≡ false)
    room_suffices = by_room (has_room out scratch) refl

-- the same call, by an equal rule
pub goes_along :
    {U : Type 0} {holds : Relation} {t : Change} {u : U} {out scratch : List ℕ} {rule rule' : Seal → Reply Refusal U} {w : Went U} →
    ((z : Seal) → rule z ≡ rule' z) → Goes holds t u out scratch rule w → Goes holds t u out scratch rule' w
goes_along {U} {holds} {t} {u} {out} {scratch} {rule} {rule'} {w} e g = record {
  seals = g.seals;
  words = g.words;
  goes = g.goes ∙ ap (called t u out scratch g.seals) (e g.seals.first);
  sealed = λ o. sym (ap (reply_sealed holds t g.seals) (e g.seals.first)) ∙ g.sealed o;
}

-- a call that its rule refuses
pub goes_refused :
    {U : Type 0} (holds : Relation) (t : Change) (u : U) (out scratch : List ℕ) (rule : Seal → Reply Refusal U) (e e' : Refusal) (scratch' : List ℕ) → has_room out scratch ≡ true →
    ((z : Seal) → rule z ≡ refused e) → e' ≡ e → scratch' ≡ scratch_after scratch → Goes holds t u out scratch rule (went (Err e') u out scratch')
goes_refused holds t u out scratch rule e e' scratch' h r k s = record {
  seals = no_seals;
  words = refl;
  goes =
      ap (λ x. went (Err x) u out scratch') k
      ∙ ap (went (Err e) u out) (s ∙ ap (λ b. cond b (cleared scratch) scratch) (scratch_room out scratch h))
      ∙ sym (ap (finished t u out scratch no_seals) (r no_seals.first))
      ∙ sym (ap (λ b. cond b (finished t u out scratch no_seals (rule no_seals.first)) (went (Err no_room) u out scratch)) h);
  sealed = λ o. absurd (false_true o);
}

-- ---- a scratch buffer that was cleared before the call

finished_cleared : {U : Type 0} (t : Change) (u : U) (out scratch : List ℕ) (zs : Seals) (r : Reply Refusal U) → finished t u out (cleared scratch) zs r ≡ finished t u out scratch zs r
finished_cleared t u out scratch zs (refused e) = ap (went (Err e) u out) (cleared_twice scratch)
finished_cleared t u out scratch zs (served v bs) =
    ap (λ x. cond (fits t bs out) (went (Ok (lengths_of t bs zs)) v (written (bytes_of t bs zs) out) x) (went (Err no_room) u out x)) (cleared_twice scratch)

pub room_cleared : (out scratch : List ℕ) → has_room out scratch ≡ true → has_room out (cleared scratch) ≡ true
room_cleared out scratch h = let same = length_cleared scratch (roomy_long scratch (scratch_room out scratch h)) in ap (λ n. enough (length out) n) same ∙ h

pub goes_cleared :
    {U : Type 0} (holds : Relation) (t : Change) (u : U) (out scratch scratch' : List ℕ) (rule : Seal → Reply Refusal U) (w : Went U) → has_room out scratch ≡ true →
    scratch' ≡ scratch_after scratch → Goes holds t u out scratch' rule w → Goes holds t u out scratch rule w
goes_cleared holds t u out scratch scratch' rule w h e g =
    let clear : scratch' ≡ cleared scratch = e ∙ ap (λ b. cond b (cleared scratch) scratch) (scratch_room out scratch h) in
    record {
      seals = g.seals;
      words = g.words;
      goes =
          g.goes
          ∙ ap (λ x. called t u out x g.seals (rule g.seals.first)) clear
          ∙ ap (λ b. cond b (finished t u out (cleared scratch) g.seals (rule g.seals.first)) (went (Err no_room) u out (cleared scratch))) (room_cleared out scratch h)
          ∙ finished_cleared t u out scratch g.seals (rule g.seals.first)
          ∙ sym (ap (λ b. cond b (finished t u out scratch g.seals (rule g.seals.first)) (went (Err no_room) u out scratch)) h);
      sealed = g.sealed;
    }
