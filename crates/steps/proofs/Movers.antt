-- The movers that a leader names, and the basis that must be chosen.
use Rattle.std.proofs.Common.{◌≡◌, ℕ, zero, suc, ◌+◌, ◌*◌, ◌^◌, ◌<◌, ◌≤◌, Bool, true, false, cond, ◌&&◌, ltb, ◌⊎◌, List, length, get_or, take, Some, None, count_by, Option, sym, refl, ap, ◌∙◌, inl, inr, pow-suc, arith, pow_pos, pow_mono}
use lib.Count.{ones, ones_cat, ones-ones}
use Rattle.std.proofs.lemmas.List.{take_all}
use Rattle.std.proofs.lemmas.List.Sums.{sum_by_more}
use Rattle.std.proofs.lemmas.Bool.{ltb-true, ltb-false}
use Rattle.terms.specs.declared.numbers.View.{View}
use Rattle.letters.specs.declared.certificates.Basis.{Basis}
use Rattle.ballots.specs.Counts.{votes_for, count_agree}
use Rattle.controllers.specs.declared.controller.MoveRecord.{MoveRecord}
use Rattle.controllers.specs.declared.controller.Picked.{Picked}
use Rattle.controllers.specs.Choice.{same_view, stands_in, names, basis_of, offer, better, best, add_seat, picked}
use Rattle.controllers.specs.Rules.{move_record}
use Rattle.steps.proofs.Replies.{none_some}
use Rattle.steps.proofs.Rows.{ones_none}

-- ---- the seats that are picked

abbrev Names : View → Option MoveRecord → Bool
Names v slot = votes_for same_view (move_record v None) slot

named : (slot : Option MoveRecord) (v : View) → names slot v ≡ Names v slot
named None v = refl
named (Some r) v = refl

-- among the first n seats: a map of so many seats below n and below N; a quorum, or all that have a record of the view
pub record Pick (records : List (Option MoveRecord)) (v : View) (quorum seats n : ℕ) (p : Picked) : Type 0 where
  pub low : p.map < 2 ^ n
  pub below : p.map < 2 ^ seats
  pub many : ones p.map ≡ p.count
  pub most : p.count ≤ quorum
  pub all : (p.count ≡ quorum) ⊎ (p.count ≡ count_by (Names v) (take n records))

-- one more bit, above all others
pub ones_top : (m n : ℕ) → m < 2 ^ n → ones (m + 2 ^ n) ≡ ones m + 1
ones_top m n h =
    let c = ones_cat n 1 m h in
    let e : 1 * 2 ^ n + m ≡ m + 2 ^ n = omega arith in
    ap ones (sym e) ∙ omega (arith, c, ones-ones 1)

module _ (records : List (Option MoveRecord)) (v : View) (quorum seats : ℕ) (rule : (k : ℕ) → names (get_or records k None) v ≡ true → k < seats) where
  abbrev count_to : ℕ → ℕ
  count_to n = count_by (Names v) (take n records)

  picks_more : (n : ℕ) (p : Picked) → n < length records → Pick records v quorum seats n p → Pick records v quorum seats (suc n) (add_seat p n quorum (names (get_or records n None) v))
  picks_more n p l k = go (names (get_or records n None) v) refl (ltb p.count quorum) refl
    where
      more : count_to (suc n) ≡ count_to n + cond (names (get_or records n None) v) 1 0
      more = let e : suc n ≡ n + 1 = omega arith in ap count_to e ∙ sum_by_more (λ x. cond (Names v x) 1 0) records n None l ∙ ap (λ b. count_to n + cond b 1 0) (sym (named (get_or records n None) v))

      go : (a : Bool) → names (get_or records n None) v ≡ a → (b : Bool) → ltb p.count quorum ≡ b → Pick records v quorum seats (suc n) (cond (a && b) (record { map = p.map + 2 ^ n; count = p.count + 1 }) p)
      go true e true f =
          let h = ltb-true _ _ f in
          let w : suc n ≤ seats = rule n e in
          let top : 2 ^ suc n ≤ 2 ^ seats = pow_mono w in
          let m : count_to (suc n) ≡ count_to n + 1 = more ∙ ap (λ b. count_to n + cond b 1 0) e in
          record {
            low = omega (arith, pow-suc 2 n, k.low);
            below = omega (arith, pow-suc 2 n, k.low, top);
            many = ones_top p.map n k.low ∙ omega (arith, k.many);
            most = omega arith;
            all = elim k.all [ inl q ↦ absurd (omega (arith, q, h)) | inr q ↦ inr (omega (arith, q, m)) ];
          }
      go true e false f =
          let h = ltb-false _ _ f in
          record { low = omega (arith, pow-suc 2 n, k.low); below = k.below; many = k.many; most = k.most; all = inl (omega (arith, k.most, h)) }
      go false e b f =
          let m : count_to (suc n) ≡ count_to n + 0 = more ∙ ap (λ b. count_to n + cond b 1 0) e in
          record { low = omega (arith, pow-suc 2 n, k.low); below = k.below; many = k.many; most = k.most; all = elim k.all [ inl q ↦ inl q | inr q ↦ inr (omega (arith, q, m)) ] }

  pub picks : (n : ℕ) → n ≤ length records → Pick records v quorum seats n (picked records v quorum n)
  unfolding picked
  picks zero l = record { low = omega arith; below = omega (arith, pow_pos seats); many = ones_none; most = omega arith; all = inr refl }
  picks (suc n) l = picks_more n (picked records v quorum n) (omega arith) (picks n (omega arith))

  -- a quorum of records gives a quorum of movers
  pub picks_quorum : length records ≡ 16 → quorum ≤ count_agree same_view (move_record v None) records → ((picked records v quorum 16).map < 2 ^ seats) × (ones (picked records v quorum 16).map ≡ quorum)
  picks_quorum l q =
      let p = picks 16 (omega arith) in
      let a : count_by (Names v) (take 16 records) ≡ count_agree same_view (move_record v None) records = ap (count_by (Names v)) (take_all 16 records (omega arith)) in
      (p.below, p.many ∙ elim p.all [ inl e ↦ e | inr e ↦ omega (arith, e, a, q, p.most) ])

-- ---- the basis that must be chosen is that of some record

pub record Recorded (records : List (Option MoveRecord)) (b : Basis) : Type 0 where
  pub seat : ℕ
  pub mover : MoveRecord
  pub is : get_or records seat None ≡ Some mover
  pub has : mover.basis ≡ Some b

offered : (records : List (Option MoveRecord)) (k : ℕ) (mover : Bool) (v : View) (b : Basis) → offer mover (get_or records k None) v ≡ Some b → Recorded records b
offered records k mover v b e = slot (get_or records k None) refl (mover && names (get_or records k None) v) e
  where
    slot : (s : Option MoveRecord) → get_or records k None ≡ s → (t : Bool) → cond t (basis_of s) None ≡ Some b → Recorded records b
    slot s q false e = absurd (none_some refl e)
    slot None q true e = absurd (none_some refl e)
    slot (Some r) q true e = record { seat = k; mover = r; is = q; has = e }

better_either : (x y : Option Basis) (b : Basis) → better x y ≡ Some b → (x ≡ Some b) ⊎ (y ≡ Some b)
better_either x None b e = inl e
better_either None (Some n) b e = inr e
better_either (Some a) (Some n) b e = pick (ltb a.view.0 n.view.0) e
  where
    pick : (t : Bool) → cond t (Some n) (Some a) ≡ Some b → (Some a ≡ Some b) ⊎ (Some n ≡ Some b)
    pick true e = inr e
    pick false e = inl e

pub best_recorded : (records : List (Option MoveRecord)) (movers : ℕ) (v : View) (n : ℕ) (b : Basis) → best records movers v n ≡ Some b → Recorded records b
unfolding best
best_recorded records movers v zero b e = absurd (none_some refl e)
best_recorded records movers v (suc n) b e = elim (better_either (best records movers v n) (offer (stands_in movers n) (get_or records n None) v) b e) [
  | inl q ↦ best_recorded records movers v n b q
  | inr q ↦ offered records n (stands_in movers n) v b q
]
