-- One lemma a rule: served by an honest controller, it keeps what the log says of it.
use Rattle.std.proofs.Common.{◌≡◌, ℕ, ◌+◌, ◌*◌, ◌^◌, ◌<◌, ◌≤◌, Bool, true, false, cond, not, ◌&&◌, eqb, ltb, leb, ◌⊎◌, ◌∷◌, ◌++◌, get_or, set, is_some, Some, None, Ok, Err, Option, Result as Res, sym, refl, ap, ◌∙◌, inl, inr, arith}
use Rattle.terms.specs.declared.numbers.KeyNumber.{KeyNumber}
use Rattle.terms.specs.declared.numbers.Place.{Place}
use Rattle.terms.specs.declared.numbers.Seat.{Seat}
use Rattle.terms.specs.declared.numbers.View.{View}
use Rattle.terms.specs.declared.parties.Outcome.{Outcome}
use Rattle.letters.specs.declared.sorts.Answer.{Answer}
use Rattle.letters.specs.declared.sorts.Digest.{Digest}
use Rattle.letters.specs.declared.sorts.Seal.{Seal}
use Rattle.letters.specs.declared.sorts.SeatSet.{SeatSet}
use Rattle.letters.specs.declared.certificates.Basis.{Basis}
use Rattle.letters.specs.declared.certificates.Certificate.{Certificate}
use Rattle.letters.specs.declared.certificates.Order.{Order}
use Rattle.letters.specs.Certificates.{certificate_digest, result_of}
use Rattle.ballots.specs.declared.Pair.{Pair}
use Rattle.controllers.specs.declared.controller.Controller.{Controller}
use Rattle.controllers.specs.declared.controller.MoveRecord.{MoveRecord}
use Rattle.controllers.specs.declared.controller.Proposal.{Proposal}
use Rattle.agreement.specs.Seats.{Seats, count}
use Rattle.agreement.specs.Calls.{Vault}
use Rattle.agreement.proofs.Meet.{seats, Honest}
use Rattle.agreement.proofs.Words.{order, propose, assent, confirm, result, move, brief, says, Log, Said, Assented, proposed, assented, lock_party, office}
use lib.Count.{ones}
use Rattle.std.proofs.lemmas.Bool.{cond_both, both_ways, cases_Bool, eqb-true, eqb-false, and_parts, and_cases, leb-true, ltb-true, ltb-false, not-true, not-false}
use Rattle.terms.specs.declared.refusals.RuleCause.{RuleCause}
use Rattle.terms.specs.Numbers.{view_of}
use Rattle.terms.specs.Sizes.{seat_count, quorum_of}
use Rattle.letters.specs.Inner.{certificate_borne, basis_borne, grounds_borne}
use Rattle.letters.specs.Ranges.{grounds_fit, movers_fit}
use Rattle.letters.specs.Sorts.{seat_set}
use Rattle.ballots.specs.Counts.{votes_for, count_agree}
use Rattle.ballots.specs.Kinds.{same_outcome, same_pair}
use Rattle.posting.specs.Replies.{Reply, served, Bodies, passing}
use Rattle.controllers.specs.declared.controller.Draft.{Draft}
use Rattle.controllers.specs.Choice.{same_view, stands_in, names, best, all_recorded, covers, picked}
use Rattle.controllers.specs.Rules as C
use Rattle.agreement.proofs.Words.{spoken, voted}
use Rattle.agreement.proofs.Core.{Included, Supported, Ground, first as ground-first, chosen, free, Confirmed}
use Rattle.agreement.proofs.Kept.{step}
use Rattle.agreement.proofs.Tools.{silent_kind, same_number_lem, same_pair_lem, in_left, in_right, agree_count, count_same, count_grows, count_within}
use Rattle.agreement.proofs.Choices.{names_some, recorded_at, covers_at, ones_count, zero_stands, picked_names, picked_enough}
use Rattle.agreement.proofs.Mirror.{faults, lead, Certified, Mirror, mirror_more}
use Rattle.agreement.proofs.Steps.{Good, shifts, enrols_one, orders_one, votes_one, records_one, hears_assent, hears_confirm}
use Rattle.agreement.proofs.Voices.{assents_own, proposes_own, confirms_own, concludes_one}
use Rattle.agreement.proofs.Turns.{Keeps, no, yes, Vouched, included_from, cert_order, cert_votes, basis_supported, movers_chosen, movers_certified, movers_free}
use Rattle.std.proofs.lemmas.Option.{same_Some}
use Rattle.steps.proofs.Turns.{order_none, drafted_some}
use Rattle.steps.proofs.Replies.{is_eq, none_some, same_outcome_lem, not_refused, was_given}
use Rattle.roundtrip.proofs.Bases.{grounded}

pass : {R : Vault} {t : Seats} {l : Log} {h : ℕ} (gate : Res (Unit {0}) RuleCause) (rest : Reply RuleCause Controller) → (gate ≡ Ok tt → Keeps R t l h rest) → Keeps R t l h (passing gate rest)
pass (Err e) rest k = no
pass (Ok x) rest k = k refl

pub cond_twice : {A B : Type 0} (b : Bool) (x y : A) (u v : B) (P : A → B → Type 0) → (b ≡ true → P x u) → (b ≡ false → P y v) → P (cond b x y) (cond b u v)
cond_twice true x y u v P one two = one refl
cond_twice false x y u v P one two = two refl

-- what is said of a pair in a view is said of a proposal that has it
said_as : (P : ℕ → Outcome → ℕ → Type 0) (v w : ℕ) (x y : Outcome) (d e : Digest) → v ≡ w → x ≡ y → d ≡ e → P v x d.0 → P w y e.0
said_as P v w x y d e a b c s = rw (a, b, c) at s

ordered : (x : Option Order) (m : KeyNumber) → C.ordered_number x ≡ Some m → is_some x ≡ true
ordered None m e = absurd (none_some refl e)
ordered (Some y) m e = refl

move_basis : (R : Vault) (t : Seats) (l : Log) (v : View) (b : Option Basis) → grounds_fit R.sizes R.change v b ≡ true → Vouched t l (grounds_borne R.sizes R.change b) → (y : Basis) → b ≡ Some y
    → (y.view.0 < v.0) × Supported (faults R) t l y.view.0 y.outcome (certificate_digest y.certificate).0 × Certified t l y.certificate
move_basis R t l v None fit vouch y e = absurd (none_some refl e)
move_basis R t l v (Some b) fit vouch y e =
    let p = grounded R.sizes R.change v b fit in
    rw (← (same_Some _ _ e)) (
      ltb-true _ _ p.below,
      basis_supported R t l b (λ x i. vouch x (in_left (basis_borne R.sizes R.change b) (certificate_borne R.change b.certificate) i)) p.low p.many (not-true _ p.others),
      cert_order R.change t l b.certificate (λ x i. vouch x (in_right (basis_borne R.sizes R.change b) (certificate_borne R.change b.certificate) i)),
    )

choice_cases : (c : Controller) (ms : SeatSet) (r : Option Basis) → C.choice c ms ≡ r → ((c.view.0 ≡ 0) × (r ≡ None)) ⊎ ((eqb c.view.0 0 ≡ false) × (best c.records ms.0 c.view 16 ≡ r))
choice_cases c ms r e = elim (cases_Bool (eqb c.view.0 0)) [ inl q ↦ inl (eqb-true c.view.0 0 q, sym (rw q at e)) | inr q ↦ inr (q, rw q at e) ]

concluded : {R : Vault} {t : Seats} {l : Log} (c : Controller) (o : Honest (faults R) t c.seat.0) (x : Pair) (p : Proposal) → c.round.proposal ≡ Some p → x.outcome ≡ p.outcome → (a b : Bodies)
    → (spoken a ≡ says c.seat.0 (result x.outcome) ∷ spoken b) → Good R t (spoken b ++ l) c.seat.0 c
    → Keeps R t l c.seat.0 (served (C.concluded R.sizes c x) (cond (C.concludes R.sizes c x) a b))
concluded {R} {t} {l} c o x p e xo a b says-it g = cond_twice (C.concludes R.sizes c x) (C.with_result c (Some x.outcome)) c a b (λ u bs. Keeps R t l c.seat.0 (served u bs))
    (λ q. let u = and_parts _ _ (and_parts (C.confirmed_here c) _ q).1 in yes {c = C.with_result c (Some x.outcome)} {bs = a} (rw says-it (concludes_one c o g p e x xo (leb-true _ _ u.0) (not-true _ u.1))))
    (λ _. yes {c = c} {bs = b} g)

module _ {R : Vault} {t : Seats} {l : Log} (c : Controller) (o : Honest (faults R) t c.seat.0) (g : Good R t l c.seat.0 c) where
  pub ring_turn : Keeps R t l c.seat.0 (C.ring_rule c)
  ring_turn = pass (C.may_ring c) _ (λ _. yes (shifts c o g (view_of (c.view.0 + 1)) (omega arith)))

  pub enrol_turn : (p : Place) (z : Seal) → p.0 < R.sizes.locks → Keeps R t l c.seat.0 (C.enrol_rule c p z)
  enrol_turn p z lt = pass (C.may_enrol c p) _ (λ e. yes (enrols_one c o g p z (not_refused (is_some c.order) _ _ _ e).0 lt))

  pub order_turn : (n : Option KeyNumber) (z : Seal) → (t office ≡ false → Said (says office (order n)) l) → Keeps R t l c.seat.0 (C.order_rule c n z)
  order_turn n z said = pass (C.may_order c.order n) _ (λ e. go n (order_none c.order n e) said)
    where
      go : (n : Option KeyNumber) → c.order ≡ None → (t office ≡ false → Said (says office (order n)) l) → Keeps R t l c.seat.0 (served (C.with_order c (Some (C.order n z))) (C.summons c.seat n z))
      go None e said = yes (orders_one c o g (C.order None z) (ap {A = Option Order} is_some e) (λ k r loyal. absurd (none_some refl r)))
      go (Some i) e said =
          let k = orders_one c o g (C.order (Some i) z) (ap {A = Option Order} is_some e) (λ j r loyal. rw r at (said loyal)) in
          yes (record { rules = step tt k.rules; mirror = mirror_more (λ n lt. silent_kind (λ e. omega arith)) k.mirror })

  pub vote_turn : (p : Place) (n : KeyNumber) (a : Answer) (z : Seal) → (t (lock_party p.0) ≡ false → Said (says (lock_party p.0) (voted (Some n) a)) l) → Keeps R t l c.seat.0 (C.vote_rule c p n a z)
  vote_turn p n a z said = pass (C.may_vote c p n) _ (λ e.
      let q = was_given (C.ordered_number c.order) _ _ e in
      let r = not_refused (not (is_some (get_or c.registered p.0 None))) _ _ _ q.then in
      let s = not_refused (not (eqb q.value.0 n.0)) _ _ _ r.1 in
      let same : n ≡ q.value = same_number_lem n q.value (sym (is_eq q.value.0 n.0 s.0)) in
      yes (votes_one c o g p.0 q.value (record { answer = a; seal = z }) q.is (ordered c.order q.value q.is) (λ y loyal. rw (y, same) at (said loyal))))

  pub confirm_turn : (k : Seat) (v : View) (x : Pair) → k.0 < seats (faults R) → (t k.0 ≡ false → Said (says k.0 (confirm v.0 x.outcome x.digest.0)) l) → Keeps R t l c.seat.0 (C.confirm_rule R.sizes c k v x)
  confirm_turn k v x below said = pass (C.may_confirm c k v x) _ (λ e.
      let q = not_refused (not (eqb v.0 c.view.0)) _ _ _ e in
      let r = was_given c.round.proposal _ _ q.1 in
      let s = not_refused (not (same_pair x (C.pair_of r.value))) _ _ _ r.then in
      let same = same_pair_lem x (C.pair_of r.value) (not-false _ s.0) in
      concluded (C.with_round c (C.confirmed c.round k x)) o x r.value r.is same.0 _ _ refl
      (hears_confirm c o g k x r.value r.is below (λ honest. said_as (λ u y d. Confirmed l k.0 u y d) _ _ _ _ _ _ (is_eq v.0 c.view.0 q.0) same.0 same.1 (said honest.loyal))))

  pub assent_turn : (k : Seat) (v : View) (x : Pair) (z : Seal) → k.0 < seats (faults R) → (k.0 ≡ lead R v.0 → ⊥) → (t k.0 ≡ false → Said (says k.0 (assent v.0 x.outcome x.digest.0)) l) → Keeps R t l c.seat.0 (C.assent_rule R.sizes c k v x z)
  unfolding C.confirming
  assent_turn k v x z below other said = pass (C.may_assent R.sizes c k v x) _ (λ e.
      let q = not_refused (not (eqb v.0 c.view.0)) _ _ _ e in
      let r = was_given c.round.proposal _ _ q.1 in
      let s = not_refused (not (same_pair x (C.pair_of r.value))) _ _ _ r.then in
      let same = same_pair_lem x (C.pair_of r.value) (not-false _ s.0) in
      let w : v.0 ≡ c.view.0 = is_eq v.0 c.view.0 q.0 in
      let g1 = hears_assent c o g k x z r.value r.is below (λ i. other (i ∙ ap (lead R) (sym w))) (λ honest. said_as (λ u y d. Assented l k.0 u y d) _ _ _ _ _ _ w same.0 same.1 (assented (said honest.loyal))) in
      cond_both (leb (2 * faults R) (count_agree same_pair x heard.round.assents)) _ _ (Keeps R t l c.seat.0)
      (λ full. go r.value c.round.proposal refl r.is same.0 same.1 (leb-true _ _ full) g1)
      (λ _. yes g1))
    where
      heard : Controller
      heard = C.with_round c (C.assented c.round k x z)

      go : (p : Proposal) (h : Option Proposal) → c.round.proposal ≡ h → h ≡ Some p → x.outcome ≡ p.outcome → x.digest ≡ p.digest → 2 * faults R ≤ count_agree same_pair x heard.round.assents
          → Good R t l c.seat.0 heard → Keeps R t l c.seat.0 (C.confirming R.sizes heard x h)
      go p None now e xo xd full g1 = absurd (none_some refl e)
      go p (Some y) now e xo xd full g1 =
          let i : p ≡ y = sym (same_Some _ _ e) in
          let yo : x.outcome ≡ y.outcome = xo ∙ ap {A = Proposal} (λ q. q.outcome) i in
          let yd : x.digest ≡ y.digest = xd ∙ ap {A = Proposal} (λ q. q.digest) i in
          concluded (C.confirmed_own heard y x) o x y now yo _ _ refl (confirms_own heard o g1 y now x yo yd full)

  pub move_turn : (k : Seat) (v : View) (b : Option Basis) → k.0 < seats (faults R) → grounds_fit R.sizes R.change v b ≡ true → (t k.0 ≡ false → Said (says k.0 (move v.0 (brief b))) l) → Vouched t l (grounds_borne R.sizes R.change b) → Keeps R t l c.seat.0 (C.move_rule R.sizes c k v b)
  move_turn k v b below fit said vouch = pass (C.may_move c k v b) _ (λ e.
      let g1 = records_one c o g k.0 v b (record { seat = below; moved = λ honest. said honest.loyal; supported = move_basis R t l v b fit vouch }) in
      cond_both (ltb c.view.0 v.0 && leb (faults R + 1) (C.record_count moved v)) _ _ (Keeps R t l c.seat.0)
      (λ q. yes (shifts moved o g1 v (ltb-true _ _ (and_parts _ _ q).0)))
      (λ _. yes g1))
    where
      moved : Controller
      moved = C.with_records c (set c.records k.0 (Some (C.move_record v b)))

-- ---- proposals

module _ {R : Vault} {t : Seats} {l : Log} (c : Controller) (o : Honest (faults R) t c.seat.0) (g : Good R t l c.seat.0 c) where
  m : Mirror R t l c.seat.0 c
  m = g.mirror

  many : (v : View) (ms : ℕ) → movers_fit R.sizes v ms ≡ true → v.0 ≡ c.view.0 → eqb c.view.0 0 ≡ false → 2 * faults R + 1 ≤ count (stands_in ms) (seats (faults R))
  many v ms fit now w =
      let e : eqb v.0 0 ≡ false = ap (λ (x : ℕ). eqb x 0) now ∙ w in
      let p = and_parts (ltb ms (2 ^ seat_count R.sizes)) (eqb (ones ms) (quorum_of R.sizes)) (rw e at fit) in
      omega (arith, eqb-true _ _ p.1, ones_count (seats (faults R)) ms (ltb-true _ _ p.0))

  -- what a proposal that is held stands on
  held_ground : (ms : SeatSet) (x : Outcome) (k : Certificate) → result_of k ≡ x
      → (eqb c.view.0 0 ≡ false → 2 * faults R + 1 ≤ count (stands_in ms.0) (seats (faults R)))
      → ((i : ℕ) → i < seats (faults R) → stands_in ms.0 i ≡ true → names (get_or c.records i None) c.view ≡ true)
      → Certified t l k → Vouched t l (certificate_borne R.change k)
      → (r : Option Basis) → C.choice c ms ≡ r → C.may_choose c x k (certificate_digest k) r ≡ Ok tt → Ground (faults R) t l c.seat.0 c.view.0 x (certificate_digest k).0
  held_ground ms x k outc enough recorded certified vouch (Some b) e may =
      let q = not_refused (not (same_pair (C.pair x (certificate_digest k)) (C.pair b.outcome (certificate_digest b.certificate)))) _ _ _ may in
      let a = same_pair_lem (C.pair x (certificate_digest k)) (C.pair b.outcome (certificate_digest b.certificate)) (not-false _ q.0) in
      elim (choice_cases c ms (Some b) e) [
        | inl w ↦ absurd (none_some w.1 refl)
        | inr w ↦ said_as (λ u y d. Ground (faults R) t l c.seat.0 u y d) _ _ _ _ _ _ refl (sym a.0) (sym a.1) (chosen (movers_chosen c m ms.0 (enough w.0) recorded b w.1))
      ]
  held_ground ms x k outc enough recorded certified vouch None e may =
      elim (choice_cases c ms None e) [
        | inl w ↦ ground-first w.0 covered
        | inr w ↦ free (record { none = movers_free c m ms.0 (enough w.0) recorded w.1; included = covered })
      ]
    where
      covered : Included t l c.seat.0 x
      covered = included_from R t l c.seat.0 k x outc
          (λ p a. let r = m.rolled.on_roll a in
          (r.0, covers_at c.registered k.enrolled 8 (not-false _ (not_refused (not (covers c.registered k.enrolled 8)) _ _ _ may).0) p (omega (arith, r.0, R.sizes.locks_range)) r.1))
          (cert_votes R t l k vouch) certified

  pub proposal_turn : (v : View) (x : Outcome) (k : Certificate) (ms : SeatSet) (z own : Seal) → movers_fit R.sizes v ms.0 ≡ true
      → (t (lead R v.0) ≡ false → Said (says (lead R v.0) (propose v.0 x (certificate_digest k).0)) l) → Vouched t l (certificate_borne R.change k)
      → Keeps R t l c.seat.0 (C.proposal_rule R.sizes R.change c v x k ms z own)
  proposal_turn v x k ms z own fit said vouch = pass (C.may_hold R.sizes R.change c v x k (certificate_digest k) ms) _ (λ e.
      let a1 = not_refused (not (eqb v.0 c.view.0)) _ _ _ e in
      let a2 = not_refused (C.leads R.sizes R.change c) _ _ _ a1.1 in
      let a3 = not_refused (is_some c.round.proposal) _ _ _ a2.1 in
      let a4 = not_refused (not (same_outcome (result_of k) x)) _ _ _ a3.1 in
      let a5 = not_refused (not (all_recorded c.records ms.0 c.view 16)) _ _ _ a4.1 in
      let now : v.0 ≡ c.view.0 = is_eq v.0 c.view.0 a1.0 in
      yes (assents_own c o g x k z own a3.0 (λ q. eqb-false (lead R c.view.0) c.seat.0 a2.0 (sym q)) (led c.view.0 now) certified
      (held_ground ms x k (same_outcome_lem (result_of k) x (not-false _ a4.0)) (many v ms.0 fit now)
      (λ i lt s. recorded_at c.records ms.0 c.view 16 (not-false _ a5.0) i (omega (arith, R.sizes.faults_range)) s)
      certified vouch (C.choice c ms) refl a5.1)))
    where
      certified : Certified t l k
      certified = cert_order R.change t l k vouch

      led : (w : ℕ) → v.0 ≡ w → Honest (faults R) t (lead R w) → Assented l (lead R w) w x (certificate_digest k).0
      led w e honest = rw (← e) (proposed (said (rw (← e) at honest.loyal)))

  -- ---- the own proposal

  abbrev low : SeatSet
  low = C.movers R.sizes c

  low_above : eqb c.view.0 0 ≡ false → low.0 ≡ (picked c.records c.view (quorum_of R.sizes) 16).map
  low_above w = rw w refl

  same_names : (x : Option MoveRecord) → votes_for same_view (C.move_record c.view None) x ≡ names x c.view
  same_names None = refl
  same_names (Some r) = refl

  own_recorded : (i : ℕ) → stands_in low.0 i ≡ true → names (get_or c.records i None) c.view ≡ true
  own_recorded i = cond_both (eqb c.view.0 0) (seat_set 0) (seat_set (picked c.records c.view (quorum_of R.sizes) 16).map)
      (λ s. stands_in s.0 i ≡ true → names (get_or c.records i None) c.view ≡ true)
      (λ _ s. absurd (both_ways _ (zero_stands i) s))
      (λ _ s. picked_names c.records c.view (quorum_of R.sizes) 16 i s)

  own_many : quorum_of R.sizes ≤ C.record_count c c.view → eqb c.view.0 0 ≡ false → 2 * faults R + 1 ≤ count (stands_in low.0) (seats (faults R))
  own_many h w =
      let below : (k : ℕ) → names (get_or c.records k None) c.view ≡ true → k < seats (faults R) = λ k e. let r = names_some (get_or c.records k None) c.view e in (m.records.record_of k r.0 r.1).seat in
      let a = agree_count same_view (C.move_record c.view None) c.records (seats (faults R)) (λ k r e. (m.records.record_of k r e).seat) in
      let b = count_same (λ k. votes_for same_view (C.move_record c.view None) (get_or c.records k None)) (λ k. names (get_or c.records k None) c.view) (seats (faults R)) (λ k lt. same_names (get_or c.records k None)) in
      let d = count_grows (λ k. names (get_or c.records k None) c.view) (seats (faults R)) 16 (omega (arith, R.sizes.faults_range)) in
      let f = picked_enough c.records c.view (quorum_of R.sizes) 16 (omega (arith, h, a, b, d)) in
      let k = count_within (stands_in low.0) 16 (seats (faults R)) (λ i s. below i (own_recorded i s)) in
      let n : count (stands_in low.0) 16 ≡ count (stands_in (picked c.records c.view (quorum_of R.sizes) 16).map) 16 = ap (λ (s : ℕ). count (stands_in s) 16) (low_above w) in
      omega (arith, f, k, n)

  own_ground : (x : Outcome) (k : Certificate) → Included t l c.seat.0 x → C.choice c low ≡ None → (eqb c.view.0 0 ≡ false → quorum_of R.sizes ≤ C.record_count c c.view) → Ground (faults R) t l c.seat.0 c.view.0 x (certificate_digest k).0
  own_ground x k inc e enough = elim (choice_cases c low None e) [
    | inl w ↦ ground-first w.0 inc
    | inr w ↦ free (record { none = movers_free c m low.0 (own_many (enough w.0) w.0) (λ i lt s. own_recorded i s) w.1; included = inc })
  ]

  own_draft_holds : Seal → is_some c.round.proposal ≡ false → c.seat.0 ≡ lead R c.view.0 → (eqb c.view.0 0 ≡ false → quorum_of R.sizes ≤ C.record_count c c.view) → (r : Option Basis) → C.choice c low ≡ r
      → (d : Draft) → C.draft_from c low r ≡ Some d → (own : Seal) → Keeps R t l c.seat.0 (C.proposed c d own)
  own_draft_holds z none leads enough (Some b) e d q own = elim (choice_cases c low (Some b) e) [
    | inl w ↦ absurd (none_some w.1 refl)
    | inr w ↦ rw (← (same_Some _ _ q)) (yes (proposes_own c o g b.outcome b.certificate own none leads
        (movers_certified c m low.0 (own_many (enough w.0) w.0) (λ i lt s. own_recorded i s) b w.1)
        (chosen (movers_chosen c m low.0 (own_many (enough w.0) w.0) (λ i lt s. own_recorded i s) b w.1))))
  ]
  own_draft_holds z none leads enough None e d q own = by_order c.order refl q
    where
      by_order : (y : Option Order) → c.order ≡ y → C.own_draft c low y ≡ Some d → Keeps R t l c.seat.0 (C.proposed c d own)
      by_order None f q = absurd (none_some refl q)
      by_order (Some y) f q =
          let held : (n : KeyNumber) → y.number ≡ Some n → C.ordered_number c.order ≡ Some n = λ n r. rw f r in
          let cert : Certified t l (C.own_certificate c y) = record { ordered = λ n r loyal. m.votes.ordered (held n r) loyal } in
          let inc : Included t l c.seat.0 (result_of (C.own_certificate c y)) = included_from R t l c.seat.0 (C.own_certificate c y) (result_of (C.own_certificate c y)) refl (λ p a. m.rolled.on_roll a) (λ n p v r lt a b loyal. m.votes.voted p v a b loyal n (held n r)) cert in
          rw (← (same_Some _ _ q)) (yes (proposes_own c o g (result_of (C.own_certificate c y)) (C.own_certificate c y) own none leads cert (own_ground _ (C.own_certificate c y) inc e enough)))

  pub propose_turn : (own : Seal) → Keeps R t l c.seat.0 (C.propose_rule R.sizes R.change c own)
  propose_turn own = go (C.may_propose R.sizes R.change c) refl
    where
      go : (r : Res Draft RuleCause) → C.may_propose R.sizes R.change c ≡ r → Keeps R t l c.seat.0 (C.proposing c r own)
      go (Err e) q = no
      go (Ok d) q =
          let a1 = not_refused (not (C.leads R.sizes R.change c)) _ _ d q in
          let a2 = not_refused (is_some c.round.proposal) _ _ d a1.1 in
          let a3 = not_refused (not (eqb c.view.0 0) && ltb (C.record_count c c.view) (quorum_of R.sizes)) _ _ d a2.1 in
          own_draft_holds own a2.0 (sym (is_eq (lead R c.view.0) c.seat.0 a1.0))
          (λ w. elim (and_cases (not (eqb c.view.0 0)) _ a3.0) [ inl s ↦ absurd (both_ways _ w (not-false _ s)) | inr s ↦ ltb-false _ _ s ])
          (C.choice c low) refl d (drafted_some (C.draft_of R.sizes c) d a3.1) own
