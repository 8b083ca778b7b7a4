-- One lemma a rule: a controller within range stays so, and what it sends is within range.
use Rattle.std.proofs.Common.{◌≡◌, ℕ, ◌+◌, ◌*◌, ◌%◌, ◌^◌, ◌<◌, ◌≤◌, Bool, true, false, cond, not, ◌&&◌, ◌||◌, eqb, ltb, leb, List, get_or, set, is_some, Some, None, Ok, Err, Option, Result as Res, sym, refl, ap, ◌∙◌, subst, arith}
use lib.Count.{ones}
use Rattle.std.proofs.lemmas.Option.{same_Some}
use Rattle.std.proofs.lemmas.Bool.{and_parts, and_from, or_parts, cond_both, eq-eqb, ne_eqb, eqb-true, eqb-false, lt-ltb, ltb-true, ltb-false, leb-true, leb-false, not-false, not_from_false}
use Rattle.terms.specs.declared.numbers.Change.{Change}
use Rattle.terms.specs.declared.numbers.KeyNumber.{KeyNumber}
use Rattle.terms.specs.declared.numbers.Place.{Place}
use Rattle.terms.specs.declared.numbers.Seat.{Seat}
use Rattle.terms.specs.declared.numbers.View.{View}
use Rattle.terms.specs.declared.parties.Outcome.{Outcome}
use Rattle.terms.specs.declared.parties.Outcome.TheVariants.{Keep, Number}
use Rattle.terms.specs.declared.refusals.RuleCause.{RuleCause}
use Rattle.terms.specs.declared.refusals.RuleCause.TheVariants as R
use Rattle.terms.specs.declared.sizes.Sizes.{Sizes}
use Rattle.terms.specs.Numbers.{view_of}
use Rattle.terms.specs.Parties.{leader_of}
use Rattle.terms.specs.Sizes.{seat_count, quorum_of}
use Rattle.letters.specs.declared.sorts.Answer.{Answer}
use Rattle.letters.specs.declared.sorts.Digest.{Digest}
use Rattle.letters.specs.declared.sorts.Seal.{Seal}
use Rattle.letters.specs.declared.sorts.SeatSet.{SeatSet}
use Rattle.letters.specs.declared.certificates.Basis.{Basis}
use Rattle.letters.specs.declared.certificates.Certificate.{Certificate}
use Rattle.letters.specs.declared.certificates.Order.{Order}
use Rattle.letters.specs.declared.bodies.Body.TheVariants as B
use Rattle.letters.specs.Bytes.{le4, le8, map_of}
use Rattle.letters.specs.Certificates.{result_of, certificate_digest}
use Rattle.letters.specs.Ranges.{is_byte, is_word, number_fits, seat_fits, place_fits, certificate_fits, grounds_fit, movers_fit, body_fits}
use Rattle.letters.specs.Sorts.{seat_set}
use Rattle.letters.specs.Statements.{outcome_number}
use Rattle.ballots.specs.declared.Pair.{Pair}
use Rattle.ballots.specs.Counts.{count_agree}
use Rattle.ballots.specs.Kinds.{same_outcome, same_pair}
use Rattle.posting.specs.declared.few.AtMostTwo.TheVariants.{Nothing, One, Two}
use Rattle.posting.specs.Posting.{needed}
use Rattle.posting.specs.Replies as Replies
use Rattle.posting.specs.Replies.{Bodies}
use Rattle.controllers.specs.declared.controller.Controller.{Controller}
use Rattle.controllers.specs.declared.controller.Draft.{Draft}
use Rattle.controllers.specs.declared.controller.MoveRecord.{MoveRecord}
use Rattle.controllers.specs.declared.controller.Proposal.{Proposal}
use Rattle.controllers.specs.Choice.{names, best, picked}
use Rattle.controllers.specs.Rules.{Reply, with_registered, with_order, with_votes, with_round, with_records, with_result, may_enrol, enrol_rule, same_number, may_order, order, order_rule, ordered_number, may_vote, vote_rule, choice, pair_of, or_else, hold, assented, confirmed, leads, may_hold, proposal, held, proposal_rule, concludes, may_assent, confirmed_own, confirm_body, result_body, confirming, assent_counted, assent_rule, may_confirm, confirm_counted, confirm_rule, move_record, enter_view, names_from, false_basis, may_move, record_count, move_rule, may_ring, ring_rule, movers, own_draft, draft_from, draft_of, drafted, may_propose, proposing, propose_rule}
use Rattle.roundtrip.proofs.Bases.{grounded}
use Rattle.roundtrip.proofs.Certificates.{parts_fit}
use Rattle.steps.specs.Ranges.{order_fits, PapersFit, ProposalFits, RoundFits, RecordsFit, ControllerFits}
use Rattle.steps.proofs.Replies.{Serves, no, yes, passes, either, not_refused, was_given, is_none, none_some, same_outcome_lem, is_eq}
use Rattle.steps.proofs.Rows.{ones_none, none_filled, all_agree}
use Rattle.steps.proofs.Movers.{picks_quorum, best_recorded}
use Rattle.steps.proofs.Groups.{digest_word_lem, order_of, outcome_number_lem, outcome_same, registers, votes_on, orders_first, own_fits, new_round, holds_one, assents_one, confirms_one, makes_basis, grounds_later, basis_later, records_one}
use Rattle.steps.proofs.Voices.{Held, assent_held}

-- the letters that are sent are within range
abbrev pub AllFit : Sizes → Change → Bodies → Type 0
AllFit sizes t Nothing = Unit {0}
AllFit sizes t (One b) = body_fits sizes t b ≡ true
AllFit sizes t (Two b c) = ((body_fits sizes t b ≡ true) × (body_fits sizes t c ≡ true)) × (needed t (Two b c) ≤ 253)

pub record Keeps (sizes : Sizes) (t : Change) (u : Controller) (bs : Bodies) : Type 0 where
  pub fits : ControllerFits sizes t u
  pub sent : AllFit sizes t bs

abbrev pub Turn : Sizes → Change → Reply → Type 0
Turn sizes t r = Serves (Keeps sizes t) r

-- ---- small facts

pub order_none : (o : Option Order) (n : Option KeyNumber) → may_order o n ≡ Ok tt → o ≡ None
order_none None n e = refl
order_none (Some o) n e = let p = (not_refused (same_number o.number n) R.Repeated (Err R.Differs) tt e).1 in absurd (grind (arith, p))

pair_same : (x : Pair) → same_pair x x ≡ true
pair_same x = and_from _ _ (eq-eqb _ _ refl) (outcome_same x.outcome)

module _ (sizes : Sizes) (t : Change) (u : Controller) (g : ControllerFits sizes t u) where
  -- ---- enrol, order, vote

  papers_fit : {rs : _} {o : _} {vs : _} → PapersFit sizes rs o vs → ControllerFits sizes t (with_votes (with_order (with_registered u rs) o) vs)
  papers_fit f = assumption

  pub enrol_turn : (p : Place) (z : Seal) → place_fits sizes p ≡ true → is_word z.0 ≡ true → Turn sizes t (enrol_rule u p z)
  enrol_turn p z l w = passes (may_enrol u p) _ (λ _. yes (record {
    fits = papers_fit (registers g.papers p.0 z (ltb-true _ _ l) w);
    sent = and_from _ _ g.seat l;
  }))

  ordered : (o : Order) → u.order ≡ None → order_fits (Some o) ≡ true → ControllerFits sizes t (with_order u (Some o))
  ordered o e f = papers_fit (subst (λ h. PapersFit sizes u.registered (or_else h o) u.votes) e (orders_first g.papers o f))

  pub order_turn : (n : Option KeyNumber) (z : Seal) → number_fits n ≡ true → is_word z.0 ≡ true → Turn sizes t (order_rule u n z)
  order_turn None z f w = passes (may_order u.order None) _ (λ e. yes (record { fits = ordered (order None z) (order_none u.order None e) (and_from _ _ f w); sent = tt }))
  order_turn (Some n) z f w = passes (may_order u.order (Some n)) _ (λ e. yes (record { fits = ordered (order (Some n) z) (order_none u.order (Some n) e) (and_from _ _ f w); sent = and_from _ _ g.seat (and_from _ _ f w) }))

  pub vote_turn : (p : Place) (n : KeyNumber) (a : Answer) (z : Seal) → is_word z.0 ≡ true → Turn sizes t (vote_rule u p n a z)
  vote_turn p n a z w = passes (may_vote u p n) _ (λ e.
      let o = was_given (ordered_number u.order) R.OutOfTurn _ e in
      let r = not_refused (not (is_some (get_or u.registered p.0 None))) R.OutOfTurn _ tt o.then in
      yes (record {
        fits = papers_fit (votes_on g.papers p.0 (record { answer = a; seal = z }) o.value o.is (not-false _ r.0) w);
        sent = tt;
      }))

  -- ---- views

  pub enter_turn : (w : View) → u.view.0 < w.0 → is_byte w.0 ≡ true → Turn sizes t (enter_view u w)
  enter_turn w l b =
      let grounds = grounds_later sizes t (view_of (u.view.0 + 1)) w u.basis g.basis.grounds (omega arith) in
      let above : eqb w.0 0 ≡ false = ne_eqb _ _ (λ e. omega arith) in
      yes (record {
        fits = record {
          seat = g.seat;
          view = b;
          papers = g.papers;
          round = new_round sizes t w;
          basis = basis_later sizes t u.view w u.basis g.basis (omega arith);
          records = records_one sizes t u.records u.seat.0 (move_record w u.basis) g.records (ltb-true _ _ g.seat) (record { byte = b; above = above; grounds = grounds; true_result = g.basis.true_result });
          result = g.result;
        };
        sent = and_from _ _ g.seat (and_from _ _ b (and_from _ _ (not_from_false _ above) grounds));
      })

  pub ring_turn : Turn sizes t (ring_rule u)
  ring_turn = passes (may_ring u) _ (λ e.
      let h = leb-false _ _ (not_refused (leb 255 u.view.0) R.LastView _ tt e).0 in
      enter_turn (view_of (u.view.0 + 1)) (omega arith) (lt-ltb _ _ (omega (arith, h))))

  -- ---- holding a proposal

  pub hold_fits : (p : Proposal) → u.round.proposal ≡ None → ProposalFits sizes p → ControllerFits sizes t (hold u p)
  hold_fits p e f = assumption (orders_first g.papers p.certificate.order (order_of sizes p.certificate f.certificate), holds_one g.round p e f)

  -- a result that is taken
  pub concluded_fits : (x : Pair) → number_fits (outcome_number x.outcome) ≡ true → ControllerFits sizes t (with_result u (Some x.outcome))
  concluded_fits x f = assumption

  pub result_sent : (x : Pair) → number_fits (outcome_number x.outcome) ≡ true → body_fits sizes t (result_body u x) ≡ true
  result_sent x f = and_from _ _ g.seat f

  pub round_fits : {r : _} → RoundFits sizes t u.view r → ControllerFits sizes t (with_round u r)
  round_fits f = assumption

  pub records_fit : (rs : List (Option MoveRecord)) → RecordsFit sizes t rs → ControllerFits sizes t (with_records u rs)
  records_fit rs f = assumption

-- ---- confirm

counted_turn : (sizes : Sizes) (t : Change) (u : Controller) → ControllerFits sizes t u → (x : Pair) → number_fits (outcome_number x.outcome) ≡ true → Turn sizes t (confirm_counted sizes u x)
counted_turn sizes t u g x f = yes (either (Keeps sizes t) (concludes sizes u x)
    (λ _. record { fits = concluded_fits sizes t u g x f; sent = result_sent sizes t u g x f })
    (λ _. record { fits = g; sent = tt }))

pub confirm_turn : (sizes : Sizes) (t : Change) (u : Controller) → ControllerFits sizes t u → (s : Seat) (v : View) (x : Pair) → number_fits (outcome_number x.outcome) ≡ true → Turn sizes t (confirm_rule sizes u s v x)
confirm_turn sizes t u g s v x f = passes (may_confirm u s v x) _ (λ _. counted_turn sizes t (with_round u (confirmed u.round s x)) (round_fits sizes t u g (confirms_one g.round s x)) x f)

-- ---- move

pub move_turn : (sizes : Sizes) (t : Change) (u : Controller) → ControllerFits sizes t u → (s : Seat) (v : View) (b : Option Basis) → seat_fits sizes s ≡ true → is_byte v.0 ≡ true → eqb v.0 0 ≡ false → grounds_fit sizes t v b ≡ true → Turn sizes t (move_rule sizes u s v b)
move_turn sizes t u g s v b l byte above grounds = passes (may_move u s v b) _ (λ e.
    let (_, e1) = not_refused (ltb v.0 u.view.0) R.OtherView _ tt e in
    let (_, e2) = not_refused (eqb v.0 u.view.0 && is_some u.round.proposal) R.OutOfTurn _ tt e1 in
    let (_, e3) = not_refused (names_from (get_or u.records s.0 None) v) R.Repeated _ tt e2 in
    let h = (not_refused (false_basis b) R.FalseResult _ tt e3).0 in
    let r : RecordsFit sizes t (set u.records s.0 (Some (move_record v b))) = records_one sizes t u.records s.0 (move_record v b) g.records (ltb-true _ _ l) (record { byte = byte; above = above; grounds = grounds; true_result = h }) in
    let g1 = records_fit sizes t u g (set u.records s.0 (Some (move_record v b))) r in
    cond_both (ltb u.view.0 v.0 && leb (sizes.faults + 1) (record_count w v)) _ _ (Turn sizes t)
    (λ q. enter_turn sizes t w g1 v (ltb-true _ _ (and_parts _ _ q).0) byte)
    (λ _. yes (record { fits = g1; sent = tt })))
  where
    w : Controller
    w = with_records u (set u.records s.0 (Some (move_record v b)))

-- ---- assent

-- what the guards of an assent say
record Assenting (sizes : Sizes) (u : Controller) (s : Seat) (v : View) (x : Pair) : Type 0 where
  pub now : v.0 ≡ u.view.0
  pub held : Held u x
  pub free : is_some (get_or u.round.assents s.0 None) ≡ false
  pub room : count_agree same_pair x u.round.assents < 2 * sizes.faults

assenting : (sizes : Sizes) (u : Controller) (s : Seat) (v : View) (x : Pair) → may_assent sizes u s v x ≡ Ok tt → Assenting sizes u s v x
assenting sizes u s v x e =
    let (now, e1) = not_refused (not (eqb v.0 u.view.0)) R.OtherView _ tt e in
    let p = was_given u.round.proposal R.OutOfTurn _ e1 in
    let (_, e2) = not_refused (not (same_pair x (pair_of p.value))) R.Differs _ tt p.then in
    let (full, _) = not_refused (is_some (get_or u.round.assents s.0 None) || leb (2 * sizes.faults) (count_agree same_pair x u.round.assents)) R.Repeated _ tt e2 in
    let q = or_parts (is_some (get_or u.round.assents s.0 None)) _ full in
    record { now = is_eq _ _ now; held = assent_held sizes u s v x e; free = q.0; room = leb-false _ _ q.1 }

-- all assents that are recorded are for the held proposal, so they are counted alike
count_assents : (sizes : Sizes) (t : Change) (u : Controller) (x : Pair) → RoundFits sizes t u.view u.round → Held u x → count_agree same_pair x u.round.assents ≡ ones (map_of is_some u.round.assents)
count_assents sizes t u x g h = all_agree same_pair x (pair_same x) u.round.assents (λ k y e. g.agreeing h.held h.is k y e ∙ sym h.for)

-- a confirm and a result are short
confirm_result_short : (t : Change) (s : Seat) (v : View) (x : Outcome) (d : Digest) → needed t (Two (B.Confirm s v x d) (B.Result s x)) ≤ 253
unfolding le4 le8
confirm_result_short t s v Keep d = omega arith
confirm_result_short t s v (Number n) d = omega arith

-- the 2f-th assent makes the basis
confirming_turn : (sizes : Sizes) (t : Change) (w : Controller) → ControllerFits sizes t w → (x : Pair) → Held w x → number_fits (outcome_number x.outcome) ≡ true → is_word x.digest.0 ≡ true → 2 * sizes.faults ≤ count_agree same_pair x w.round.assents → Turn sizes t (confirming sizes w x w.round.proposal)
unfolding confirming
confirming_turn sizes t w g x h f d full = subst (λ o. Turn sizes t (confirming sizes w x o)) (sym h.is)
    (yes (either (Keeps sizes t) (concludes sizes (confirmed_own w p x) x)
    (λ _. record { fits = concluded_fits sizes t (confirmed_own w p x) g2 x f; sent = ((sent, result_sent sizes t w g x f), confirm_result_short t w.seat w.view x.outcome x.digest) })
    (λ _. record { fits = g2; sent = sent })))
  where
    p : Proposal
    p = h.held

    many : ones (map_of is_some w.round.seals) ≡ 2 * sizes.faults
    many =
        let same : ones (map_of is_some w.round.assents) ≡ ones (map_of is_some w.round.seals) = ap ones g.round.same_seats in
        omega (arith, same, full, count_assents sizes t w x g.round h, g.round.assents.few)

    g2 : ControllerFits sizes t (confirmed_own w p x)
    g2 = assumption (confirms_one g.round w.seat x, makes_basis sizes t w p g.round h.is many)

    sent : body_fits sizes t (confirm_body w x) ≡ true
    sent = and_from _ _ g.seat (and_from _ _ g.view (and_from _ _ f d))

pub assent_turn : (sizes : Sizes) (t : Change) (u : Controller) → ControllerFits sizes t u → (s : Seat) (v : View) (x : Pair) (z : Seal) → seat_fits sizes s ≡ true → eqb s.0 (leader_of sizes t v).0 ≡ false → number_fits (outcome_number x.outcome) ≡ true → is_word x.digest.0 ≡ true → is_word z.0 ≡ true → Turn sizes t (assent_rule sizes u s v x z)
assent_turn sizes t u g s v x z l other f d word = passes (may_assent sizes u s v x) _ (λ e. counted (assenting sizes u s v x e))
  where
    w : Controller
    w = with_round u (assented u.round s x z)

    counted : Assenting sizes u s v x → Turn sizes t (assent_counted sizes w x)
    counted a =
        let h = a.held in
        let lead : (leader_of sizes t v).0 ≡ (leader_of sizes t u.view).0 = ap (λ n. n % seat_count sizes) a.now in
        let r = assents_one g.round s x z h.held h.is h.for (ltb-true _ _ l) (λ i. eqb-false _ _ other (i ∙ sym lead)) a.free (omega (arith, a.room, count_assents sizes t u x g.round h)) word in
        let g1 = round_fits sizes t u g r in
        cond_both (leb (2 * sizes.faults) (count_agree same_pair x w.round.assents)) _ _ (Turn sizes t)
        (λ q. confirming_turn sizes t w g1 x (record { held = h.held; is = h.is; for = h.for }) f d (leb-true _ _ q))
        (λ _. yes (record { fits = g1; sent = tt }))

-- ---- proposal

-- what the guards of a proposal say
record Holding (sizes : Sizes) (t : Change) (u : Controller) (x : Outcome) (c : Certificate) : Type 0 where
  pub follows : eqb (leader_of sizes t u.view).0 u.seat.0 ≡ false
  pub unheld : u.round.proposal ≡ None
  pub result : x ≡ result_of c

holding : (sizes : Sizes) (t : Change) (u : Controller) (v : View) (x : Outcome) (c : Certificate) (d : Digest) (m : SeatSet) → may_hold sizes t u v x c d m ≡ Ok tt → Holding sizes t u x c
holding sizes t u v x c d m e =
    let (_, e1) = not_refused (not (eqb v.0 u.view.0)) R.OtherView _ tt e in
    let (a, e2) = not_refused (leads sizes t u) R.OutOfTurn _ tt e1 in
    let (b, e3) = not_refused (is_some u.round.proposal) R.Repeated _ tt e2 in
    let (r, _) = not_refused (not (same_outcome (result_of c) x)) R.FalseResult _ tt e3 in
    record { follows = a; unheld = is_none _ b; result = sym (same_outcome_lem (result_of c) x (not-false _ r)) }

pub proposal_turn : (sizes : Sizes) (t : Change) (u : Controller) → ControllerFits sizes t u → (v : View) (x : Outcome) (c : Certificate) (m : SeatSet) (z own : Seal) → certificate_fits sizes c ≡ true → is_word z.0 ≡ true → is_word own.0 ≡ true → Turn sizes t (proposal_rule sizes t u v x c m z own)
proposal_turn sizes t u g v x c m z own f wz wo = passes (may_hold sizes t u v x c (certificate_digest c) m) _ (λ e. held_turn (holding sizes t u v x c (certificate_digest c) m e))
  where
    p : Proposal
    p = proposal x c (certificate_digest c) z

    held_turn : Holding sizes t u x c → Turn sizes t (Replies.served (held u p own) (One (B.Assent u.seat u.view x (certificate_digest c))))
    held_turn h =
        let g1 = hold_fits sizes t u g p h.unheld (record { certificate = f; outcome = h.result; digest = refl; seal = wz }) in
        let none : map_of is_some u.round.assents ≡ 0 = g.round.same_seats ∙ g.round.none h.unheld in
        let free : is_some (get_or u.round.assents u.seat.0 None) ≡ false = ap is_some (none_filled u.round.assents u.seat.0 none) in
        let r = assents_one g1.round u.seat (pair_of p) own p refl refl (ltb-true _ _ g.seat) (λ i. eqb-false _ _ h.follows (sym i)) free (omega (arith, ap ones none, ones_none)) wo in
        yes (record {
          fits = round_fits sizes t (hold u p) g1 r;
          sent = and_from _ _ g.seat (and_from _ _ g.view (and_from _ _ (not_from_false _ (ne_eqb _ _ (λ i. eqb-false _ _ h.follows (sym i)))) (and_from _ _ (outcome_number_lem sizes c x f h.result) (digest_word_lem c))));
        })

-- ---- propose

-- what is drafted within range
record DraftFits (sizes : Sizes) (v : View) (d : Draft) : Type 0 where
  pub certificate : certificate_fits sizes d.certificate ≡ true
  pub outcome : d.outcome ≡ result_of d.certificate
  pub movers : movers_fit sizes v d.movers.0 ≡ true

movers_fit_lem : (sizes : Sizes) (t : Change) (u : Controller) → RecordsFit sizes t u.records → (not (eqb u.view.0 0) && ltb (record_count u u.view) (quorum_of sizes)) ≡ false → movers_fit sizes u.view (movers sizes u).0 ≡ true
movers_fit_lem sizes t u g e = go (eqb u.view.0 0) e
  where
    seats : (k : ℕ) → names (get_or u.records k None) u.view ≡ true → k < seat_count sizes
    seats k n = slot (get_or u.records k None) refl n
      where
        slot : (s : Option MoveRecord) → get_or u.records k None ≡ s → names s u.view ≡ true → k < seat_count sizes
        slot None q n = absurd (grind (arith, n))
        slot (Some r) q n = g.seats k r q

    m : ℕ
    m = (picked u.records u.view (quorum_of sizes) 16).map

    go : (b : Bool) → (not b && ltb (record_count u u.view) (quorum_of sizes)) ≡ false → cond b (eqb (cond b (seat_set 0) (seat_set m)).0 0) (ltb (cond b (seat_set 0) (seat_set m)).0 (2 ^ seat_count sizes) && eqb (ones (cond b (seat_set 0) (seat_set m)).0) (quorum_of sizes)) ≡ true
    go true e = refl
    go false e =
        let p = picks_quorum u.records u.view (quorum_of sizes) (seat_count sizes) seats g.rows (ltb-false _ _ e) in
        and_from _ _ (lt-ltb _ _ p.0) (eq-eqb _ _ p.1)

-- a choice is within range
chosen_fits : (sizes : Sizes) (t : Change) (u : Controller) (m : SeatSet) (b : Basis) → RecordsFit sizes t u.records → choice u m ≡ Some b → (certificate_fits sizes b.certificate ≡ true) × (b.outcome ≡ result_of b.certificate)
chosen_fits sizes t u m b g e = go (eqb u.view.0 0) e
  where
    go : (z : Bool) → cond z None (best u.records m.0 u.view 16) ≡ Some b → (certificate_fits sizes b.certificate ≡ true) × (b.outcome ≡ result_of b.certificate)
    go true e = absurd (none_some refl e)
    go false e =
        let r = best_recorded u.records m.0 u.view 16 b e in
        let f = g.each r.seat r.mover r.is in
        let s : grounds_fit sizes t r.mover.view (Some b) ≡ true = ap (grounds_fit sizes t r.mover.view) (sym r.has) ∙ f.grounds in
        let q : false_basis (Some b) ≡ false = ap false_basis (sym r.has) ∙ f.true_result in
        (parts_fit sizes b.certificate (grounded sizes t r.mover.view b s).certificate_fit, sym (same_outcome_lem (result_of b.certificate) b.outcome (not-false _ q)))

draft_fits : (sizes : Sizes) (t : Change) (u : Controller) (d : Draft) → ControllerFits sizes t u → movers_fit sizes u.view (movers sizes u).0 ≡ true → draft_of sizes u ≡ Some d → DraftFits sizes u.view d
draft_fits sizes t u d g k e = from (choice u (movers sizes u)) refl e
  where
    own : (o : Option Order) → u.order ≡ o → own_draft u (movers sizes u) o ≡ Some d → DraftFits sizes u.view d
    own None q e = absurd (none_some refl e)
    own (Some o) q e = subst (DraftFits sizes u.view) (same_Some _ _ e) (record { certificate = own_fits g.papers o q; outcome = refl; movers = k })

    from : (c : Option Basis) → choice u (movers sizes u) ≡ c → draft_from u (movers sizes u) c ≡ Some d → DraftFits sizes u.view d
    from (Some b) q e = let f = chosen_fits sizes t u (movers sizes u) b g.records q in subst (DraftFits sizes u.view) (same_Some _ _ e) (record { certificate = f.0; outcome = f.1; movers = k })
    from None q e = own u.order refl e

pub drafted_some : (o : Option Draft) (d : Draft) → drafted o ≡ Ok d → o ≡ Some d
drafted_some None d e = absurd (grind (arith, e))
drafted_some (Some c) d e = let q : c ≡ d = cc in ap Some q

pub propose_turn : (sizes : Sizes) (t : Change) (u : Controller) → ControllerFits sizes t u → (own : Seal) → is_word own.0 ≡ true → Turn sizes t (propose_rule sizes t u own)
propose_turn sizes t u g own w = go (may_propose sizes t u) refl
  where
    go : (r : Res Draft RuleCause) → may_propose sizes t u ≡ r → Turn sizes t (proposing u r own)
    go (Err c) e = no
    go (Ok d) e =
        let (a, e1) = not_refused (not (leads sizes t u)) R.OutOfTurn _ d e in
        let (b, e2) = not_refused (is_some u.round.proposal) R.Repeated _ d e1 in
        let (m, e3) = not_refused (not (eqb u.view.0 0) && ltb (record_count u u.view) (quorum_of sizes)) R.MoversMissing _ d e2 in
        let f = draft_fits sizes t u d g (movers_fit_lem sizes t u g.records m) (drafted_some (draft_of sizes u) d e3) in
        let lead : eqb u.seat.0 (leader_of sizes t u.view).0 ≡ true = eq-eqb _ _ (sym (eqb-true _ _ (not-false _ a))) in
        yes (record {
          fits = hold_fits sizes t u g (proposal d.outcome d.certificate (certificate_digest d.certificate) own) (is_none _ b) (record { certificate = f.certificate; outcome = f.outcome; digest = refl; seal = w });
          sent = and_from _ _ g.view (and_from _ _ lead (and_from _ _ (outcome_number_lem sizes d.certificate d.outcome f.certificate f.outcome) (and_from _ _ f.certificate f.movers)));
        })
