-- What a controller sends, and when.
use Rattle.std.proofs.Common.{◌≡◌, ◌+◌, ◌*◌, ◌<◌, true, not, ◌&&◌, eqb, ltb, leb, ◌⊎◌, List, [], ◌∷◌, ◌++◌, set, is_some, Some, None, Ok, Err, Option, Result as Res, sym, refl, ap, subst, ap₂, inl, inr, arith}
use Rattle.std.proofs.lemmas.List.{get_or-set_same}
use Rattle.std.proofs.lemmas.Option.{none-some, same_Some}
use Rattle.std.proofs.lemmas.Bool.{and_parts, not-false, not-true, cond_both, ltb-true}
use Rattle.terms.specs.declared.numbers.Change.{Change}
use Rattle.terms.specs.declared.numbers.KeyNumber.{KeyNumber}
use Rattle.terms.specs.declared.numbers.Place.{Place}
use Rattle.terms.specs.declared.numbers.Seat.{Seat}
use Rattle.terms.specs.declared.numbers.View.{View}
use Rattle.terms.specs.declared.parties.Outcome.{Outcome}
use Rattle.terms.specs.declared.refusals.RuleCause.{RuleCause}
use Rattle.terms.specs.declared.refusals.RuleCause.TheVariants as R
use Rattle.terms.specs.declared.sizes.Sizes.{Sizes}
use Rattle.terms.specs.Numbers.{view_of}
use Rattle.terms.specs.Sizes.{quorum_of}
use Rattle.letters.specs.declared.sorts.Answer.{Answer}
use Rattle.letters.specs.declared.sorts.Digest.{Digest}
use Rattle.letters.specs.declared.sorts.Seal.{Seal}
use Rattle.letters.specs.declared.sorts.SeatSet.{SeatSet}
use Rattle.letters.specs.declared.certificates.Basis.{Basis}
use Rattle.letters.specs.declared.certificates.Certificate.{Certificate}
use Rattle.letters.specs.declared.bodies.Body.{Body}
use Rattle.letters.specs.declared.bodies.Body.TheVariants as B
use Rattle.letters.specs.Certificates.{certificate_digest}
use Rattle.ballots.specs.declared.Pair.{Pair}
use Rattle.ballots.specs.Counts.{count_agree}
use Rattle.ballots.specs.Kinds.{same_pair}
use Rattle.posting.specs.declared.few.AtMostTwo.TheVariants.{Nothing, One, Two}
use Rattle.posting.specs.Replies.{Bodies, after}
use Rattle.controllers.specs.declared.controller.Controller.{Controller}
use Rattle.controllers.specs.declared.controller.Draft.{Draft}
use Rattle.controllers.specs.declared.controller.Proposal.{Proposal}
use Rattle.controllers.specs.Letters.{body_rule}
use Rattle.controllers.specs.Rules.{Reply, may_enrol, enrol_rule, may_order, order_rule, may_vote, vote_rule, pair, pair_of, proposal, leads, may_hold, proposal_rule, confirmed_here, concludes, may_assent, with_round, assented, basis_from, confirmed_own, confirming, assent_counted, assent_rule, confirmed, may_confirm, confirm_rule, enter_view, may_move, record_count, move_record, with_records, move_rule, may_ring, ring_rule, may_propose, proposing, propose_rule}
use Rattle.steps.specs.Steps.{Sends, ControllerStep, to_controller, rings, proposes, controller_reply, controller_next, controller_sends}
use Rattle.steps.specs.Laws.{Voice, voice, voice_of, BasisFrom, SpokenOnce, ConfirmedNow, ResultTaken, MovedOn, ReceiptGiven, OneVoiceAView, ConfirmOnlyInThePresentView, ResultSentWhenTaken, MoveOnlyToALaterView, ReceiptOnlyBeforeAnOrder}
use Rattle.steps.specs.Voices.{listed, voices_in}
use Rattle.steps.proofs.Replies.{Serves, no, yes, at_last, passes, either, not_refused, was_given, is_none, same_pair_lem}

-- what a letter that is sent says of the controller before and after
abbrev Said : Controller → Controller → Body Certificate Basis → Type 0
Said u v (B.Receipt s p) = ReceiptGiven u v s p
Said u v (B.Proposal s w x c m) = SpokenOnce u v (voice s w x (certificate_digest c))
Said u v (B.Assent s w x d) = SpokenOnce u v (voice s w x d)
Said u v (B.Confirm s w x d) = ConfirmedNow u v s w x d
Said u v (B.Result s x) = ResultTaken u v s x
Said u v (B.Move s w b) = MovedOn u v s w b
Said u v b = Unit {0}

abbrev AllSaid : Controller → Controller → Bodies → Type 0
AllSaid u v Nothing = Unit {0}
AllSaid u v (One b) = Said u v b
AllSaid u v (Two b c) = (Said u v b × Said u v c) × ((voice_of b ≡ None) × (voice_of c ≡ None))

abbrev Speaks : Controller → Reply → Type 0
Speaks u r = Serves (AllSaid u) r

enters : (u : Controller) (w : View) → u.view.0 < w.0 → Speaks u (enter_view u w)
enters u w h = yes (record { sender = refl; later = h; entered = refl; basis = refl })

ring_says : (u : Controller) → Speaks u (ring_rule u)
ring_says u = passes (may_ring u) _ (λ _. enters u (view_of (u.view.0 + 1)) (omega arith))

enrol_says : (u : Controller) (p : Place) (z : Seal) → Speaks u (enrol_rule u p z)
enrol_says u p z = passes (may_enrol u p) _ (λ e.
    yes (record {
      sender = refl;
      unordered = is_none _ (not_refused (is_some u.order) R.OutOfTurn _ tt e).0;
      registered = λ l. ap is_some (get_or-set_same u.registered p.0 (Some z) None l);
    }))

order_says : (u : Controller) (n : Option KeyNumber) (z : Seal) → Speaks u (order_rule u n z)
order_says u None z = passes (may_order u.order None) _ (λ _. yes tt)
order_says u n z = passes (may_order u.order n) _ (λ _. yes tt)

vote_says : (u : Controller) (p : Place) (n : KeyNumber) (a : Answer) (z : Seal) → Speaks u (vote_rule u p n a z)
vote_says u p n a z = passes (may_vote u p n) _ (λ _. yes tt)

-- no proposal was held
unheld : (sizes : Sizes) (t : Change) (u : Controller) (v : View) (x : Outcome) (c : Certificate) (d : Digest) (m : SeatSet) → may_hold sizes t u v x c d m ≡ Ok tt → u.round.proposal ≡ None
unheld sizes t u v x c d m e =
    let (_, e1) = not_refused (not (eqb v.0 u.view.0)) R.OtherView _ tt e in
    let (_, e2) = not_refused (leads sizes t u) R.OutOfTurn _ tt e1 in
    is_none _ (not_refused (is_some u.round.proposal) R.Repeated _ tt e2).0

proposal_says : (sizes : Sizes) (t : Change) (u : Controller) (v : View) (x : Outcome) (c : Certificate) (m : SeatSet) (z own : Seal) → Speaks u (proposal_rule sizes t u v x c m z own)
proposal_says sizes t u v x c m z own = passes (may_hold sizes t u v x c (certificate_digest c) m) _ (λ e.
    yes (record {
      sender = refl;
      present = refl;
      same_view_holds = refl;
      unspoken = unheld sizes t u v x c (certificate_digest c) m e;
      holds = record { proposal = proposal x c (certificate_digest c) z; holds = refl; outcome = refl; digest = refl };
    }))

-- the proposal for which an assent or a confirm is taken
pub record Held (u : Controller) (x : Pair) : Type 0 where
  pub held : Proposal
  pub is : u.round.proposal ≡ Some held
  pub for : x ≡ pair_of held

pub assent_held : (sizes : Sizes) (u : Controller) (s : Seat) (v : View) (x : Pair) → may_assent sizes u s v x ≡ Ok tt → Held u x
assent_held sizes u s v x e =
    let (_, e1) = not_refused (not (eqb v.0 u.view.0)) R.OtherView _ tt e in
    let g = was_given u.round.proposal R.OutOfTurn _ e1 in
    record { held = g.value; is = g.is; for = same_pair_lem _ _ (not-false _ (not_refused (not (same_pair x (pair_of g.value))) R.Differs _ tt g.then).0) }

-- no result was held where one is taken
untaken : (sizes : Sizes) (u : Controller) (x : Pair) → concludes sizes u x ≡ true → u.result ≡ None
untaken sizes u x e = is_none _ (not-true _ (and_parts (leb (quorum_of sizes) (count_agree same_pair x u.round.confirms)) _ (and_parts (confirmed_here u) _ e).1).1)

assent_says : (sizes : Sizes) (u : Controller) (s : Seat) (v : View) (x : Pair) (z : Seal) → Speaks u (assent_rule sizes u s v x z)
unfolding confirming
assent_says sizes u s v x z = passes (may_assent sizes u s v x) _ (λ e. counted (assent_held sizes u s v x e))
  where
    w : Controller
    w = with_round u (assented u.round s x z)

    says : (p : Proposal) → u.round.proposal ≡ Some p → x ≡ pair_of p → Speaks u (confirming sizes w x (Some p))
    says p e q =
        let now : (v : Controller) → v.view ≡ u.view → v.basis ≡ Some (basis_from w p) → ConfirmedNow u v u.seat u.view x.outcome x.digest
        = λ v a b. record { sender = refl; present = refl; same_view_holds = a; held = record { proposal = p; holds = e; outcome = ap (λ (y : Pair). y.outcome) (sym q); digest = ap (λ (y : Pair). y.digest) (sym q) }; basis = basis_from w p; based = b; basis_view = refl; basis_outcome = ap (λ (y : Pair). y.outcome) (sym q) } in
        yes (either (AllSaid u) (concludes sizes (confirmed_own w p x) x)
        (λ c. ((now _ refl refl, record { sender = refl; before = untaken sizes (confirmed_own w p x) x c; taken = refl }), (refl, refl)))
        (λ _. now _ refl refl))

    counted : Held u x → Speaks u (assent_counted sizes w x)
    counted h = cond_both (leb (2 * sizes.faults) (count_agree same_pair x w.round.assents)) _ _ (Speaks u)
        (λ _. subst (λ o. Speaks u (confirming sizes w x o)) (sym h.is) (says h.held h.is h.for))
        (λ _. yes tt)

-- the basis stays, or is one of the present view
abbrev pub Bases : Controller → Controller → Type 0
Bases u v = (v.basis ≡ u.basis) ⊎ BasisFrom u.view v.basis

pub assent_bases : (sizes : Sizes) (u : Controller) (s : Seat) (v : View) (x : Pair) (z : Seal) → Bases u (after u (assent_rule sizes u s v x z))
unfolding confirming
assent_bases sizes u s v x z = at_last P u (assent_rule sizes u s v x z) (inl refl) (passes (may_assent sizes u s v x) _ (λ e. counted (assent_held sizes u s v x e)))
  where
    P : Controller → Bodies → Type 0
    P v bs = Bases u v

    w : Controller
    w = with_round u (assented u.round s x z)

    counted : Held u x → Serves P (assent_counted sizes w x)
    counted h = cond_both (leb (2 * sizes.faults) (count_agree same_pair x w.round.assents)) _ _ (Serves P)
        (λ _. subst (λ o. Serves P (confirming sizes w x o)) (sym h.is) (yes (cond_both (concludes sizes (confirmed_own w h.held x) x) _ _ (Bases u)
        (λ _. inr (record { basis = basis_from w h.held; holds = refl; no_lower = omega arith }))
        (λ _. inr (record { basis = basis_from w h.held; holds = refl; no_lower = omega arith })))))
        (λ _. yes (inl refl))

confirm_says : (sizes : Sizes) (u : Controller) (s : Seat) (v : View) (x : Pair) → Speaks u (confirm_rule sizes u s v x)
confirm_says sizes u s v x = passes (may_confirm u s v x) _ (λ e.
    yes (either (AllSaid u) (concludes sizes w x) (λ c. record { sender = refl; before = untaken sizes w x c; taken = refl }) (λ _. tt)))
  where
    w : Controller
    w = with_round u (confirmed u.round s x)

move_says : (sizes : Sizes) (u : Controller) (s : Seat) (v : View) (b : Option Basis) → Speaks u (move_rule sizes u s v b)
move_says sizes u s v b = passes (may_move u s v b) _ (λ _.
    cond_both (ltb u.view.0 v.0 && leb (sizes.faults + 1) (record_count w v)) _ _ (Speaks u)
    (λ e. yes (record { sender = refl; later = ltb-true _ _ (and_parts _ _ e).0; entered = refl; basis = refl }))
    (λ _. yes tt))
  where
    w : Controller
    w = with_records u (set u.records s.0 (Some (move_record v b)))

-- what a leader may propose
pub propose_unheld : (sizes : Sizes) (t : Change) (u : Controller) (d : Draft) → may_propose sizes t u ≡ Ok d → u.round.proposal ≡ None
propose_unheld sizes t u d e =
    let (_, e1) = not_refused (not (leads sizes t u)) R.OutOfTurn _ d e in
    is_none _ (not_refused (is_some u.round.proposal) R.Repeated _ d e1).0

propose_says : (sizes : Sizes) (t : Change) (u : Controller) (own : Seal) → Speaks u (propose_rule sizes t u own)
propose_says sizes t u own = go (may_propose sizes t u) refl
  where
    go : (r : Res Draft RuleCause) → may_propose sizes t u ≡ r → Speaks u (proposing u r own)
    go (Err c) e = no
    go (Ok d) e = yes (record {
      sender = refl;
      present = refl;
      same_view_holds = refl;
      unspoken = propose_unheld sizes t u d e;
      holds = record { proposal = proposal d.outcome d.certificate (certificate_digest d.certificate) own; holds = refl; outcome = refl; digest = refl };
    })

body_says : (sizes : Sizes) (t : Change) (u : Controller) (b : Body Certificate Basis) (z own : Seal) → Speaks u (body_rule sizes t u b z own)
body_says sizes t u (B.Enrol p) z own = enrol_says u p z
body_says sizes t u (B.Order n) z own = order_says u n z
body_says sizes t u (B.Vote p n a) z own = vote_says u p n a z
body_says sizes t u (B.Proposal s v x c m) z own = proposal_says sizes t u v x c m z own
body_says sizes t u (B.Assent s v x d) z own = assent_says sizes u s v (pair x d) z
body_says sizes t u (B.Confirm s v x d) z own = confirm_says sizes u s v (pair x d)
body_says sizes t u (B.Move s v b) z own = move_says sizes u s v b
body_says sizes t u b z own = no

step_says : (sizes : Sizes) (t : Change) (u : Controller) (s : ControllerStep) (own : Seal) → Speaks u (controller_reply sizes t u s own)
unfolding controller_reply
step_says sizes t u (to_controller l) own = cond_both (not (eqb l.change.0 t.0)) _ _ (Speaks u) (λ _. no) (λ _. body_says sizes t u l.body l.seal own)
step_says sizes t u rings own = ring_says u
step_says sizes t u proposes own = propose_says sizes t u own

one_said : (u v : Controller) (bs : Bodies) (b : Body Certificate Basis) → AllSaid u v bs → Sends bs b → Said u v b
one_said u v Nothing b a i = absurd i
one_said u v (One c) b a i = rw (← i) a
one_said u v (Two c d) b a (inl i) = rw (← i) a.0.0
one_said u v (Two c d) b a (inr i) = rw (← i) a.0.1

all_said : (sizes : Sizes) (t : Change) (u : Controller) (s : ControllerStep) (own : Seal) → AllSaid u (controller_next sizes t u s own) (controller_sends sizes t u s own)
all_said sizes t u s own = at_last (AllSaid u) u (controller_reply sizes t u s own) tt (step_says sizes t u s own)

said : (sizes : Sizes) (t : Change) (u : Controller) (s : ControllerStep) (own : Seal) (b : Body Certificate Basis) → Sends (controller_sends sizes t u s own) b → Said u (controller_next sizes t u s own) b
said sizes t u s own b i = one_said u (controller_next sizes t u s own) (controller_sends sizes t u s own) b (all_said sizes t u s own) i

voiced : (u v : Controller) (b : Body Certificate Basis) (k : Voice) → voice_of b ≡ Some k → Said u v b → SpokenOnce u v k
voiced u v (B.Proposal s w x c m) k e a = rw (← (same_Some _ _ e)) a
voiced u v (B.Assent s w x d) k e a = rw (← (same_Some _ _ e)) a
voiced u v b k e a = absurd (none-some k e)

pub one_voice_a_view : OneVoiceAView
one_voice_a_view sizes t u s own b k i e = voiced u (controller_next sizes t u s own) b k e (said sizes t u s own b i)

pub confirm_only_in_the_present_view : ConfirmOnlyInThePresentView
confirm_only_in_the_present_view sizes t u s own q w x d i = said sizes t u s own (B.Confirm q w x d) i

pub result_sent_when_taken : ResultSentWhenTaken
result_sent_when_taken sizes t u s own q x i = said sizes t u s own (B.Result q x) i

pub move_only_to_a_later_view : MoveOnlyToALaterView
move_only_to_a_later_view sizes t u s own q w b i = said sizes t u s own (B.Move q w b) i

pub receipt_only_before_an_order : ReceiptOnlyBeforeAnOrder
receipt_only_before_an_order sizes t u s own q p i = said sizes t u s own (B.Receipt q p) i

-- the voices of a step: none, or one
pub data Spoke (u v : Controller) (ks : List Voice) : Type 0 where
  silent : ks ≡ [] → Spoke u v ks
  spoken : (k : Voice) → ks ≡ k ∷ [] → SpokenOnce u v k → Spoke u v ks

pub step_spoke : (sizes : Sizes) (t : Change) (u : Controller) (s : ControllerStep) (own : Seal) → Spoke u (controller_next sizes t u s own) (voices_in (controller_sends sizes t u s own))
step_spoke sizes t u s own = go (controller_next sizes t u s own) (controller_sends sizes t u s own) (all_said sizes t u s own)
  where
    one : (v : Controller) (b : Body Certificate Basis) (o : Option Voice) → voice_of b ≡ o → Said u v b → Spoke u v (listed o)
    one v b None e a = silent refl
    one v b (Some k) e a = spoken k refl (voiced u v b k e a)

    go : (v : Controller) (bs : Bodies) → AllSaid u v bs → Spoke u v (voices_in bs)
    go v Nothing a = silent refl
    go v (One b) a = one v b (voice_of b) refl a
    go v (Two b c) a = silent (ap₂ (λ x y. listed x ++ listed y) a.1.0 a.1.1)
