-- Units stay within range, what they send is within range, and so it is read back.
use Rattle.std.proofs.Common.{◌≡◌, ℕ, ◌+◌, ◌≤◌, Bool, true, false, not, eqb, leb, Some, None, Ok, Err, Option, Result as Res, sym, refl, ap, ◌∙◌, subst, inl, inr, arith, length-append}
use Rattle.std.proofs.lemmas.List.{length-set}
use Rattle.std.proofs.lemmas.Bool.{and_parts, and_from, cond_both, ltb-true, not-true}
use Rattle.std.proofs.lemmas.Bool.Decides.{nat_tests}
use Rattle.terms.specs.declared.numbers.Change.{Change}
use Rattle.terms.specs.declared.numbers.KeyNumber.{KeyNumber}
use Rattle.terms.specs.declared.parties.Outcome.{Outcome}
use Rattle.terms.specs.declared.parties.Outcome.TheVariants.{Keep, Number}
use Rattle.terms.specs.declared.refusals.Refusal.{Refusal}
use Rattle.terms.specs.declared.refusals.RuleCause.{RuleCause}
use Rattle.terms.specs.declared.sizes.Sizes.{Sizes}
use Rattle.terms.specs.Numbers.{change, is_change, is_key, key, view_of}
use Rattle.letters.specs.declared.sorts.Seal.{Seal}
use Rattle.letters.specs.declared.certificates.Basis.{Basis}
use Rattle.letters.specs.declared.certificates.Certificate.{Certificate}
use Rattle.letters.specs.declared.bodies.Body.{Body}
use Rattle.letters.specs.declared.bodies.Body.TheVariants as B
use Rattle.letters.specs.declared.bodies.Letter.{Letter}
use Rattle.letters.specs.Bodies.{letter}
use Rattle.letters.specs.Bytes.{le8}
use Rattle.letters.specs.Layout.{body_bytes}
use Rattle.letters.specs.Ranges as Ranges
use Rattle.letters.specs.Ranges.{is_byte, is_word, number_fits, seat_fits, certificate_fits, grounds_fit, body_fits, letter_fits}
use Rattle.letters.specs.Statements.{outcome_number}
use Rattle.ballots.specs.Counts.{count_agree}
use Rattle.ballots.specs.Kinds.{same_outcome}
use Rattle.boards.specs.Boards.{Meaning, stages}
use Rattle.posting.specs.declared.few.AtMostTwo.TheVariants.{Nothing, One, Two}
use Rattle.posting.specs.Calls.{pointed}
use Rattle.posting.specs.Posting.{needed}
use Rattle.posting.specs.Replies as Replies
use Rattle.posting.specs.Replies.{Bodies}
use Rattle.controllers.specs.declared.controller.Controller.{Controller}
use Rattle.controllers.specs.Letters.{body_rule}
use Rattle.controllers.specs.Rules.{pair}
use Rattle.locks.specs.declared.lock.Lock.{Lock}
use Rattle.locks.specs.Letters as LockLetters
use Rattle.locks.specs.Rules as L
use Rattle.office.specs.declared.Office.{Office}
use Rattle.office.specs.Rules.{order_rule}
use Rattle.roundtrip.proofs.Bases.{grounded}
use Rattle.roundtrip.proofs.Back.{letters_are_read_back}
use Rattle.steps.specs.Steps.{sent_in, ControllerStep, to_controller, rings, proposes, controller_reply, controller_next, controller_sends, LockStep, to_lock, enrols, declines, lock_reply, lock_sends, office_sends}
use Rattle.steps.specs.Ranges.{ControllerFits, LockFits, controller_step_fits, lock_step_fits}
use Rattle.steps.specs.RangeLaws.{SendsInRange, NewControllersAreInRange, NewLocksAreInRange, ControllersStayInRange, ControllersSendInRange, OwnBasisIsNotLater, LocksStayInRange, LocksSendInRange, OfficeSendsInRange, ReadBack, LettersSentAreReadBack}
use Rattle.steps.specs.Outputs.{LittleIsSent}
use Rattle.writing.proofs.Lengths.{eight_length, body_length}
use Rattle.steps.proofs.Replies.{no, at_last, is_eq}
use Rattle.steps.proofs.Groups.{new_papers, new_round, new_basis, new_records}
use Rattle.steps.proofs.Turns.{AllFit, Keeps, Turn, enrol_turn, order_turn, vote_turn, ring_turn, confirm_turn, move_turn, assent_turn, proposal_turn, propose_turn}

-- ---- new units

pub new_controllers_are_in_range : NewControllersAreInRange
new_controllers_are_in_range sizes t s f = record {
  seat = f;
  view = refl;
  papers = new_papers sizes;
  round = new_round sizes t (record { 0 = 0 });
  basis = new_basis sizes t (record { 0 = 0 });
  records = new_records sizes t;
  result = refl;
}

pub new_locks_are_in_range : NewLocksAreInRange
new_locks_are_in_range sizes p f = record { place = f; receipt_rows = refl; result_rows = refl }

-- ---- controllers

body_turn : (sizes : Sizes) (t : Change) (u : Controller) → ControllerFits sizes t u → (b : Body Certificate Basis) (z own : Seal) → body_fits sizes t b ≡ true → is_word z.0 ≡ true → is_word own.0 ≡ true → Turn sizes t (body_rule sizes t u b z own)
body_turn sizes t u g (B.Enrol p) z own f wz wo = enrol_turn sizes t u g p z f wz
body_turn sizes t u g (B.Order n) z own f wz wo = order_turn sizes t u g n z f wz
body_turn sizes t u g (B.Vote p n a) z own f wz wo = vote_turn sizes t u g p n a z wz
body_turn sizes t u g (B.Proposal s v x c m) z own f wz wo =
    let f1 = and_parts (is_byte v.0) _ f in
    let f2 = and_parts (Ranges.leads sizes t v s) _ f1.1 in
    let f3 = and_parts (number_fits (outcome_number x)) _ f2.1 in
    let f4 = and_parts (certificate_fits sizes c) _ f3.1 in
    proposal_turn sizes t u g v x c m z own f4.0 wz wo
body_turn sizes t u g (B.Assent s v x d) z own f wz wo =
    let f1 = and_parts (seat_fits sizes s) _ f in
    let f2 = and_parts (is_byte v.0) _ f1.1 in
    let f3 = and_parts (not (Ranges.leads sizes t v s)) _ f2.1 in
    let f4 = and_parts (number_fits (outcome_number x)) _ f3.1 in
    assent_turn sizes t u g s v (pair x d) z f1.0 (not-true _ f3.0) f4.0 f4.1 wz
body_turn sizes t u g (B.Confirm s v x d) z own f wz wo =
    let f1 = and_parts (seat_fits sizes s) _ f in
    let f2 = and_parts (is_byte v.0) _ f1.1 in
    let f3 = and_parts (number_fits (outcome_number x)) _ f2.1 in
    confirm_turn sizes t u g s v (pair x d) f3.0
body_turn sizes t u g (B.Move s v b) z own f wz wo =
    let f1 = and_parts (seat_fits sizes s) _ f in
    let f2 = and_parts (is_byte v.0) _ f1.1 in
    let f3 = and_parts (not (eqb v.0 0)) _ f2.1 in
    move_turn sizes t u g s v b f1.0 f2.0 (not-true _ f3.0) f3.1
body_turn sizes t u g b z own f wz wo = no

-- what a letter of this change within range says of its body
body_fits_lem : (sizes : Sizes) (t : Change) (l : Letter Certificate Basis) → letter_fits sizes l ≡ true → not (eqb l.change.0 t.0) ≡ false → (is_word l.seal.0 ≡ true) × (body_fits sizes t l.body ≡ true)
body_fits_lem sizes t l f e =
    let f1 = and_parts (is_change l.change.0) _ f in
    let f2 = and_parts (is_word l.seal.0) _ f1.1 in
    let same : l.change ≡ t = ap change (is_eq l.change.0 t.0 e) in
    (f2.0, subst (λ c. body_fits sizes c l.body ≡ true) same f2.1)

step_turn : (sizes : Sizes) (t : Change) (u : Controller) (s : ControllerStep) (own : Seal) → controller_step_fits sizes s ≡ true → is_word own.0 ≡ true → ControllerFits sizes t u → Turn sizes t (controller_reply sizes t u s own)
unfolding controller_reply
step_turn sizes t u (to_controller l) own f w g = cond_both (not (eqb l.change.0 t.0)) _ _ (Turn sizes t) (λ _. no) (λ e. let b = body_fits_lem sizes t l f e in body_turn sizes t u g l.body l.seal own b.1 b.0 w)
step_turn sizes t u rings own f w g = ring_turn sizes t u g
step_turn sizes t u proposes own f w g = propose_turn sizes t u g own w

step_keeps : (sizes : Sizes) (t : Change) (u : Controller) (s : ControllerStep) (own : Seal) → controller_step_fits sizes s ≡ true → is_word own.0 ≡ true → ControllerFits sizes t u → Keeps sizes t (controller_next sizes t u s own) (controller_sends sizes t u s own)
step_keeps sizes t u s own f w g = at_last (Keeps sizes t) u (controller_reply sizes t u s own) (record { fits = g; sent = tt }) (step_turn sizes t u s own f w g)

each_fits : (sizes : Sizes) (t : Change) (bs : Bodies) → AllFit sizes t bs → SendsInRange sizes t bs
each_fits sizes t Nothing a b i = absurd i
each_fits sizes t (One c) a b i = ap (body_fits sizes t) (sym i) ∙ a
each_fits sizes t (Two c d) a b (inl i) = ap (body_fits sizes t) (sym i) ∙ a.0.0
each_fits sizes t (Two c d) a b (inr i) = ap (body_fits sizes t) (sym i) ∙ a.0.1

-- and all of them take few bytes
few_bytes : (sizes : Sizes) (t : Change) (bs : Bodies) → AllFit sizes t bs → needed t bs ≤ 253
few_bytes sizes t Nothing a = omega arith
few_bytes sizes t (One b) a = omega (arith, length-append (body_bytes t b) (le8 0), eight_length 0, body_length sizes t b a)
few_bytes sizes t (Two b c) a = a.1

pub controllers_stay_in_range : ControllersStayInRange
controllers_stay_in_range sizes t u s own f w g = (step_keeps sizes t u s own f w g).fits

pub controllers_send_in_range : ControllersSendInRange
controllers_send_in_range sizes t u s own f w g = each_fits sizes t (controller_sends sizes t u s own) (step_keeps sizes t u s own f w g).sent

pub own_basis_is_not_later : OwnBasisIsNotLater
own_basis_is_not_later sizes t u b g e =
    let f : grounds_fit sizes t (view_of (u.view.0 + 1)) (Some b) ≡ true = ap (grounds_fit sizes t (view_of (u.view.0 + 1))) (sym e) ∙ g.basis.grounds in
    let l = ltb-true _ _ (grounded sizes t (view_of (u.view.0 + 1)) b f).below in
    omega (arith, l)

-- ---- locks

pub locks_stay_in_range : LocksStayInRange
unfolding lock_reply
locks_stay_in_range sizes t k m (to_lock l) g = record { place = grind (arith, nat_tests); receipt_rows = grind (arith, nat_tests, length-set); result_rows = grind (arith, nat_tests, length-set) }
locks_stay_in_range sizes t k m enrols g = grind (arith, nat_tests)
locks_stay_in_range sizes t k m declines g = grind (arith, nat_tests)

abbrev LockSends : Sizes → Change → L.Reply → Type 0
LockSends sizes t r = AllFit sizes t (sent_in (L.replied r))

lock_passes : (sizes : Sizes) (t : Change) (g : Res (Unit {0}) RuleCause) (rest : L.Reply) → LockSends sizes t rest → LockSends sizes t (L.passing g rest)
lock_passes sizes t (Err c) rest a = tt
lock_passes sizes t (Ok x) rest a = a

summoned_fits : (sizes : Sizes) (t : Change) (k : Lock) (b : Bool) (n : KeyNumber) → LockFits sizes k → is_key n.0 ≡ true → LockSends sizes t (L.summoned k b n)
summoned_fits sizes t k true n g f = and_from _ _ g.place f
summoned_fits sizes t k false n g f = and_from _ _ g.place f

ended_fits : (sizes : Sizes) (t : Change) (k : Lock) (x : Outcome) → LockSends sizes t (L.counted sizes k x)
ended_fits sizes t k x = cond_both (leb (sizes.faults + 1) (count_agree same_outcome x k.results)) (L.ended_by k x) (L.served k L.nothing Nothing) (LockSends sizes t) (λ _. ends x) (λ _. tt)
  where
    ends : (x : Outcome) → LockSends sizes t (L.ended_by k x)
    ends Keep = tt
    ends (Number n) = tt

lock_body : (sizes : Sizes) (t : Change) (k : Lock) (m : Meaning) (b : Body Certificate Basis) → LockFits sizes k → body_fits sizes t b ≡ true → LockSends sizes t (LockLetters.body_rule sizes k m b)
lock_body sizes t k m (B.Receipt s p) g f = lock_passes sizes t (L.may_receipt k s p) _ tt
lock_body sizes t k m (B.Summons s n z) g f =
    let f1 = and_parts (seat_fits sizes s) _ f in
    let f2 = and_parts (is_key n.0) _ f1.1 in
    lock_passes sizes t (L.may_summon k) _ (summoned_fits sizes t k (stages m k.place n) n g f2.0)
lock_body sizes t k m (B.Result s x) g f = lock_passes sizes t (L.may_result k m s x) _ (ended_fits sizes t (L.resulted k s x) x)
lock_body sizes t k m b g f = tt

lock_step : (sizes : Sizes) (t : Change) (k : Lock) (m : Meaning) (s : LockStep) → lock_step_fits sizes s ≡ true → LockFits sizes k → LockSends sizes t (lock_reply sizes t k m s)
unfolding lock_reply
lock_step sizes t k m (to_lock l) f g = cond_both (not (eqb l.change.0 t.0)) _ _ (LockSends sizes t) (λ _. tt) (λ e. lock_body sizes t k m l.body g (body_fits_lem sizes t l f e).1)
lock_step sizes t k m enrols f g = lock_passes sizes t (L.may_apply k) _ g.place
lock_step sizes t k m declines f g = lock_passes sizes t (L.may_decline k) _ tt

pub locks_send_in_range : LocksSendInRange
locks_send_in_range sizes t k m s f g = each_fits sizes t (lock_sends sizes t k m s) (lock_step sizes t k m s f g)

-- ---- the office

office_fits : (sizes : Sizes) (t : Change) (o : Office) (n : Option ℕ) → AllFit sizes t (office_sends o n)
office_fits sizes t o n = orders n
  where
    ruled : (n : Option KeyNumber) → number_fits n ≡ true → AllFit sizes t (sent_in (pointed 0 (order_rule o n)))
    ruled n f = cond_both o.ordered _ _ (λ (r : Replies.Reply RuleCause Office). AllFit sizes t (sent_in (pointed 0 r))) (λ _. tt) (λ _. f)

    orders : (n : Option ℕ) → AllFit sizes t (office_sends o n)
    orders None = ruled None refl
    orders (Some n) = cond_both (is_key n) _ _ (λ (r : Replies.Reply Refusal Office). AllFit sizes t (sent_in r)) (λ e. ruled (Some (key n)) e) (λ _. tt)

pub office_sends_in_range : OfficeSendsInRange
office_sends_in_range sizes t o n = each_fits sizes t (office_sends o n) (office_fits sizes t o n)

pub little_is_sent : LittleIsSent
little_is_sent = record {
  of_controllers = λ sizes t u s own f w g. few_bytes sizes t (controller_sends sizes t u s own) (step_keeps sizes t u s own f w g).sent;
  of_locks = λ sizes t k m s f g. few_bytes sizes t (lock_sends sizes t k m s) (lock_step sizes t k m s f g);
  of_the_office = λ sizes t o n. few_bytes sizes t (office_sends o n) (office_fits sizes t o n);
}

-- ---- reading back

reads_back : (sizes : Sizes) (t : Change) (bs : Bodies) → is_change t.0 ≡ true → SendsInRange sizes t bs → ReadBack sizes t bs
reads_back sizes t bs c a b z i w = letters_are_read_back sizes (letter t b z) (and_from _ _ c (and_from _ _ w (a b i)))

pub letters_sent_are_read_back : LettersSentAreReadBack
letters_sent_are_read_back = record {
  of_controllers = λ sizes t u s own c f w g. reads_back sizes t (controller_sends sizes t u s own) c (controllers_send_in_range sizes t u s own f w g);
  of_locks = λ sizes t k m s c f g. reads_back sizes t (lock_sends sizes t k m s) c (locks_send_in_range sizes t k m s f g);
  of_the_office = λ sizes t o n c. reads_back sizes t (office_sends o n) c (office_sends_in_range sizes t o n);
}
