-- Every call of a sound list keeps what holds of the vault.
use Rattle.std.proofs.Common.{◌≡◌, ℕ, ◌+◌, ◌-◌, ◌<◌, ◌≤◌, true, false, cond, not, eqb, ltb, leb, List, ◌∷◌, length, Some, None, Ok, Err, Option, Result as Res, sym, refl, ap, ◌∙◌, subst, arith}
use Rattle.std.proofs.lemmas.Bool.{cond_both, eqb-true, ne_eqb, and_parts, and_left, leb-false, ltb-true, not-false, true≢false}
use Rattle.terms.specs.declared.numbers.Change.{Change}
use Rattle.terms.specs.declared.numbers.KeyNumber.{KeyNumber}
use Rattle.terms.specs.declared.numbers.Place.{Place}
use Rattle.terms.specs.declared.numbers.Seat.{Seat}
use Rattle.terms.specs.declared.parties.Party.{Party}
use Rattle.terms.specs.declared.parties.Party.TheVariants as P
use Rattle.terms.specs.declared.refusals.Refusal.{Refusal}
use Rattle.terms.specs.declared.refusals.RuleCause.{RuleCause}
use Rattle.terms.specs.declared.refusals.RuleCause.TheVariants as RC
use Rattle.terms.specs.Numbers.{is_change, is_key, key, seat, place}
use Rattle.terms.specs.Parties.{seat_in, place_in, party_in, as_lock, as_controller}
use Rattle.letters.specs.declared.bodies.Body.{Body}
use Rattle.letters.specs.declared.bodies.Body.TheVariants as B
use Rattle.letters.specs.declared.bodies.Letter.{Letter}
use Rattle.letters.specs.Ranges.{is_word, body_fits, letter_fits}
use Rattle.letters.specs.Inner.{inner_borne}
use Rattle.reading.specs.Form.{read}
use Rattle.reading.specs.Parts.{Span, Spans}
use Rattle.kept.specs.Kept.{kept, kept_body}
use Rattle.roundtrip.specs.Laws.{Bytes}
use Rattle.roundtrip.proofs.Once.{what_is_read_is_in_range}
use Rattle.boards.specs.Boards.{Meaning, in_force}
use Rattle.seals.specs.Opening.{opening, sender_borne}
use Rattle.posting.specs.declared.few.AtMostTwo.TheVariants.{One}
use Rattle.posting.specs.declared.few.Seals.{Seals}
use Rattle.posting.specs.Calls.{has_room, pointed}
use Rattle.posting.specs.Posting.{are_words}
use Rattle.posting.specs.Replies.{Reply, refused, served}
use Rattle.controllers.specs.declared.controller.Controller.{Controller}
use Rattle.locks.specs.declared.lock.Lock.{Lock}
use Rattle.locks.specs.Letters as LL
use Rattle.locks.specs.Rules as L
use Rattle.office.specs.declared.Office.{Office}
use Rattle.office.specs.Rules.{office, order_rule, order_reply, number_out_of_range}
use Rattle.steps.specs.Ranges.{controller_step_fits, lock_step_fits}
use Rattle.steps.specs.Steps.{ControllerStep, to_controller, rings, proposes, controller_reply, LockStep, to_lock, enrols, declines, lock_reply}
use Rattle.steps.proofs.Controllers.{seat_stays}
use Rattle.steps.proofs.Within.{controllers_stay_in_range, controllers_send_in_range, locks_stay_in_range, locks_send_in_range, office_sends_in_range, little_is_sent}
use Rattle.steps.proofs.Outputs.{output_is_read_back}
use Rattle.agreement.specs.Seats.{Seats, faulty}
use Rattle.agreement.specs.Calls as Q
use Rattle.agreement.specs.Calls.{Vault, State, controller_at, lock_at, Request, Call, Went, Turn, halted, unopened, of_controller, of_lock, of_office, asks_controller, asks_lock, opens, after_opening, letter_to_controller, letter_to_lock, handed_to, turn_for, turn_went, sender, step}
use Rattle.agreement.specs.Runs.{Given, InBytes, Fair, Unforged, is_receipt, reads_receipt, hands_receipt}
use Rattle.agreement.proofs.Meet.{seats, Honest}
use Rattle.agreement.proofs.Words.{lock_party, log_of}
use Rattle.agreement.proofs.Mirror.{faults}
use Rattle.agreement.proofs.Steps.{Good}
use Rattle.agreement.proofs.Turns as T
use Rattle.agreement.proofs.Turns.{Keeps, Vouched}
use Rattle.agreement.proofs.PerRule.{ring_turn, propose_turn}
use Rattle.agreement.proofs.Letters.{body_keeps, lock_body_fine}
use Rattle.agreement.proofs.Locks as F
use Rattle.agreement.proofs.Locks.{LockInv, Fine, enrol_fine, decline_fine}
use Rattle.agreement.proofs.Senders.{Own, no, yes, one, OwnLock, controller_own, enrol_own, decline_own, lock_letter_own}
use Rattle.agreement.proofs.Bridge.{opened, vouched}
use Rattle.agreement.proofs.World.{World}
use Rattle.agreement.proofs.Served.{After, none_served, controller_turn, office_turn, lock_turn}

same_change : (a b : Change) → a.0 ≡ b.0 → a ≡ b
same_change a b e = λ i. record { 0 = e i }

-- a lock reads the same of a letter and of what is kept of it
same_rule : (R : Vault) (k : Lock) (m : Meaning) (b : Body Span Spans) → LL.body_rule R.sizes k m (kept_body b) ≡ LL.body_rule R.sizes k m b
same_rule R k m (B.Enrol p) = refl
same_rule R k m b = refl

same_receipt : (b : Body Span Spans) → is_receipt (kept_body b) ≡ is_receipt b
same_receipt (B.Enrol p) = refl
same_receipt b = refl

rule_own : (o : Office) (n : Option KeyNumber) → Own P.Office (pointed 0 (order_rule o n))
rule_own o n = cond_both o.ordered (refused RC.Repeated) (served (office true) (One (B.Order n))) (λ (r : Reply RuleCause Office). Own P.Office (pointed 0 r)) (λ _. no) (λ _. yes (one refl))

order_own : (o : Office) (n : Option ℕ) → Own P.Office (order_reply o n)
order_own o None = rule_own o None
order_own o (Some n) = cond_both (is_key n) (pointed 0 (order_rule o (Some (key n)))) (refused number_out_of_range) (λ (r : Reply Refusal Office). Own P.Office r) (λ _. rule_own o (Some (key n))) (λ _. no)

module _ {R : Vault} (honest : Seats) {from s : State} {gs : List Given} {n : ℕ → ℕ} (W : World R (faulty honest) from s gs n) (call : Call) (zs : Seals) (words : are_words zs ≡ true) where
  t : Seats
  t = faulty honest

  abbrev Leaves : Turn → Type 0
  Leaves turn = After W call zs (turn_went R.change s call zs turn)

  stopped : (e : Refusal) → Leaves (halted e)
  stopped e = none_served W call zs W

  word1 : is_word zs.first.0 ≡ true
  word1 = (and_parts (is_word zs.first.0) _ words).0

  controller_call : (h : ℕ) → h < seats (faults R) → ((p : ℕ) → hands_receipt R p call.request ≡ false) → (to : ℕ) (c : ControllerStep) → controller_step_fits R.sizes c ≡ true
      → ((o : Honest (faults R) (faulty honest) (controller_at s h).seat.0) → Good R (faulty honest) (log_of gs) (controller_at s h).seat.0 (controller_at s h) → Keeps R (faulty honest) (log_of gs) (controller_at s h).seat.0 (controller_reply R.sizes R.change (controller_at s h) c zs.first))
      → Leaves (of_controller h (λ own. pointed to (controller_reply R.sizes R.change (controller_at s h) c own)))
  controller_call h lt quiet to c fit keeps =
      controller_turn W call zs h lt quiet to (controller_reply R.sizes R.change u c zs.first)
      (controller_own R.sizes R.change u c zs.first)
      (seat_stays R.sizes R.change u c zs.first)
      (controllers_stay_in_range R.sizes R.change u c zs.first fit word1 (W.seat_fits_holds h lt))
      (controllers_send_in_range R.sizes R.change u c zs.first fit word1 (W.seat_fits_holds h lt))
      (λ lengths e. output_is_read_back.of_controllers R.sizes R.change u c to W.numbered fit (W.seat_fits_holds h lt) zs call.out call.scratch lengths words e)
      (λ o. subst (λ (x : ℕ). Keeps R (faulty honest) (log_of gs) x (controller_reply R.sizes R.change u c zs.first)) at
      (keeps (subst (Honest (faults R) (faulty honest)) (sym at) o) (subst (λ (x : ℕ). Good R (faulty honest) (log_of gs) x u) (sym at) (record { rules = W.rules; mirror = W.mirrors h o }))))
    where
      u : Controller
      u = controller_at s h

      at : u.seat.0 ≡ h
      at = ap {A = Seat} (λ x. x.0) (W.seated h lt)

  abbrev was : ℕ → Option KeyNumber
  was p = in_force from.board (place p)

  lock_inv : (p : ℕ) → p < R.sizes.locks → faulty honest (lock_party (lock_at s p).place.0) ≡ false → LockInv R (faulty honest) (log_of gs) (lock_at s p).place.0 (was p) (lock_at s p) (in_force s.board (lock_at s p).place) (n p)
  lock_inv p lt = subst (λ (x : Place). faulty honest (lock_party x.0) ≡ false → LockInv R (faulty honest) (log_of gs) x.0 (was p) (lock_at s p) (in_force s.board x) (n p)) (sym (W.placed p lt)) (W.locks p lt)

  lock_call : (p : ℕ) → p < R.sizes.locks → (more : ℕ) → ((q : ℕ) → hands_receipt R q call.request ≡ true → (q ≡ p) × (1 ≤ more)) → (to : ℕ) (c : LockStep) → lock_step_fits R.sizes c ≡ true
      → OwnLock (P.Lock (lock_at s p).place) (lock_reply R.sizes R.change (lock_at s p) s.board c)
      → Fine R (faulty honest) (log_of gs) (was p) (lock_at s p) s.board more (n p) (lock_reply R.sizes R.change (lock_at s p) s.board c)
      → Leaves (of_lock p to (lock_reply R.sizes R.change (lock_at s p) s.board c))
  lock_call p lt more bounded to c fit own fine =
      lock_turn W call zs p lt more bounded to (lock_reply R.sizes R.change (lock_at s p) s.board c) own
      (locks_stay_in_range R.sizes R.change (lock_at s p) s.board c (W.lock_fits p lt))
      (locks_send_in_range R.sizes R.change (lock_at s p) s.board c fit (W.lock_fits p lt))
      (little_is_sent.of_locks R.sizes R.change (lock_at s p) s.board c fit (W.lock_fits p lt))
      (λ lengths e. output_is_read_back.of_locks R.sizes R.change (lock_at s p) s.board c to W.numbered fit (W.lock_fits p lt) zs call.out call.scratch lengths words e)
      fine

  -- ---- a letter is handed in

  module _ (bytes : List ℕ) (are-bytes : Bytes bytes) (fair : Unforged R honest gs bytes) where
    letter_fits_holds : (l : Letter Span Spans) → opening R.sizes R.relation bytes ≡ Ok l → letter_fits R.sizes (kept l) ≡ true
    letter_fits_holds l e = what_is_read_is_in_range R.sizes bytes l are-bytes (opened R.sizes R.relation bytes l e).has_form

    body_fits_lem : (l : Letter Span Spans) → opening R.sizes R.relation bytes ≡ Ok l → l.change ≡ R.change → body_fits R.sizes R.change (kept_body l.body) ≡ true
    body_fits_lem l e same = subst (λ (c : Change). body_fits R.sizes c (kept_body l.body) ≡ true) same (and_parts (is_word l.seal.0) _ (and_parts (is_change l.change.0) _ (letter_fits_holds l e)).1).1

    letter_vouches : (l : Letter Span Spans) → opening R.sizes R.relation bytes ≡ Ok l → l.change ≡ R.change → Vouched (faulty honest) (log_of gs) (sender_borne R.change (kept_body l.body) l.seal ∷ inner_borne R.sizes R.change (kept_body l.body))
    letter_vouches l e same = vouched R honest gs W.numbered W.told bytes l (opened R.sizes R.relation bytes l e) same (body_fits_lem l e same) fair

    of_this_change : (l : Letter Span Spans) → not (eqb l.change.0 R.change.0) ≡ false → l.change ≡ R.change
    of_this_change l e = same_change l.change R.change (eqb-true _ _ (not-false _ e))

    to_controller_call : (h : Seat) → h.0 < seats (faults R) → ((p : ℕ) → hands_receipt R p call.request ≡ false) → (r : Res (Letter Span Spans) Refusal) → opening R.sizes R.relation bytes ≡ r → Leaves (opens r (letter_to_controller R h.0 (controller_at s h.0)))
    unfolding controller_reply
    to_controller_call h lt quiet (Err e) q = none_served W call zs W
    to_controller_call h lt quiet (Ok l) q =
        controller_call h.0 lt quiet (sender l) (to_controller (kept l)) (letter_fits_holds l q)
        (λ o g. cond_both (not (eqb l.change.0 R.change.0)) _ _ (Keeps R (faulty honest) (log_of gs) (controller_at s h.0).seat.0) (λ _. T.no)
        (λ e. body_keeps (controller_at s h.0) o g (kept_body l.body) l.seal zs.first (body_fits_lem l q (of_this_change l e)) (letter_vouches l q (of_this_change l e))))

    to_lock_call : (p : Place) → p.0 < R.sizes.locks → ((q : ℕ) → hands_receipt R q call.request ≡ true → (q ≡ p.0) × (reads_receipt (read R.sizes bytes) ≡ true)) → (r : Res (Letter Span Spans) Refusal) → opening R.sizes R.relation bytes ≡ r → Leaves (opens r (letter_to_lock R s p.0 (lock_at s p.0)))
    unfolding lock_reply
    to_lock_call p lt bounded (Err e) q = none_served W call zs W
    to_lock_call p lt bounded (Ok l) q =
        subst (λ (b : L.Reply). Leaves (of_lock p.0 (sender l) (cond (not (eqb l.change.0 R.change.0)) (L.refused RC.OtherChange) b))) (same_rule R (lock_at s p.0) s.board l.body)
        (lock_call p.0 lt (cond (is_receipt (kept_body l.body)) 1 0) counts (sender l) (to_lock (kept l)) (letter_fits_holds l q)
        (lock_letter_own R.sizes R.change (lock_at s p.0) s.board (kept l))
        (cond_both (not (eqb l.change.0 R.change.0)) _ _ (Fine R (faulty honest) (log_of gs) (was p.0) (lock_at s p.0) s.board (cond (is_receipt (kept_body l.body)) 1 0) (n p.0)) (λ _. F.no)
        (λ e. lock_body_fine (lock_at s p.0) (lock_inv p.0 lt) (kept_body l.body) l.seal (body_fits_lem l q (of_this_change l e)) (letter_vouches l q (of_this_change l e)))))
      where
        counts : (q : ℕ) → hands_receipt R q call.request ≡ true → (q ≡ p.0) × (1 ≤ cond (is_receipt (kept_body l.body)) 1 0)
        counts i e =
            let b = bounded i e in
            let a : is_receipt l.body ≡ true = subst (λ (r : Res (Letter Span Spans) Refusal). reads_receipt r ≡ true) (opened R.sizes R.relation bytes l q).has_form b.1 in
            (b.0, rw (same_receipt l.body ∙ a) (omega arith))

-- ---- every call

module _ {R : Vault} (honest : Seats) {from s : State} {gs : List Given} {n : ℕ → ℕ} (W : World R (faulty honest) from s gs n) (out scratch : List ℕ) (zs : Seals) (words : are_words zs ≡ true) where
  abbrev asked : Request → Call
  asked req = record { request = req; out = out; scratch = scratch }

  abbrev Then : Request → Turn → Type 0
  Then req turn = After W (asked req) zs (turn_went R.change s (asked req) zs turn)

  stops : (req : Request) (e : Refusal) → Then req (halted e)
  stops req e = stopped honest W (asked req) zs words e

  never : {A : Type 0} → false ≡ true → A
  never e = absurd (true≢false (sym e))

  -- the unit that is asked for is there, and in its table, or the call stops
  lock_asked : (req : Request) (p : ℕ) (rest : Lock → Turn) → (p < R.sizes.locks → Then req (rest (lock_at s p))) → Then req (asks_lock s (place_in R.sizes p) rest)
  lock_asked req p rest turn =
      cond_both (ltb p R.sizes.locks) (Some (place p)) None (λ o. Then req (asks_lock s o rest))
      (λ lt. cond_both (ltb p (length s.locks)) _ _ (Then req) (λ _. turn (ltb-true _ _ lt)) (λ _. stops req Q.no_such_unit))
      (λ _. stops req Q.no_such_unit)

  controller_asked : (req : Request) (h : ℕ) (rest : Controller → Turn) → (h < seats (faults R) → Then req (rest (controller_at s h))) → Then req (asks_controller s (seat_in R.sizes h) rest)
  controller_asked req h rest turn =
      cond_both (ltb h (seats (faults R))) (Some (seat h)) None (λ o. Then req (asks_controller s o rest))
      (λ lt. cond_both (ltb h (length s.controllers)) _ _ (Then req) (λ _. turn (ltb-true _ _ lt)) (λ _. stops req Q.no_such_unit))
      (λ _. stops req Q.no_such_unit)

  hand_in : (m : ℕ) (bytes : List ℕ) → Bytes bytes → Unforged R honest gs bytes → Then (Q.hands_in m bytes) (handed_to R s (asked (Q.hands_in m bytes)) bytes (party_in R.sizes m))
  hand_in m bytes are-bytes fair =
      cond_both (eqb m 64) (Some P.Office) _ To (λ _. stops req Q.no_such_unit) (λ _.
      cond_both (leb 32 m) (as_lock (place_in R.sizes (m - 32))) (as_controller (seat_in R.sizes m)) To
      (λ lo. cond_both (ltb (m - 32) R.sizes.locks) (Some (place (m - 32))) None (λ o. To (as_lock o))
      (λ lt. cond_both (ltb (m - 32) (length s.locks)) _ _ (Then req)
      (λ _. cond_both (has_room out scratch) _ _ (Then req)
      (λ _. to_lock_call honest W call zs words bytes are-bytes fair (place (m - 32)) (ltb-true _ _ lt) (λ q e. let p = and_parts (eqb m (32 + q)) _ e in (omega (arith, eqb-true _ _ p.0), p.1)) (opening R.sizes R.relation bytes) refl)
      (λ _. stops req Q.no_such_unit))
      (λ _. stops req Q.no_such_unit))
      (λ _. stops req Q.no_such_unit))
      (λ lo. cond_both (ltb m (seats (faults R))) (Some (seat m)) None (λ o. To (as_controller o))
      (λ lt. cond_both (ltb m (length s.controllers)) _ _ (Then req)
      (λ _. cond_both (has_room out scratch) _ _ (Then req)
      (λ _. to_controller_call honest W call zs words bytes are-bytes fair (seat m) (ltb-true _ _ lt) (λ p. and_left _ _ (ne_eqb m (32 + p) (λ e. omega (arith, leb-false _ _ lo)))) (opening R.sizes R.relation bytes) refl)
      (λ _. stops req Q.no_such_unit))
      (λ _. stops req Q.no_such_unit))
      (λ _. stops req Q.no_such_unit)))
    where
      req : Request
      req = Q.hands_in m bytes

      call : Call
      call = asked req

      To : Option Party → Type 0
      To o = Then req (handed_to R s call bytes o)

  pub call_keeps : (req : Request) → InBytes req → Fair R honest gs req → After W (asked req) zs (step R s (asked req) zs)
  unfolding step controller_reply lock_reply
  call_keeps (Q.orders x) bytes fair =
      office_turn W (asked (Q.orders x)) zs (λ p. refl) (order_reply s.office x) (order_own s.office x) (office_sends_in_range R.sizes R.change s.office x)
      (λ lengths e. output_is_read_back.of_the_office R.sizes R.change s.office x W.numbered zs out scratch lengths words e)
  call_keeps (Q.enrols p) bytes fair = lock_asked (Q.enrols p) p _ (λ lt.
      lock_call honest W (asked (Q.enrols p)) zs words p lt 0 (λ q e. never e) 0 enrols refl (enrol_own (lock_at s p)) (enrol_fine (lock_at s p) (lock_inv honest W (asked (Q.enrols p)) zs words p lt)))
  call_keeps (Q.declines p) bytes fair = lock_asked (Q.declines p) p _ (λ lt.
      lock_call honest W (asked (Q.declines p)) zs words p lt 0 (λ q e. never e) 0 declines refl (decline_own (lock_at s p)) (decline_fine (lock_at s p) (lock_inv honest W (asked (Q.declines p)) zs words p lt)))
  call_keeps (Q.rings h) bytes fair = controller_asked (Q.rings h) h _ (λ lt.
      controller_call honest W (asked (Q.rings h)) zs words h lt (λ p. refl) 0 rings refl (λ o g. ring_turn (controller_at s h) o g))
  call_keeps (Q.proposes h) bytes fair = controller_asked (Q.proposes h) h _ (λ lt.
      controller_call honest W (asked (Q.proposes h)) zs words h lt (λ p. refl) 0 proposes refl (λ o g. propose_turn (controller_at s h) o g zs.first))
  call_keeps (Q.hands_in m bytes) are-bytes fair = hand_in m bytes are-bytes fair
