-- After every sound list of calls honest locks are alike.
use Rattle.std.proofs.Common.{◌≡◌, ℕ, ◌+◌, ◌*◌, ◌<◌, ◌≤◌, false, List, [], ◌∷◌, get_or, Some, None, sym, refl, ap, ◌∙◌, subst, inl, inr, arith}
use Rattle.std.proofs.lemmas.Bool.{lt-ltb, ltb-true, not_from_true, not-false}
use Rattle.terms.specs.declared.numbers.KeyNumber.{KeyNumber}
use Rattle.terms.specs.declared.numbers.View.{View}
use Rattle.terms.specs.declared.parties.Outcome.{Outcome}
use Rattle.terms.specs.declared.parties.Outcome.TheVariants.{Keep, Number}
use Rattle.terms.specs.declared.parties.Party.TheVariants as P
use Rattle.terms.specs.Numbers.{seat, place}
use Rattle.terms.specs.Sizes.{quorum_of}
use Rattle.letters.specs.declared.sorts.Answer.TheVariants as A
use Rattle.letters.specs.declared.sorts.Digest.{Digest}
use Rattle.letters.specs.declared.certificates.Basis.{Basis}
use Rattle.letters.specs.declared.certificates.Certificate.{Certificate}
use Rattle.letters.specs.declared.bodies.Body.{Body}
use Rattle.letters.specs.declared.bodies.Body.TheVariants as B
use Rattle.letters.specs.Inner.{bears}
use Rattle.letters.specs.Sorts.{seal, seat_set}
use Rattle.letters.specs.Statements.{proposal_statement, assent_statement, outcome_number, statement_bytes}
use Rattle.ballots.specs.Kinds.{same_outcome}
use Rattle.boards.specs.Boards.{in_force}
use Rattle.locks.specs.Rules.{rank}
use Rattle.roundtrip.proofs.Tells as T
use Rattle.roundtrip.proofs.Tells.{number_below}
use Rattle.steps.proofs.Within.{new_controllers_are_in_range, new_locks_are_in_range}
use Rattle.agreement.specs.Seats.{Seats, count, faulty}
use Rattle.agreement.specs.Calls.{Vault, State, lock_at, Call, Went, Step}
use Rattle.agreement.specs.Runs as Q
use Rattle.agreement.specs.Runs.{SetUp, Run, start, next, Given, given_out, given_at, Among, HasGiven, gave, Sound, receipt_at, receipts_served}
use Rattle.agreement.specs.Law.{FewFaulty, HonestController, HonestLock, Carries, Changed, Kept, Ended, CarriesAsSetUp, Alike, both_kept, both_changed, Ordered, VotedReady, HonestLocksNeverPart, OneResult, Ballot, proposed as ballot-proposed, assented as ballot-assented, Supported, SupportedNumbersStand, SoundWith, given_with, receipts_with, HonestLocksNeverPartLaw, HonestControllersHoldOneResult, SupportedNumbersStandLaw}
use Rattle.agreement.proofs.Meet.{seats, Honest, honest as honest-one, Backed}
use Rattle.agreement.proofs.Words.{ready, order, Saying, says, Said, here, there, Assented, proposed, assented, lock_party, office, words_told, saying, uttered, log_of, outcome_told}
use Rattle.agreement.proofs.Core as K
use Rattle.agreement.proofs.Core.{Decided, Rules}
use Rattle.agreement.proofs.Kept.{fresh_rules}
use Rattle.agreement.proofs.Agree.{agreement, decided_supported, inclusion, ordering}
use Rattle.agreement.proofs.Tools.{votes_some}
use Rattle.agreement.proofs.Mirror.{faults, mirror_blank}
use Rattle.agreement.proofs.Locks.{LockInv, Turned, lock_blank, receipts_of, results_of}
use Rattle.agreement.proofs.Tools.{some_of}
use Rattle.agreement.proofs.Bridge.{given_for, Uttered, said_given, change_below}
use Rattle.agreement.proofs.World.{World}
use Rattle.agreement.proofs.Served.{After}
use Rattle.agreement.proofs.Calls.{call_keeps}
use Rattle.std.proofs.lemmas.Option.{same_Some}
use Rattle.steps.proofs.Replies.{same_outcome_lem}

-- ---- a vault that was just set up, and every list of calls from there

fresh_world : (R : Vault) (t : Seats) (from : State) → SetUp R from → World R t from from [] (λ p. 0)
fresh_world R t from set = record {
  numbered = set.numbered;
  rules = fresh_rules;
  told = λ g m. elim m [ ];
  seats_there = set.seats;
  locks_there = set.places;
  seat_fits_holds = λ h lt. rw (set.new_controllers h lt) (new_controllers_are_in_range R.sizes R.change (seat h) (lt-ltb _ _ lt));
  lock_fits = λ p lt. rw (set.new_locks p lt) (new_locks_are_in_range R.sizes (place p) (lt-ltb _ _ lt));
  seated = λ h lt. rw (set.new_controllers h lt) refl;
  placed = λ p lt. rw (set.new_locks p lt) refl;
  mirrors = λ h o. rw (set.new_controllers h o.seat) (mirror_blank R t h);
  locks = λ p lt o. rw (set.new_locks p lt) (lock_blank R t p (in_force from.board (place p)));
}

pub world : (R : Vault) (honest : Seats) (from s : State) → SetUp R from → (run : Run R from s) → Sound honest run → World R (faulty honest) from s (given_out run) (λ p. receipts_served p run)
world R honest from s set start sound = fresh_world R (faulty honest) from set
world R honest from s set (next run call w bytes step) sound =
    let W = world R honest from _ set run sound.0 in
    subst (After W call step.seals) (sym step.goes) (call_keeps honest W call.out call.scratch step.seals step.words call.request bytes sound.1)

-- ---- from what was said back to what was given out

said_among : (x : Saying) (gs : List Given) → Said x (log_of gs) → (g : Given) × Among g gs × (uttered g ≡ x)
said_among x [] m = elim m [ ]
said_among x (g ∷ gs) (here e) = (g, Q.here refl, sym e)
said_among x (g ∷ gs) (there m) = let r = said_among x gs m in (r.0, Q.there r.1, r.2)

module _ (R : Vault) (gs : List Given) (told : (g : Given) → Among g gs → Uttered R g) where
  -- a letter says what its statement says
  body_said : (g : Given) (u : Uttered R g) (x : Saying) → uttered g ≡ x → saying u.body ≡ x
  body_said g u x e =
      let a : uttered g ≡ uttered (given_for R.change u.body) = ap {A = Given} uttered u.is in
      let b : uttered (given_for R.change u.body) ≡ saying u.body = rw (words_told R.change u.body) refl in
      sym b ∙ (sym a ∙ e)

  vote_given : (q : ℕ) (n : KeyNumber) (b : Body Certificate Basis) → saying b ≡ says (lock_party q) (ready (Some n)) → (b ≡ B.Vote (place q) n A.Ready)
  vote_given q n (B.Vote p m A.Ready) e =
      let a : 32 + p.0 ≡ 32 + q = cc in
      let b : m ≡ n = cc in
      let c : p.0 ≡ q = omega arith in
      λ i. B.Vote (record { 0 = c i }) (b i) A.Ready
  vote_given q n b e = cc

  order_given : (n : KeyNumber) (b : Body Certificate Basis) → saying b ≡ says office (order (Some n)) → (b ≡ B.Order (Some n))
  order_given n (B.Order m) e = let a : m ≡ Some n = cc in ap B.Order a
  order_given n (B.Vote p m A.Ready) e = cc
  order_given n b e = cc

  voted_ready : (q : ℕ) (n : KeyNumber) → K.Ready (log_of gs) q n → VotedReady R gs q n
  voted_ready q n m =
      let r = said_among _ gs m in
      let u = told r.0 r.1 in
      let same : r.0 ≡ given_for R.change (B.Vote (place q) n A.Ready) = u.is ∙ ap (given_for R.change) (vote_given q n u.body (body_said r.0 u _ r.2)) in
      gave r.0 r.1 (ap {A = Given} (λ x. x.party) same) (ap {A = Given} (λ x. statement_bytes x.statement) same)

  ordered_it : (n : KeyNumber) → K.Ordered (log_of gs) n → Ordered R gs n
  ordered_it n m =
      let r = said_among _ gs m in
      let u = told r.0 r.1 in
      let same : r.0 ≡ given_for R.change (B.Order (Some n)) = u.is ∙ ap (given_for R.change) (order_given n u.body (body_said r.0 u _ r.2)) in
      gave r.0 r.1 (ap {A = Given} (λ x. x.party) same) (ap {A = Given} (λ x. statement_bytes x.statement) same)

-- ---- the conclusion

module _ {R : Vault} (honest : Seats) {from s : State} {gs : List Given} {receipts : ℕ → ℕ} (few : FewFaulty R honest) (W : World R (faulty honest) from s gs receipts) where
  abbrev t : Seats
  t = faulty honest

  loyal : (p : ℕ) → HonestLock R honest p → t (lock_party p) ≡ false
  loyal p q = not_from_true _ q.is_honest

  inv : (p : ℕ) → HonestLock R honest p → LockInv R t (log_of gs) p (in_force from.board (place p)) (lock_at s p) (in_force s.board (place p)) (receipts p)
  inv p q = W.locks p q.below (loyal p q)

  -- f + 1 results that agree are a decision
  decision : (p : ℕ) → HonestLock R honest p → (x : Outcome) → faults R + 1 ≤ count (results_of (lock_at s p) x) (seats (faults R)) → (v : ℕ) × (d : ℕ) × Decided (faults R) t (log_of gs) v x d
  decision p q x many =
      let h = honest-one (faults R) t (results_of (lock_at s p) x) few (omega arith) in
      let y = votes_some same_outcome x (get_or (lock_at s p).results h.0 None) h.2 in
      let said = ((inv p q).results h.0 y.0 y.1).said h.1 in
      let same : y.0 ≡ x = same_outcome_lem y.0 x y.2 in
      let m = (W.mirrors h.0 h.1).results in
      subst (λ (z : Outcome). (v : ℕ) × (d : ℕ) × Decided (faults R) t (log_of gs) v z d) same (m.decided y.0 (m.told said))

  turned : (p : ℕ) → HonestLock R honest p → Changed s p → Turned R (lock_at s p) (in_force s.board (place p))
  turned p q e = (inv p q).changed (ap rank e)

  changed_decision : (p : ℕ) (n : KeyNumber) → HonestLock R honest p → Changed s p → Carries s p n → (v : ℕ) × (d : ℕ) × Decided (faults R) t (log_of gs) v (Number n) d
  changed_decision p n q e c =
      let k = turned p q e in
      let same : k.number ≡ n = same_Some _ _ (sym k.now ∙ c) in
      subst (λ (z : KeyNumber). (v : ℕ) × (d : ℕ) × Decided (faults R) t (log_of gs) v (Number z) d) same (decision p q (Number k.number) k.results)

  receipt_quorum : (q : ℕ) → HonestLock R honest q → 2 * faults R + 1 ≤ count (receipts_of (lock_at s q)) (seats (faults R)) → Backed (faults R) t (λ h. K.Receipt (log_of gs) h q)
  receipt_quorum q hq many = record {
    set = receipts_of (lock_at s q);
    enough = many;
    each = λ h o r. let y = some_of (get_or (lock_at s q).receipts h None) r in ((inv q hq).receipts h y.0 y.1).said o;
  }

  includes : (p q : ℕ) (n : KeyNumber) → HonestLock R honest p → HonestLock R honest q → Changed s p → Carries s p n → 2 * faults R + 1 ≤ count (receipts_of (lock_at s q)) (seats (faults R)) → K.Ready (log_of gs) q n
  includes p q n hp hq e c many =
      let d = changed_decision p n hp e c in
      inclusion few W.rules d.0 n d.1 q (loyal q hq) (decided_supported few W.rules d.2) (receipt_quorum q hq many)

  never_apart : (p q : ℕ) → HonestLock R honest p → HonestLock R honest q → Changed s p → Kept s q → ⊥
  never_apart p q hp hq e f =
      let k : rank (lock_at s q).standing ≡ 5 = ap rank f in
      let c = turned p hp e in
      elim ((inv q hq).kept k) [
        | inl none ↦ none c.number (includes p q c.number hp hq e c.now ((inv q hq).enrolled (omega arith)))
        | inr many ↦ (let a = changed_decision p c.number hp e c.now in let b = decision q hq Keep many in let z = agreement few W.rules a.0 b.0 (Number c.number) Keep a.1 b.1 a.2 b.2 in cc)
      ]

  stays : (p : ℕ) → HonestLock R honest p → Kept s p → CarriesAsSetUp from s p
  stays p q e = let k : rank (lock_at s p).standing ≡ 5 = ap rank e in (inv p q).stays (λ z. omega arith)

  alike : (p q : ℕ) → HonestLock R honest p → HonestLock R honest q → Ended s p → Ended s q → Alike from s p q
  alike p q hp hq (inl e) (inl f) =
      let j = turned p hp e in
      let k = turned q hq f in
      let a = changed_decision p j.number hp e j.now in
      let b = changed_decision q k.number hq f k.now in
      let z = agreement few W.rules a.0 b.0 (Number j.number) (Number k.number) a.1 b.1 a.2 b.2 in
      let same : k.number ≡ j.number = cc in
      both_changed j.number e f j.now (k.now ∙ ap Some same)
  alike p q hp hq (inl e) (inr f) = absurd (never_apart p q hp hq e f)
  alike p q hp hq (inr e) (inl f) = absurd (never_apart q p hq hp f e)
  alike p q hp hq (inr e) (inr f) = both_kept e f (stays p hp e) (stays q hq f)

  served_quorum : (q : ℕ) → HonestLock R honest q → quorum_of R.sizes ≤ receipts q → 2 * faults R + 1 ≤ count (receipts_of (lock_at s q)) (seats (faults R))
  served_quorum q hq many = omega (arith, many, (inv q hq).counted)

  honest_locks_never_part : HonestLocksNeverPart R honest from s gs receipts
  honest_locks_never_part = record {
    alike = alike;
    included = λ p q n hp hq e c many. voted_ready R gs W.told q n (includes p q n hp hq e c (served_quorum q hq many));
    ordered = λ p n hp e c o. let d = changed_decision p n hp e c in ordered_it R gs W.told n (ordering few W.rules d.0 n d.1 (not_from_true _ o) (decided_supported few W.rules d.2));
  }

  seat_honest : (h : ℕ) → HonestController R honest h → Honest (faults R) t h
  seat_honest h o = record { seat = o.below; loyal = not_from_true _ o.is_honest }

  one_result : OneResult R honest s
  one_result h k x y hh hk e f =
      let a = (W.mirrors h (seat_honest h hh)).results.decided x e in
      let b = (W.mirrors k (seat_honest k hk)).results.decided y f in
      agreement few W.rules a.0 b.0 x y a.1 b.1 a.2 b.2

  -- a ballot that was given out was said
  ballot_said : (h : ℕ) (w : View) (x : Outcome) (d : Digest) → h < seats (faults R) → Supported R honest gs w x d → Ballot R gs h w x d → Assented (log_of gs) h w.0 x d.0
  ballot_said h w x d lt sup (ballot-proposed g) = proposed (rw (outcome_told x) at (said_given R honest gs W.numbered W.told (bears (P.Controller (seat h)) (proposal_statement R.change (seat h) w x d) (seal 0)) (record {
    change = refl;
    said = T.in-letter R.change (B.Proposal (seat h) w x d (seat_set 0));
    small = record { change = change_below R.change W.numbered; sender = omega (arith, R.sizes.faults_range); number = number_below (outcome_number x) sup.number_fits_holds; digest = ltb-true _ _ sup.digest_fits_holds };
  }) g))
  ballot_said h w x d lt sup (ballot-assented g) = assented (rw (outcome_told x) at (said_given R honest gs W.numbered W.told (bears (P.Controller (seat h)) (assent_statement R.change (seat h) w x d) (seal 0)) (record {
    change = refl;
    said = T.in-letter R.change (B.Assent (seat h) w x d);
    small = record { change = change_below R.change W.numbered; sender = omega (arith, R.sizes.faults_range); number = number_below (outcome_number x) sup.number_fits_holds; digest = ltb-true _ _ sup.digest_fits_holds };
  }) g))

  supported_said : (w : View) (x : Outcome) (d : Digest) → Supported R honest gs w x d → K.Supported (faults R) t (log_of gs) w.0 x d.0
  supported_said w x d sup = record {
    set = sup.quorum;
    enough = sup.enough;
    each = λ h o q. ballot_said h w x d o.seat sup (sup.each h (record { below = o.seat; is_honest = not-false _ o.loyal }) q);
  }

  supported_numbers_stand : SupportedNumbersStand R honest gs receipts
  supported_numbers_stand = record {
    ordered = λ w n d sup o. ordered_it R gs W.told n (ordering few W.rules w.0 n d.0 (not_from_true _ o) (supported_said w (Number n) d sup));
    ready = λ w n d q sup hq many. voted_ready R gs W.told q n (inclusion few W.rules w.0 n d.0 q (loyal q hq) (supported_said w (Number n) d sup) (receipt_quorum q hq (served_quorum q hq many)));
  }

-- ---- with one more call

module _ (R : Vault) (s : State) (call : Call) (w : Went) (step : Step R s call w) (honest : Seats) (from : State) (run : Run R from s) (with : SoundWith honest run call) where
  world_after : World R (faulty honest) from w.state (given_with run w) (receipts_with run call w)
  world_after = world R honest from w.state with.set_up (next run call w with.in_bytes step) (with.sound, with.fair)

  never_parts : HonestLocksNeverPart R honest from w.state (given_with run w) (receipts_with run call w)
  never_parts = honest_locks_never_part honest with.few_faulty world_after

  holds_one_result : OneResult R honest w.state
  holds_one_result = one_result honest with.few_faulty world_after

  stands_by_supported : SupportedNumbersStand R honest (given_with run w) (receipts_with run call w)
  stands_by_supported = supported_numbers_stand honest with.few_faulty world_after

pub honest_locks_never_part_after : HonestLocksNeverPartLaw
honest_locks_never_part_after R s call w step = never_parts R s call w step

pub honest_controllers_hold_one_result : HonestControllersHoldOneResult
honest_controllers_hold_one_result R s call w step = holds_one_result R s call w step

pub supported_numbers_stand_after : SupportedNumbersStandLaw
supported_numbers_stand_after R s call w step = stands_by_supported R s call w step
