-- Each small step of an honest controller keeps what the log says of it.
use Rattle.std.proofs.Common.{◌≡◌, ℕ, ◌<◌, true, false, ◌∷◌, get_or, set, is_some, Some, None, Option, sym, refl, ap, ◌∙◌, inl, inr, arith, length-set}
use Rattle.terms.specs.declared.numbers.KeyNumber.{KeyNumber}
use Rattle.terms.specs.declared.numbers.Place.{Place}
use Rattle.terms.specs.declared.numbers.Seat.{Seat}
use Rattle.terms.specs.declared.numbers.View.{View}
use Rattle.letters.specs.declared.sorts.Answer.TheVariants as A
use Rattle.letters.specs.declared.sorts.Seal.{Seal}
use Rattle.letters.specs.declared.certificates.Basis.{Basis}
use Rattle.letters.specs.declared.certificates.Order.{Order}
use Rattle.letters.specs.declared.certificates.Vote.{Vote}
use Rattle.ballots.specs.declared.Pair.{Pair}
use Rattle.controllers.specs.declared.controller.Controller.{Controller}
use Rattle.controllers.specs.declared.controller.MoveRecord.{MoveRecord}
use Rattle.controllers.specs.declared.controller.Proposal.{Proposal}
use Rattle.agreement.specs.Seats.{Seats}
use Rattle.agreement.specs.Calls.{Vault}
use Rattle.agreement.proofs.Meet.{seats, Honest}
use Rattle.agreement.proofs.Words.{receipt, move, brief, Saying, says, Log, here, Assented, lock_party, office}
use Rattle.std.proofs.lemmas.List.{get_or-set_other, get_or-set_same}
use Rattle.std.proofs.lemmas.Bool.{both_ways}
use Rattle.controllers.specs.Rules as C
use Rattle.agreement.proofs.Core.{Rules, Confirmed, Ready, Ordered}
use Rattle.agreement.proofs.Kept.{supported_more, said_cases, step}
use Rattle.agreement.proofs.Tools.{silent_kind}
use Rattle.agreement.proofs.Mirror.{faults, lead, certified_more, Voiced, Heard, Hears, Sound-record, Records, Votes, Mirror, voiced_more, hears_more, based_more, record_more, records_more, rolled_more, votes_more, results_more}
use Rattle.std.proofs.lemmas.Option.{same_Some}
use Rattle.steps.proofs.Replies.{none_some}
use Rattle.steps.proofs.Rows.{blank_row, row_cases, row_stays}

pub record Good (R : Vault) (t : Seats) (l : Log) (h : ℕ) (c : Controller) : Type 0 where
  pub rules : Rules (faults R) t l
  pub mirror : Mirror R t l h c

module _ {R : Vault} {t : Seats} {l : Log} (c : Controller) (o : Honest (faults R) t c.seat.0) (g : Good R t l c.seat.0 c) where
  m : Mirror R t l c.seat.0 c
  m = g.mirror

  -- a later view is entered
  pub shifts : (v : View) → c.view.0 < v.0 → Good R t (says c.seat.0 (move v.0 (brief c.basis)) ∷ l) c.seat.0 (C.entered c v)
  shifts v lt = record {
    rules = step (λ o. record { fresh = λ b a. omega (arith, m.records.moved a); high = λ w x d lt a. m.based.bound a }) g.rules;
    mirror = record {
      voiced = record {
        past = λ a. omega (arith, old.past a);
        spoke = λ a e. absurd (omega (arith, old.past a));
        closed = λ a. old.closed a;
      };
      hears = record {
        led = λ q e o. absurd (none_some refl e);
        assents = λ k z e. absurd (none_some (blank_row 16 k) e);
        certified = λ q e. absurd (none_some refl e);
        digested = λ q e. absurd (none_some refl e);
        leadless = blank_row 16 (lead R v.0);
        confirms = λ k z e. absurd (none_some (blank_row 16 k) e);
      };
      based = record {
        basis = λ y e. record { supported = supported_more (m.based.basis y e).supported; early = omega (arith, (m.based.basis y e).early); certified = certified_more (m.based.basis y e).certified };
        bound = (based_more (silent_kind (λ e. omega arith)) m.based).bound;
      };
      records = record {
        moved = λ {v = w} {b} a. elim (said_cases a) [ inl p ↦ (let e : w ≡ v.0 = cc in omega arith) | inr p ↦ omega (arith, m.records.moved p) ];
        record_of = λ k r e. elim (row_cases c.records c.seat.0 k _ r e) [
          | inl p ↦ own k r p.0 p.1
          | inr p ↦ record_more (m.records.record_of k r p)
        ];
      };
      rolled = rolled_more (silent_kind (λ e. omega arith)) m.rolled;
      votes = votes_more m.votes;
      results = results_more (silent_kind (λ e. omega arith)) m.results;
    };
  }
    where
      s : Saying
      s = says c.seat.0 (move v.0 (brief c.basis))

      old : Voiced R t (s ∷ l) c.seat.0 c.view.0 c.round.proposal c.order
      old = voiced_more (silent_kind (λ e. omega arith)) m.voiced

      own : (k : ℕ) (r : MoveRecord) → k ≡ c.seat.0 → C.move_record v c.basis ≡ r → Sound-record R t (s ∷ l) k r
      own k r e q = rw (e, ← q) (record {
        seat = o.seat;
        moved = λ _. here refl;
        supported = λ b e. (omega (arith, (m.based.basis b e).early), supported_more (m.based.basis b e).supported, certified_more (m.based.basis b e).certified);
      })

  -- a place is registered
  pub enrols_one : (p : Place) (z : Seal) → is_some c.order ≡ false → p.0 < R.sizes.locks → Good R t (says c.seat.0 (receipt p.0) ∷ l) c.seat.0 (C.with_registered c (set c.registered p.0 (Some z)))
  enrols_one p z unset lt = record {
    rules = step (λ o v x d a. both_ways _ unset (m.voiced.closed a)) g.rules;
    mirror = record {
      voiced = voiced_more (silent_kind (λ e. omega arith)) m.voiced;
      hears = hears_more m.hears;
      based = based_more (silent_kind (λ e. omega arith)) m.based;
      records = records_more (silent_kind (λ e. omega arith)) m.records;
      rolled = record {
        slots = length-set c.registered p.0 (Some z) ∙ m.rolled.slots;
        on_roll = λ {p = q} a. elim (said_cases a) [
          | inl e ↦ (let r : q ≡ p.0 = cc in rw r (lt, ap is_some (get_or-set_same c.registered p.0 (Some z) None (omega (arith, m.rolled.slots, R.sizes.locks_range)))))
          | inr a ↦ ((m.rolled.on_roll a).0, row_stays c.registered p.0 q z (m.rolled.on_roll a).1)
        ];
      };
      votes = votes_more m.votes;
      results = results_more (silent_kind (λ e. omega arith)) m.results;
    };
  }

  -- an order is held
  pub orders_one : (y : Order) → is_some c.order ≡ false → ((n : KeyNumber) → y.number ≡ Some n → t office ≡ false → Ordered l n) → Good R t l c.seat.0 (C.with_order c (Some y))
  orders_one y unset said =
      let voiced : Voiced R t l c.seat.0 c.view.0 c.round.proposal (Some y) = record { past = m.voiced.past; spoke = m.voiced.spoke; closed = λ a. refl } in
      let votes : Votes R t l (Some y) c.votes = record { ordered = λ {n} e loyal. said n e loyal; voted = λ p v e. absurd (both_ways _ unset (m.votes.under p v e)); under = λ p v e. refl } in
      assumption (voiced, votes, g)

  -- a vote is kept
  pub votes_one : (p : ℕ) (n : KeyNumber) (y : Vote) → C.ordered_number c.order ≡ Some n → is_some c.order ≡ true → (y.answer ≡ A.Ready → t (lock_party p) ≡ false → Ready l p n) → Good R t l c.seat.0 (C.with_votes c (set c.votes p (Some y)))
  votes_one p n y e some said =
      let votes : Votes R t l c.order (set c.votes p (Some y)) = record {
        ordered = m.votes.ordered;
        voted = λ q v a r loyal k b. elim (row_cases c.votes p q y v a) [
          | inl u ↦ (let z : n ≡ k = same_Some _ _ (sym e ∙ b) in rw (u.0, ← z) (said (rw (← u.1) at r) (rw u.0 at loyal)))
          | inr u ↦ m.votes.voted q v u r loyal k b
        ];
        under = λ q v a. some;
      } in
      assumption (votes, g)

  -- a move of seat k is recorded
  pub records_one : (k : ℕ) (v : View) (b : Option Basis) → Sound-record R t l k (C.move_record v b) → Good R t l c.seat.0 (C.with_records c (set c.records k (Some (C.move_record v b))))
  records_one k v b sound =
      let records : Records R t l c.seat.0 c.view.0 (set c.records k (Some (C.move_record v b))) = record {
        moved = m.records.moved;
        record_of = λ i r e. elim (row_cases c.records k i _ r e) [ inl p ↦ rw (p.0, ← p.1) sound | inr p ↦ m.records.record_of i r p ];
      } in
      assumption (records, g)

  -- an assent is recorded
  pub hears_assent : (k : Seat) (x : Pair) (z : Seal) (p : Proposal) → c.round.proposal ≡ Some p → k.0 < seats (faults R) → (k.0 ≡ lead R c.view.0 → ⊥)
      → (Honest (faults R) t k.0 → Assented l k.0 c.view.0 p.outcome p.digest.0) → Good R t l c.seat.0 (C.with_round c (C.assented c.round k x z))
  hears_assent k x z p e below other said =
      let hears : Hears R t l c.view.0 c.round.proposal (set c.round.assents k.0 (Some x)) c.round.confirms = record {
        led = m.hears.led;
        certified = m.hears.certified;
        digested = m.hears.digested;
        assents = λ i y q. elim (row_cases c.round.assents k.0 i x y q) [ inl r ↦ rw r.0 (record { seat = below; held = p; is = e; said = said }) | inr r ↦ m.hears.assents i y r ];
        leadless = get_or-set_other c.round.assents k.0 (lead R c.view.0) (Some x) None (λ r. other (sym r)) ∙ m.hears.leadless;
        confirms = m.hears.confirms;
      } in
      assumption (hears, g)

  -- a confirm is recorded
  pub hears_confirm : (k : Seat) (x : Pair) (p : Proposal) → c.round.proposal ≡ Some p → k.0 < seats (faults R)
      → (Honest (faults R) t k.0 → Confirmed l k.0 c.view.0 p.outcome p.digest.0) → Good R t l c.seat.0 (C.with_round c (C.confirmed c.round k x))
  hears_confirm k x p e below said =
      let confirms : (i : ℕ) (y : Pair) → get_or (set c.round.confirms k.0 (Some x)) i None ≡ Some y → Heard R t l c.view.0 i c.round.proposal (λ v x d. Confirmed l i v x d)
      = λ i y q. elim (row_cases c.round.confirms k.0 i x y q) [ inl r ↦ rw r.0 (record { seat = below; held = p; is = e; said = said }) | inr r ↦ m.hears.confirms i y r ] in
      assumption (confirms, g)
