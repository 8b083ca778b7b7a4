-- The steps by which an honest controller speaks of an outcome.
use Rattle.std.proofs.Common.{◌≡◌, ℕ, ◌*◌, ◌<◌, ◌≤◌, true, false, ◌||◌, eqb, ◌⊎◌, List, ◌∷◌, get_or, is_some as option_is_some, Some, None, Option, sym, refl, ap, ◌∙◌, inl, inr, mod-lt, arith}
use Rattle.terms.specs.declared.numbers.KeyNumber.{KeyNumber}
use Rattle.terms.specs.declared.parties.Outcome.{Outcome}
use Rattle.letters.specs.declared.sorts.Seal.{Seal}
use Rattle.letters.specs.declared.certificates.Basis.{Basis}
use Rattle.letters.specs.declared.certificates.Certificate.{Certificate}
use Rattle.letters.specs.declared.certificates.Order.{Order}
use Rattle.letters.specs.declared.certificates.Vote.{Vote}
use Rattle.letters.specs.Certificates.{certificate_digest}
use Rattle.ballots.specs.declared.Pair.{Pair}
use Rattle.controllers.specs.declared.controller.Controller.{Controller}
use Rattle.controllers.specs.declared.controller.Proposal.{Proposal}
use Rattle.agreement.specs.Seats.{Seats}
use Rattle.agreement.specs.Calls.{Vault}
use Rattle.agreement.proofs.Meet.{seats, Honest}
use Rattle.agreement.proofs.Words.{Words, propose, assent, confirm, result, brief, says, Log, here, there, Assented, proposed, assented, office}
use Rattle.std.proofs.lemmas.List.{get_or-set_other}
use Rattle.std.proofs.lemmas.Bool.{both_ways, eqb-true, or_cases}
use Rattle.terms.specs.Sizes.{quorum_of}
use Rattle.ballots.specs.Counts.{votes_for, count_agree}
use Rattle.ballots.specs.Kinds.{same_pair}
use Rattle.controllers.specs.Rules as C
use Rattle.agreement.proofs.Core.{AtLeast, Supported, Ground, Confirmed, Ordered}
use Rattle.agreement.proofs.Kept.{assented_more, assented_cases, Voice, by_propose, by_assent, supported_more, said_cases, step}
use Rattle.agreement.proofs.Tools.{silent_kind, is_some, count_with, votes_some, agree_count}
use Rattle.agreement.proofs.Mirror.{faults, lead, Certified, certified_more, Votes, Mirror, voiced_more, hears_more, based_more, records_more, rolled_more, votes_more, results_more}
use Rattle.agreement.proofs.Steps.{Good}
use Rattle.std.proofs.lemmas.Option.{same_Some}
use Rattle.steps.proofs.Rows.{row_cases}

taken : (o : Option Order) (y : Order) → option_is_some (C.or_else o y) ≡ true
taken None y = refl
taken (Some h) y = refl

taken_votes : {R : Vault} {t : Seats} {l : Log} {vs : List (Option Vote)} (o : Option Order) (y : Order) → ((n : KeyNumber) → y.number ≡ Some n → t office ≡ false → Ordered l n) → Votes R t l o vs → Votes R t l (C.or_else o y) vs
taken_votes None y said m = record { ordered = λ {n} e loyal. said n e loyal; voted = λ p v e. absurd (both_ways _ refl (m.under p v e)); under = λ p v e. refl }
taken_votes (Some h) y said m = m

voice_view : {h k v w d e : ℕ} {x y : Outcome} {u : Words} → (u ≡ assent v x d) ⊎ (u ≡ propose v x d) → Voice (says h u) k w y e → w ≡ v
voice_view (inl q) (by_propose p) = cc
voice_view (inl q) (by_assent p) = cc
voice_view (inr q) (by_propose p) = cc
voice_view (inr q) (by_assent p) = cc

at_view : (w view : ℕ) (b : Option Basis) → ((y : Basis) → b ≡ Some y → y.view.0 ≤ view) → AtLeast w (brief b) → w ≤ view
at_view w view None early a = absurd a
at_view w view (Some y) early a = omega (arith, early y refl)

pub lead_below : (R : Vault) (v : ℕ) → lead R v < seats (faults R)
lead_below R v = mod-lt v (omega arith)

module _ {R : Vault} {t : Seats} {l : Log} (c : Controller) (o : Honest (faults R) t c.seat.0) (g : Good R t l c.seat.0 c) where
  m : Mirror R t l c.seat.0 c
  m = g.mirror

  -- a proposal that came is held, and assented to
  pub assents_own : (x : Outcome) (k : Certificate) (z own : Seal) → option_is_some c.round.proposal ≡ false → (c.seat.0 ≡ lead R c.view.0 → ⊥)
      → (Honest (faults R) t (lead R c.view.0) → Assented l (lead R c.view.0) c.view.0 x (certificate_digest k).0)
      → Certified t l k
      → Ground (faults R) t l c.seat.0 c.view.0 x (certificate_digest k).0
      → Good R t (says c.seat.0 (assent c.view.0 x (certificate_digest k).0) ∷ l) c.seat.0 (C.held c (C.proposal x k (certificate_digest k) z) own)
  assents_own x k z own none other led said ground = record {
    rules = step (λ o. record { silent = λ y e a. both_ways _ none (m.voiced.spoke a refl); ground = ground }) g.rules;
    mirror = record {
      voiced = record {
        past = λ a. elim (assented_cases a) [ inl p ↦ omega (arith, voice_view (inl refl) p) | inr p ↦ m.voiced.past p ];
        spoke = λ a e. refl;
        closed = λ a. taken c.order k.order;
      };
      hears = record {
        led = λ q e o. rw (← (same_Some _ _ e)) (assented_more (led o));
        assents = λ i y e. elim (row_cases c.round.assents c.seat.0 i (C.pair x (certificate_digest k)) y e) [
          | inl r ↦ rw r.0 (record { seat = o.seat; held = C.proposal x k (certificate_digest k) z; is = refl; said = λ o. assented (here refl) })
          | inr r ↦ absurd (both_ways _ none (is_some (m.hears.assents i y r).is))
        ];
        certified = λ q e. rw (← (same_Some _ _ e)) (certified_more said);
        digested = λ q e. rw (← (same_Some _ _ e)) refl;
        leadless = get_or-set_other c.round.assents c.seat.0 (lead R c.view.0) (Some (C.pair x (certificate_digest k))) None (λ r. other (sym r)) ∙ m.hears.leadless;
        confirms = λ i y e. absurd (both_ways _ none (is_some (m.hears.confirms i y e).is));
      };
      based = based_more (silent_kind (λ e. omega arith)) m.based;
      records = records_more (silent_kind (λ e. omega arith)) m.records;
      rolled = rolled_more (silent_kind (λ e. omega arith)) m.rolled;
      votes = votes_more (taken_votes c.order k.order said.ordered m.votes);
      results = results_more (silent_kind (λ e. omega arith)) m.results;
    };
  }

  -- the own proposal is held
  pub proposes_own : (x : Outcome) (k : Certificate) (z : Seal) → option_is_some c.round.proposal ≡ false → c.seat.0 ≡ lead R c.view.0
      → Certified t l k
      → Ground (faults R) t l c.seat.0 c.view.0 x (certificate_digest k).0
      → Good R t (says c.seat.0 (propose c.view.0 x (certificate_digest k).0) ∷ l) c.seat.0 (C.hold c (C.proposal x k (certificate_digest k) z))
  proposes_own x k z none leads said ground = record {
    rules = step (λ o. record { silent = λ y e a. both_ways _ none (m.voiced.spoke a refl); ground = ground }) g.rules;
    mirror = record {
      voiced = record {
        past = λ a. elim (assented_cases a) [ inl p ↦ omega (arith, voice_view (inr refl) p) | inr p ↦ m.voiced.past p ];
        spoke = λ a e. refl;
        closed = λ a. taken c.order k.order;
      };
      hears = record {
        led = λ q e o. rw (← (same_Some _ _ e), ← leads) (proposed (here refl));
        assents = λ i y e. absurd (both_ways _ none (is_some (m.hears.assents i y e).is));
        certified = λ q e. rw (← (same_Some _ _ e)) (certified_more said);
        digested = λ q e. rw (← (same_Some _ _ e)) refl;
        leadless = m.hears.leadless;
        confirms = λ i y e. absurd (both_ways _ none (is_some (m.hears.confirms i y e).is));
      };
      based = based_more (silent_kind (λ e. omega arith)) m.based;
      records = records_more (silent_kind (λ e. omega arith)) m.records;
      rolled = rolled_more (silent_kind (λ e. omega arith)) m.rolled;
      votes = votes_more (taken_votes c.order k.order said.ordered m.votes);
      results = results_more (silent_kind (λ e. omega arith)) m.results;
    };
  }

  -- the leader and 2f others are a quorum
  pub supports : (p : Proposal) → c.round.proposal ≡ Some p → (x : Pair) → 2 * faults R ≤ count_agree same_pair x c.round.assents → Supported (faults R) t l c.view.0 p.outcome p.digest.0
  supports p e x full = record {
    set = λ k. eqb k (lead R c.view.0) || votes_for same_pair x (get_or c.round.assents k None);
    enough = omega (
      arith,
      full,
      agree_count same_pair x c.round.assents (seats (faults R)) (λ k y q. (m.hears.assents k y q).seat),
      count_with (λ k. votes_for same_pair x (get_or c.round.assents k None)) (lead R c.view.0) (seats (faults R)) (lead_below R c.view.0) (ap {A = Option Pair} (votes_for same_pair x) m.hears.leadless),
    );
    each = λ k honest q. elim (or_cases (eqb k (lead R c.view.0)) (votes_for same_pair x (get_or c.round.assents k None)) q) [
      | inl r ↦ (let z = eqb-true k (lead R c.view.0) r in rw z (m.hears.led p e (rw z at honest)))
      | inr r ↦ (let z = votes_some same_pair x (get_or c.round.assents k None) r in let w = m.hears.assents k z.0 z.1 in let u : w.held ≡ p = same_Some _ _ (sym w.is ∙ e) in rw (← u) (w.said honest))
    ];
  }

  -- the basis is made, and the own confirm sent
  pub confirms_own : (p : Proposal) → c.round.proposal ≡ Some p → (x : Pair) → x.outcome ≡ p.outcome → x.digest ≡ p.digest → 2 * faults R ≤ count_agree same_pair x c.round.assents
      → Good R t (says c.seat.0 (confirm c.view.0 x.outcome x.digest.0) ∷ l) c.seat.0 (C.confirmed_own c p x)
  confirms_own p e x xo xd full = rw (xo, xd) (record {
    rules = step (λ o. record { supported = sup; still = λ w b lt a. absurd (omega (arith, m.records.moved a)) }) g.rules;
    mirror = record {
      voiced = voiced_more (silent_kind (λ e. omega arith)) m.voiced;
      hears = record {
        led = (hears_more m.hears).led;
        assents = (hears_more m.hears).assents;
        certified = (hears_more m.hears).certified;
        digested = m.hears.digested;
        leadless = m.hears.leadless;
        confirms = λ i y q. elim (row_cases c.round.confirms c.seat.0 i _ y q) [
          | inl r ↦ rw r.0 (record { seat = o.seat; held = p; is = e; said = λ o. here refl })
          | inr r ↦ (hears_more m.hears).confirms i y r
        ];
      };
      based = record {
        basis = λ y q. rw (← (same_Some _ _ q)) (record { supported = supported_more (rw (m.hears.digested p e) at sup); early = omega arith; certified = certified_more (m.hears.certified p e) });
        bound = λ {w} a. elim (said_cases a) [
          | inl r ↦ (let z : w ≡ c.view.0 = cc in omega arith)
          | inr r ↦ at_view w c.view.0 c.basis (λ y q. (m.based.basis y q).early) (m.based.bound r)
        ];
      };
      records = records_more (silent_kind (λ e. omega arith)) m.records;
      rolled = rolled_more (silent_kind (λ e. omega arith)) m.rolled;
      votes = votes_more m.votes;
      results = results_more (silent_kind (λ e. omega arith)) m.results;
    };
  })
    where
      sup : Supported (faults R) t l c.view.0 p.outcome p.digest.0
      sup = supports p e x full

  -- 2f + 1 confirms, and the result is taken and sent
  pub concludes_one : (p : Proposal) → c.round.proposal ≡ Some p → (x : Pair) → x.outcome ≡ p.outcome → quorum_of R.sizes ≤ count_agree same_pair x c.round.confirms → option_is_some c.result ≡ false
      → Good R t (says c.seat.0 (result x.outcome) ∷ l) c.seat.0 (C.with_result c (Some x.outcome))
  concludes_one p e x xo many none = rw xo (record {
    rules = step tt g.rules;
    mirror = record {
      voiced = voiced_more (silent_kind (λ e. omega arith)) m.voiced;
      hears = hears_more m.hears;
      based = based_more (silent_kind (λ e. omega arith)) m.based;
      records = records_more (silent_kind (λ e. omega arith)) m.records;
      rolled = rolled_more (silent_kind (λ e. omega arith)) m.rolled;
      votes = votes_more m.votes;
      results = record {
        decided = λ y q. (
          c.view.0,
          p.digest.0,
          rw (← (same_Some _ _ q)) (record {
            set = λ k. votes_for same_pair x (get_or c.round.confirms k None);
            enough = omega (arith, many, agree_count same_pair x c.round.confirms (seats (faults R)) (λ k y q. (m.hears.confirms k y q).seat));
            each = λ k honest r. there (heard k honest r);
          }),
        );
        told = λ {x = y} a. elim (said_cases a) [ inl r ↦ (let z : y ≡ p.outcome = cc in ap Some (sym z)) | inr r ↦ absurd (both_ways _ none (is_some (m.results.told r))) ];
      };
    };
  })
    where
      heard : (k : ℕ) → Honest (faults R) t k → votes_for same_pair x (get_or c.round.confirms k None) ≡ true → Confirmed l k c.view.0 p.outcome p.digest.0
      heard k honest r =
          let z = votes_some same_pair x (get_or c.round.confirms k None) r in
          let w = m.hears.confirms k z.0 z.1 in
          let u : w.held ≡ p = same_Some _ _ (sym w.is ∙ e) in
          rw (← u) (w.said honest)
