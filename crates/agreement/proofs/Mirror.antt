-- What a log says of an honest controller, group by group: each group names the fields that it reads.
use Rattle.std.proofs.Common.{◌≡◌, ℕ, ◌<◌, ◌≤◌, true, false, List, [], ◌∷◌, length, get_or, is_some, Some, None, Option, refl, arith}
use Rattle.terms.specs.declared.numbers.KeyNumber.{KeyNumber}
use Rattle.terms.specs.declared.parties.Outcome.{Outcome}
use Rattle.letters.specs.declared.sorts.Answer.TheVariants as A
use Rattle.letters.specs.declared.sorts.Seal.{Seal}
use Rattle.letters.specs.declared.certificates.Basis.{Basis}
use Rattle.letters.specs.declared.certificates.Certificate.{Certificate}
use Rattle.letters.specs.declared.certificates.Order.{Order}
use Rattle.letters.specs.declared.certificates.Vote.{Vote}
use Rattle.letters.specs.Certificates.{certificate_digest}
use Rattle.ballots.specs.declared.Pair.{Pair}
use Rattle.controllers.specs.declared.controller.Controller.{Controller}
use Rattle.controllers.specs.declared.controller.MoveRecord.{MoveRecord}
use Rattle.controllers.specs.declared.controller.Proposal.{Proposal}
use Rattle.agreement.specs.Seats.{Seats}
use Rattle.agreement.specs.Calls.{Vault}
use Rattle.agreement.proofs.Meet.{seats, Honest, backed_map}
use Rattle.agreement.proofs.Words.{receipt, confirm, result, move, Brief, brief, Saying, says, Log, Said, there, Assented, lock_party, office}
use Rattle.terms.specs.Numbers.{view_of, seat}
use Rattle.terms.specs.Parties.{leader_of}
use Rattle.controllers.specs.Letters.{fresh_controller}
use Rattle.controllers.specs.Rules.{ordered_number}
use Rattle.agreement.proofs.Core.{AtLeast, Supported, Decided, Confirmed, Moved, Receipt, Ready, Ordered}
use Rattle.agreement.proofs.Kept.{assented_more, supported_more, none_said, none_assented}
use Rattle.agreement.proofs.Tools.{Silent, Mute, older, older_voice}
use Rattle.steps.proofs.Replies.{none_some}
use Rattle.steps.proofs.Rows.{blank_row}

abbrev pub faults : Vault → ℕ
faults R = R.sizes.faults

-- the seat that leads a view
abbrev pub lead : Vault → ℕ → ℕ
lead R v = (leader_of R.sizes R.change (view_of v)).0

-- the order of a certificate was given out, if the office is honest
pub record Certified (t : Seats) (l : Log) (k : Certificate) : Type 0 where
  pub ordered : (n : KeyNumber) → k.order.number ≡ Some n → t office ≡ false → Ordered l n

pub certified_more : {t : Seats} {l : Log} {s : Saying} {k : Certificate} → Certified t l k → Certified t (s ∷ l) k
certified_more m = record { ordered = λ n e o. there (m.ordered n e o) }

module _ (R : Vault) (t : Seats) (l : Log) where
  -- what h has voiced: never of a later view; of this view only if a proposal is held; never without an order
  pub record Voiced (h view : ℕ) (p : Option Proposal) (o : Option Order) : Type 0 where
    pub past : {v : ℕ} {x : Outcome} {d : ℕ} → Assented l h v x d → v ≤ view
    pub spoke : {v : ℕ} {x : Outcome} {d : ℕ} → Assented l h v x d → v ≡ view → is_some p ≡ true
    pub closed : {v : ℕ} {x : Outcome} {d : ℕ} → Assented l h v x d → is_some o ≡ true

  -- k is a seat and, if honest, has said this for the proposal that is held
  pub record Heard (view k : ℕ) (p : Option Proposal) (P : ℕ → Outcome → ℕ → Type 0) : Type 0 where
    pub seat : k < seats (faults R)
    pub held : Proposal
    pub is : p ≡ Some held
    pub said : Honest (faults R) t k → P view held.outcome held.digest.0

  pub record Hears (view : ℕ) (p : Option Proposal) (aa cs : List (Option Pair)) : Type 0 where
    pub led : (q : Proposal) → p ≡ Some q → Honest (faults R) t (lead R view) → Assented l (lead R view) view q.outcome q.digest.0
    pub assents : (k : ℕ) (z : Pair) → get_or aa k None ≡ Some z → Heard view k p (λ v x d. Assented l k v x d)
    pub certified : (q : Proposal) → p ≡ Some q → Certified t l q.certificate
    pub digested : (q : Proposal) → p ≡ Some q → q.digest ≡ certificate_digest q.certificate
    pub leadless : get_or aa (lead R view) None ≡ None
    pub confirms : (k : ℕ) (z : Pair) → get_or cs k None ≡ Some z → Heard view k p (λ v x d. Confirmed l k v x d)

  pub record Sound-basis (view : ℕ) (b : Basis) : Type 0 where
    pub supported : Supported (faults R) t l b.view.0 b.outcome (certificate_digest b.certificate).0
    pub early : b.view.0 ≤ view
    pub certified : Certified t l b.certificate

  pub record Based (h view : ℕ) (b : Option Basis) : Type 0 where
    pub basis : (y : Basis) → b ≡ Some y → Sound-basis view y
    pub bound : {w : ℕ} {x : Outcome} {d : ℕ} → Confirmed l h w x d → AtLeast w (brief b)

  pub record Sound-record (k : ℕ) (r : MoveRecord) : Type 0 where
    pub seat : k < seats (faults R)
    pub moved : Honest (faults R) t k → Moved l k r.view.0 (brief r.basis)
    pub supported : (b : Basis) → r.basis ≡ Some b → (b.view.0 < r.view.0) × Supported (faults R) t l b.view.0 b.outcome (certificate_digest b.certificate).0 × Certified t l b.certificate

  pub record Records (h view : ℕ) (rs : List (Option MoveRecord)) : Type 0 where
    pub moved : {v : ℕ} {b : Brief} → Moved l h v b → v ≤ view
    pub record_of : (k : ℕ) (r : MoveRecord) → get_or rs k None ≡ Some r → Sound-record k r

  pub record Rolled (h : ℕ) (registered : List (Option Seal)) : Type 0 where
    pub slots : length registered ≡ 8
    pub on_roll : {p : ℕ} → Receipt l h p → (p < R.sizes.locks) × (is_some (get_or registered p None) ≡ true)

  pub record Votes (order : Option Order) (votes : List (Option Vote)) : Type 0 where
    pub ordered : {n : KeyNumber} → ordered_number order ≡ Some n → t office ≡ false → Ordered l n
    pub voted : (p : ℕ) (v : Vote) → get_or votes p None ≡ Some v → v.answer ≡ A.Ready → t (lock_party p) ≡ false → (n : KeyNumber) → ordered_number order ≡ Some n → Ready l p n
    pub under : (p : ℕ) (v : Vote) → get_or votes p None ≡ Some v → is_some order ≡ true

  pub record Results (h : ℕ) (r : Option Outcome) : Type 0 where
    pub decided : (x : Outcome) → r ≡ Some x → (v : ℕ) × (d : ℕ) × Decided (faults R) t l v x d
    pub told : {x : Outcome} → Said (says h (result x)) l → r ≡ Some x

  pub record Mirror (h : ℕ) (c : Controller) : Type 0 where
    pub voiced : Voiced h c.view.0 c.round.proposal c.order
    pub hears : Hears c.view.0 c.round.proposal c.round.assents c.round.confirms
    pub based : Based h c.view.0 c.basis
    pub records : Records h c.view.0 c.records
    pub rolled : Rolled h c.registered
    pub votes : Votes c.order c.votes
    pub results : Results h c.result

module _ {R : Vault} {t : Seats} {l : Log} {s : Saying} where
  pub voiced_more : {h view : ℕ} {p : Option Proposal} {o : Option Order} → Silent s h 1 → Voiced R t l h view p o → Voiced R t (s ∷ l) h view p o
  voiced_more q m = record { past = λ a. m.past (older_voice q a); spoke = λ a. m.spoke (older_voice q a); closed = λ a. m.closed (older_voice q a) }

  pub hears_more : {view : ℕ} {p : Option Proposal} {aa cs : List (Option Pair)} → Hears R t l view p aa cs → Hears R t (s ∷ l) view p aa cs
  hears_more m = record {
    led = λ q e o. assented_more (m.led q e o);
    assents = λ k z e. let r = m.assents k z e in record { seat = r.seat; held = r.held; is = r.is; said = λ o. assented_more (r.said o) };
    certified = λ q e. certified_more (m.certified q e);
    digested = m.digested;
    leadless = m.leadless;
    confirms = λ k z e. let r = m.confirms k z e in record { seat = r.seat; held = r.held; is = r.is; said = λ o. there (r.said o) };
  }

  pub based_more : {h view : ℕ} {b : Option Basis} → Silent s h 3 → Based R t l h view b → Based R t (s ∷ l) h view b
  based_more q m = record {
    basis = λ y e. record { supported = supported_more (m.basis y e).supported; early = (m.basis y e).early; certified = certified_more (m.basis y e).certified };
    bound = λ {w} {x} {d} a. m.bound (older q (confirm w x d) refl a);
  }

  pub record_more : {k : ℕ} {r : MoveRecord} → Sound-record R t l k r → Sound-record R t (s ∷ l) k r
  record_more m = record { seat = m.seat; moved = λ o. there (m.moved o); supported = λ b e. ((m.supported b e).0, supported_more (m.supported b e).1, certified_more (m.supported b e).2) }

  pub records_more : {h view : ℕ} {rs : List (Option MoveRecord)} → Silent s h 4 → Records R t l h view rs → Records R t (s ∷ l) h view rs
  records_more q m = record { moved = λ {v} {b} a. m.moved (older q (move v b) refl a); record_of = λ k r e. record_more (m.record_of k r e) }

  pub rolled_more : {h : ℕ} {registered : List (Option Seal)} → Silent s h 5 → Rolled R t l h registered → Rolled R t (s ∷ l) h registered
  rolled_more q m = record { slots = m.slots; on_roll = λ {p} a. m.on_roll (older q (receipt p) refl a) }

  pub votes_more : {o : Option Order} {vs : List (Option Vote)} → Votes R t l o vs → Votes R t (s ∷ l) o vs
  votes_more m = record { ordered = λ e h. there (m.ordered e h); voted = λ p v e r h n z. there (m.voted p v e r h n z); under = m.under }

  pub results_more : {h : ℕ} {r : Option Outcome} → Silent s h 6 → Results R t l h r → Results R t (s ∷ l) h r
  results_more q m = record {
    decided = λ x e. let k = m.decided x e in (k.0, k.1, backed_map (λ h a. there a) k.2);
    told = λ {x} a. m.told (older q (result x) refl a);
  }

  -- what another says leaves it
  pub mirror_more : {h : ℕ} {c : Controller} → Mute s h → Mirror R t l h c → Mirror R t (s ∷ l) h c
  mirror_more q m = record {
    voiced = voiced_more (q 1 (omega arith)) m.voiced;
    hears = hears_more m.hears;
    based = based_more (q 3 (omega arith)) m.based;
    records = records_more (q 4 (omega arith)) m.records;
    rolled = rolled_more (q 5 (omega arith)) m.rolled;
    votes = votes_more m.votes;
    results = results_more (q 6 (omega arith)) m.results;
  }

pub mirror_blank : (R : Vault) (t : Seats) (h : ℕ) → Mirror R t [] h (fresh_controller (seat h))
mirror_blank R t h = record {
  voiced = record { past = λ a. absurd (none_assented a); spoke = λ a. absurd (none_assented a); closed = λ a. absurd (none_assented a) };
  hears = record {
    led = λ q e o. absurd (none_some refl e);
    assents = λ k z e. absurd (none_some (blank_row 16 k) e);
    certified = λ q e. absurd (none_some refl e);
    digested = λ q e. absurd (none_some refl e);
    leadless = blank_row 16 (lead R 0);
    confirms = λ k z e. absurd (none_some (blank_row 16 k) e);
  };
  based = record { basis = λ y e. absurd (none_some refl e); bound = λ a. absurd (none_said a) };
  records = record { moved = λ a. absurd (none_said a); record_of = λ k r e. absurd (none_some (blank_row 16 k) e) };
  rolled = record { slots = refl; on_roll = λ a. absurd (none_said a) };
  votes = record { ordered = λ e. absurd (none_some refl e); voted = λ p v e. absurd (none_some (blank_row 8 p) e); under = λ p v e. absurd (none_some (blank_row 8 p) e) };
  results = record { decided = λ x e. absurd (none_some refl e); told = λ a. absurd (none_said a) };
}
