-- What letters vouch for, and what the records of movers say.
use Rattle.std.proofs.Common.{◌≡◌, ℕ, ◌+◌, ◌*◌, ◌^◌, ◌<◌, ◌≤◌, true, false, ◌||◌, eqb, List, ◌++◌, get_or, is_some as option_is_some, Some, None, Option, sym, refl, ◌∙◌, inl, inr, arith}
use Rattle.terms.specs.declared.numbers.KeyNumber.{KeyNumber}
use Rattle.terms.specs.declared.numbers.View.{View}
use Rattle.terms.specs.declared.parties.Outcome.{Outcome}
use Rattle.letters.specs.declared.sorts.Answer.TheVariants as A
use Rattle.letters.specs.declared.sorts.Digest.{Digest}
use Rattle.letters.specs.declared.sorts.Seal.{Seal}
use Rattle.letters.specs.declared.certificates.Basis.{Basis}
use Rattle.letters.specs.declared.certificates.Certificate.{Certificate}
use Rattle.letters.specs.declared.certificates.Vote.{Vote}
use Rattle.letters.specs.Certificates.{certificate_digest, result_of}
use Rattle.controllers.specs.declared.controller.Controller.{Controller}
use Rattle.agreement.specs.Seats.{Seats, count}
use Rattle.agreement.specs.Calls.{Vault}
use Rattle.agreement.proofs.Meet.{seats, Backed}
use Rattle.agreement.proofs.Words.{bare, brief, says, Log, Said, proposed, assented, lock_party}
use lib.Count.{ones}
use Rattle.std.proofs.lemmas.Bool.{eqb-true, lt-ltb, or_cases}
use Rattle.terms.specs.declared.numbers.Change.{Change}
use Rattle.terms.specs.declared.parties.Party.TheVariants as P
use Rattle.terms.specs.declared.refusals.RuleCause.{RuleCause}
use Rattle.terms.specs.Numbers.{seat, place}
use Rattle.terms.specs.Parties.{party_number}
use Rattle.terms.specs.Sizes.{seat_count}
use Rattle.letters.specs.declared.statements.Borne.{Borne}
use Rattle.letters.specs.Bytes.{map_of}
use Rattle.letters.specs.Inner.{bears, rows_borne, enrol_row, vote_row, certificate_borne, assent_row, basis_borne}
use Rattle.letters.specs.Sorts.{stands}
use Rattle.letters.specs.Statements.{vote_statement, assent_statement}
use Rattle.posting.specs.Replies.{Reply, refused, served, Bodies}
use Rattle.controllers.specs.Choice.{stands_in, names, best}
use Rattle.agreement.specs.Runs.{Among, here as first, there as later}
use Rattle.agreement.proofs.Words.{words_of, spoken, outcome_told}
use Rattle.agreement.proofs.Core.{AtMost, Included, Supported, Chosen, Moved, Receipt, Ready}
use Rattle.agreement.proofs.Tools.{some_of, in_right, in_rows, count_with, count_same}
use Rattle.agreement.proofs.Choices.{best_none, best_some, names_some, offer_some, offer_at, certificate_order, certificate_vote, ones_count}
use Rattle.steps.proofs.Rows.{map_stands}
use Rattle.agreement.proofs.Mirror.{faults, lead, Certified, Mirror}
use Rattle.agreement.proofs.Steps.{Good}
use Rattle.agreement.proofs.Voices.{lead_below}

-- a served reply of an honest controller keeps what the log says of it
pub data Keeps (R : Vault) (t : Seats) (l : Log) (h : ℕ) : Reply RuleCause Controller → Type 0 where
  no : {e : RuleCause} → Keeps R t l h (refused e)
  yes : {c : Controller} {bs : Bodies} → Good R t (spoken bs ++ l) h c → Keeps R t l h (served c bs)

-- every honest party's seal that is borne is on words given out
abbrev pub Vouched : Seats → Log → List Borne → Type 0
Vouched t l bs = (b : Borne) → Among b bs → t (party_number b.party) ≡ false → Said (says (party_number b.party) (words_of b.statement)) l

pub included_from : (R : Vault) (t : Seats) (l : Log) (h : ℕ) (k : Certificate) (x : Outcome) → result_of k ≡ x
    → ((p : ℕ) → Receipt l h p → (p < R.sizes.locks) × (option_is_some (get_or k.enrolled p None) ≡ true))
    → ((n : KeyNumber) (p : ℕ) (v : Vote) → k.order.number ≡ Some n → p < R.sizes.locks → get_or k.votes p None ≡ Some v → v.answer ≡ A.Ready → t (lock_party p) ≡ false → Ready l p n)
    → Certified t l k
    → Included t l h x
included_from R t l h k x e roll votes orders = record {
  locks = λ {n} {p} q a loyal.
      let r = roll p a in
      let u = certificate_vote k n p (e ∙ q) r.1 in
      votes n p u.0 (certificate_order k n (e ∙ q)) r.0 u.1 u.2 loyal;
  orders = λ {n} q loyal. orders.ordered n (certificate_order k n (e ∙ q)) loyal;
}

-- what a certificate's seals vouch for
pub cert_order : (ch : Change) (t : Seats) (l : Log) (k : Certificate) → Vouched t l (certificate_borne ch k) → Certified t l k
cert_order ch t l k vouch = record { ordered = λ n e loyal. rw e at (vouch _ (first refl) loyal) }

vote_row_lem : (ch : Change) (n : Option KeyNumber) (vs : List (Option Vote)) (p : ℕ) (v : Vote) → p < 8 → get_or vs p None ≡ Some v → vote_row ch n vs p ≡ Some (bears (P.Lock (place p)) (vote_statement ch (place p) n v.answer) v.seal)
vote_row_lem ch n vs p v lt e = rw (lt-ltb p 8 lt, e) refl

pub cert_votes : (R : Vault) (t : Seats) (l : Log) (k : Certificate) → Vouched t l (certificate_borne R.change k) → (n : KeyNumber) (p : ℕ) (v : Vote) → k.order.number ≡ Some n → p < R.sizes.locks → get_or k.votes p None ≡ Some v → v.answer ≡ A.Ready → t (lock_party p) ≡ false → Ready l p n
cert_votes R t l k vouch n p v e lt q r loyal =
    let eight : p < 8 = omega (arith, R.sizes.locks_range) in
    let said = vouch (bears (P.Lock (place p)) (vote_statement R.change (place p) k.order.number v.answer) v.seal)
    (later (in_right (rows_borne (enrol_row R.change k.enrolled) 0 8) _ (in_rows (vote_row R.change k.order.number k.votes) 0 8 p (omega arith) (omega arith) (vote_row_lem R.change k.order.number k.votes p v eight q))))
    loyal in
    rw (e, r) at said

assent_row_lem : (ch : Change) (u : View) (x : Outcome) (d : Digest) (rows : List (Option Seal)) (k : ℕ) (z : Seal) → k < 16 → get_or rows k None ≡ Some z → assent_row ch u x d rows k ≡ Some (bears (P.Controller (seat k)) (assent_statement ch (seat k) u x d) z)
assent_row_lem ch u x d rows k z lt e = rw (lt-ltb k 16 lt, e) refl

-- a basis that came with accepted seals is supported
pub basis_supported : (R : Vault) (t : Seats) (l : Log) (b : Basis) → Vouched t l (basis_borne R.sizes R.change b)
    → map_of option_is_some b.assents < 2 ^ seat_count R.sizes → ones (map_of option_is_some b.assents) ≡ 2 * faults R → stands (map_of option_is_some b.assents) (lead R b.view.0) ≡ false
    → Supported (faults R) t l b.view.0 b.outcome (certificate_digest b.certificate).0
basis_supported R t l b vouch small full none = record {
  set = λ k. eqb k (lead R b.view.0) || option_is_some (get_or b.assents k None);
  enough =
      let a : count (stands_in (map_of option_is_some b.assents)) (seats (faults R)) ≡ count (λ k. option_is_some (get_or b.assents k None)) (seats (faults R)) = count_same _ _ (seats (faults R)) (λ k l. map_stands option_is_some None refl b.assents k) in
      omega (arith, a, full, ones_count (seats (faults R)) (map_of option_is_some b.assents) small, count_with (λ k. option_is_some (get_or b.assents k None)) (lead R b.view.0) (seats (faults R)) (lead_below R b.view.0) (sym (map_stands option_is_some None refl b.assents (lead R b.view.0)) ∙ none));
  each = λ k honest q. elim (or_cases (eqb k (lead R b.view.0)) (option_is_some (get_or b.assents k None)) q) [
    | inl r ↦ (let z = eqb-true k (lead R b.view.0) r in rw z (proposed (rw (outcome_told b.outcome) at (vouch _ (first refl) (rw z at honest.loyal)))))
    | inr r ↦ (let z = some_of (get_or b.assents k None) r in
        assented (rw (outcome_told b.outcome) at (vouch (bears (P.Controller (seat k)) (assent_statement R.change (seat k) b.view b.outcome (certificate_digest b.certificate)) z.0)
        (later (in_rows _ 0 16 k (omega arith) (omega (arith, honest.seat, R.sizes.faults_range)) (assent_row_lem R.change b.view b.outcome (certificate_digest b.certificate) b.assents k z.0 (omega (arith, honest.seat, R.sizes.faults_range)) z.1))) honest.loyal)))
  ];
}

at_most : (w : ℕ) (b : Option Basis) → ((y : Basis) → b ≡ Some y → y.view.0 ≤ w) → AtMost w (brief b)
at_most w None e = tt
at_most w (Some y) e = e y refl

module _ {R : Vault} {t : Seats} {l : Log} {h : ℕ} (c : Controller) (m : Mirror R t l h c) (ms : ℕ) (many : 2 * faults R + 1 ≤ count (stands_in ms) (seats (faults R))) (recorded : (k : ℕ) → k < seats (faults R) → stands_in ms k ≡ true → names (get_or c.records k None) c.view ≡ true) where
  -- of the movers, the highest basis
  pub movers_chosen : (b : Basis) → best c.records ms c.view 16 ≡ Some b → Chosen (faults R) t l c.view.0 b.outcome (certificate_digest b.certificate).0
  movers_chosen b e =
      let top = best_some c.records ms c.view 16 b e in
      let r = offer_some (stands_in ms top.seat) (get_or c.records top.seat None) c.view b top.is in
      let s = m.records.record_of top.seat r.0 r.1 in
      record {
        view = b.view.0;
        earlier = omega (arith, (s.supported b r.3).0, r.2);
        supported = (s.supported b r.3).1;
        highest = record {
          set = stands_in ms;
          enough = many;
          each = λ k honest q.
              let n = names_some (get_or c.records k None) c.view (recorded k honest.seat q) in (
                brief n.0.basis,
                rw n.2 at ((m.records.record_of k n.0 n.1).moved honest),
                at_most b.view.0 n.0.basis (λ y z. top.top k y (omega (arith, honest.seat, R.sizes.faults_range)) (offer_at (stands_in ms k) (get_or c.records k None) c.view n.0 q n.1 n.2 ∙ z)),
              );
        };
      }

  pub movers_certified : (b : Basis) → best c.records ms c.view 16 ≡ Some b → Certified t l b.certificate
  movers_certified b e =
      let top = best_some c.records ms c.view 16 b e in
      let r = offer_some (stands_in ms top.seat) (get_or c.records top.seat None) c.view b top.is in
      ((m.records.record_of top.seat r.0 r.1).supported b r.3).2

  pub movers_free : best c.records ms c.view 16 ≡ None → Backed (faults R) t (λ k. Moved l k c.view.0 bare)
  movers_free e = record {
    set = stands_in ms;
    enough = many;
    each = λ k honest q.
        let n = names_some (get_or c.records k None) c.view (recorded k honest.seat q) in
        let z : n.0.basis ≡ None = sym (offer_at (stands_in ms k) (get_or c.records k None) c.view n.0 q n.1 n.2) ∙ best_none c.records ms c.view 16 e k (omega (arith, honest.seat, R.sizes.faults_range)) in
        let a : Moved l k c.view.0 (brief n.0.basis) = rw n.2 at ((m.records.record_of k n.0 n.1).moved honest) in
        rw z at a;
  }
