-- A letter that vouches for what it bears keeps what the log says of the unit that it is handed to.
use Rattle.std.proofs.Common.{◌≡◌, ℕ, ◌<◌, true, false, cond, not, eqb, ◌∷◌, Option, refl, subst}
use Rattle.std.proofs.lemmas.Bool.{eqb-true, eqb-false, and_parts, ltb-true, not-true}
use Rattle.terms.specs.declared.numbers.KeyNumber.{KeyNumber}
use Rattle.terms.specs.declared.numbers.Seat.{Seat}
use Rattle.terms.specs.Parties.{party_number}
use Rattle.letters.specs.declared.sorts.Seal.{Seal}
use Rattle.letters.specs.declared.certificates.Basis.{Basis}
use Rattle.letters.specs.declared.certificates.Certificate.{Certificate}
use Rattle.letters.specs.declared.bodies.Body.{Body}
use Rattle.letters.specs.declared.bodies.Body.TheVariants as B
use Rattle.letters.specs.Certificates.{certificate_digest}
use Rattle.letters.specs.Inner.{inner_borne}
use Rattle.letters.specs.Ranges.{is_byte, seat_fits, leads, number_fits, certificate_fits, body_fits}
use Rattle.letters.specs.Statements.{outcome_number}
use Rattle.boards.specs.Boards.{Meaning, in_force}
use Rattle.letters.specs.Senders.{sender_of}
use Rattle.seals.specs.Opening.{sender_borne}
use Rattle.controllers.specs.declared.controller.Controller.{Controller}
use Rattle.controllers.specs.Letters as CL
use Rattle.controllers.specs.Rules as C
use Rattle.locks.specs.declared.lock.Lock.{Lock}
use Rattle.locks.specs.Letters as LL
use Rattle.agreement.specs.Seats.{Seats}
use Rattle.agreement.specs.Calls.{Vault}
use Rattle.agreement.specs.Runs.{here as first, there as later, is_receipt}
use Rattle.agreement.proofs.Meet.{seats, Honest}
use Rattle.agreement.proofs.Words.{says, Log, Said, words, words_told, propose, lock_party}
use Rattle.agreement.proofs.Mirror.{faults, lead}
use Rattle.agreement.proofs.Steps.{Good}
use Rattle.agreement.proofs.Turns as T
use Rattle.agreement.proofs.Turns.{Keeps, Vouched}
use Rattle.agreement.proofs.PerRule.{enrol_turn, order_turn, vote_turn, confirm_turn, assent_turn, move_turn, proposal_turn}
use Rattle.agreement.proofs.Locks as F
use Rattle.agreement.proofs.Locks.{LockInv, Fine, receipt_fine, summons_fine, result_fine}

-- the sender, if honest, said what the letter says
said_own : (R : Vault) (t : Seats) (l : Log) (b : Body Certificate Basis) (z : Seal) → Vouched t l (sender_borne R.change b z ∷ inner_borne R.sizes R.change b) → t (party_number (sender_of b)) ≡ false → Said (says (party_number (sender_of b)) (words b)) l
said_own R t l b z vouch loyal = rw (words_told R.change b) at (vouch _ (first refl) loyal)

below : (R : Vault) (s : Seat) → seat_fits R.sizes s ≡ true → s.0 < seats (faults R)
below R s e = ltb-true _ _ e

module _ {R : Vault} {t : Seats} {l : Log} (c : Controller) (o : Honest (faults R) t c.seat.0) (g : Good R t l c.seat.0 c) where
  pub body_keeps : (b : Body Certificate Basis) (z own : Seal) → body_fits R.sizes R.change b ≡ true → Vouched t l (sender_borne R.change b z ∷ inner_borne R.sizes R.change b) → Keeps R t l c.seat.0 (CL.body_rule R.sizes R.change c b z own)
  body_keeps (B.Enrol p) z own fit vouch = enrol_turn c o g p z (ltb-true _ _ fit)
  body_keeps (B.Order n) z own fit vouch = order_turn c o g n z (said_own R t l (B.Order n) z vouch)
  body_keeps (B.Vote p n a) z own fit vouch = vote_turn c o g p n a z (said_own R t l (B.Vote p n a) z vouch)
  body_keeps (B.Proposal s v x k ms) z own fit vouch =
      let p1 = and_parts (is_byte v.0) _ fit in
      let p2 = and_parts (leads R.sizes R.change v s) _ p1.1 in
      let p3 = and_parts (number_fits (outcome_number x)) _ p2.1 in
      let p4 = and_parts (certificate_fits R.sizes k) _ p3.1 in
      let led : s.0 ≡ lead R v.0 = eqb-true _ _ p2.0 in
      proposal_turn c o g v x k ms z own p4.1
      (subst (λ (h : ℕ). t h ≡ false → Said (says h (propose v.0 x (certificate_digest k).0)) l) led (said_own R t l (B.Proposal s v x k ms) z vouch))
      (λ b i. vouch b (later i))
  body_keeps (B.Assent s v x d) z own fit vouch =
      let p1 = and_parts (seat_fits R.sizes s) _ fit in
      let p2 = and_parts (is_byte v.0) _ p1.1 in
      let p3 = and_parts (not (leads R.sizes R.change v s)) _ p2.1 in
      assent_turn c o g s v (C.pair x d) z (below R s p1.0) (eqb-false s.0 (lead R v.0) (not-true _ p3.0)) (said_own R t l (B.Assent s v x d) z vouch)
  body_keeps (B.Confirm s v x d) z own fit vouch =
      let p1 = and_parts (seat_fits R.sizes s) _ fit in
      confirm_turn c o g s v (C.pair x d) (below R s p1.0) (said_own R t l (B.Confirm s v x d) z vouch)
  body_keeps (B.Move s v b) z own fit vouch =
      let p1 = and_parts (seat_fits R.sizes s) _ fit in
      let p2 = and_parts (is_byte v.0) _ p1.1 in
      let p3 = and_parts (not (eqb v.0 0)) _ p2.1 in
      move_turn c o g s v b (below R s p1.0) p3.1 (said_own R t l (B.Move s v b) z vouch) (λ x i. vouch x (later i))
  body_keeps b z own fit vouch = T.no

module _ {R : Vault} {t : Seats} {l : Log} {was : Option KeyNumber} {m : Meaning} {n : ℕ} (k : Lock) (inv : t (lock_party k.place.0) ≡ false → LockInv R t l k.place.0 was k (in_force m k.place) n) where
  pub lock_body_fine : (b : Body Certificate Basis) (z : Seal) → body_fits R.sizes R.change b ≡ true → Vouched t l (sender_borne R.change b z ∷ inner_borne R.sizes R.change b) → Fine R t l was k m (cond (is_receipt b) 1 0) n (LL.body_rule R.sizes k m b)
  lock_body_fine (B.Receipt s p) z fit vouch = receipt_fine k inv s p (below R s (and_parts (seat_fits R.sizes s) _ fit).0) (said_own R t l (B.Receipt s p) z vouch)
  lock_body_fine (B.Summons s x y) z fit vouch = summons_fine k inv x
  lock_body_fine (B.Result s x) z fit vouch = result_fine k inv s x (below R s (and_parts (seat_fits R.sizes s) _ fit).0) (said_own R t l (B.Result s x) z vouch)
  lock_body_fine b z fit vouch = F.no
