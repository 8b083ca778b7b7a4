-- A unit speaks under its own name alone, and what it says does not concern the others.
use Rattle.std.proofs.Common.{◌≡◌, ℕ, ◌+◌, ◌*◌, Bool, true, cond, not, ◌&&◌, eqb, ltb, leb, ◌∷◌, ◌++◌, set, Some, None, Ok, Err, Option, Result as Res, refl, ap}
use Rattle.std.proofs.lemmas.Bool.{cond_both}
use Rattle.terms.specs.declared.numbers.Change.{Change}
use Rattle.terms.specs.declared.numbers.KeyNumber.{KeyNumber}
use Rattle.terms.specs.declared.numbers.Seat.{Seat}
use Rattle.terms.specs.declared.parties.Outcome.{Outcome}
use Rattle.terms.specs.declared.parties.Outcome.TheVariants.{Keep, Number}
use Rattle.terms.specs.declared.parties.Party.{Party}
use Rattle.terms.specs.declared.parties.Party.TheVariants as P
use Rattle.terms.specs.declared.refusals.RuleCause.{RuleCause}
use Rattle.terms.specs.declared.sizes.Sizes.{Sizes}
use Rattle.terms.specs.Parties.{party_number}
use Rattle.letters.specs.declared.sorts.Seal.{Seal}
use Rattle.letters.specs.declared.certificates.Basis.{Basis}
use Rattle.letters.specs.declared.certificates.Certificate.{Certificate}
use Rattle.letters.specs.declared.bodies.Body.{Body}
use Rattle.letters.specs.declared.bodies.Body.TheVariants as B
use Rattle.letters.specs.declared.bodies.Letter.{Letter}
use Rattle.ballots.specs.declared.Pair.{Pair}
use Rattle.ballots.specs.Counts.{count_agree}
use Rattle.ballots.specs.Kinds.{same_pair, same_outcome}
use Rattle.boards.specs.Boards.{Meaning, stages}
use Rattle.letters.specs.Senders.{sender_of}
use Rattle.posting.specs.declared.few.AtMostTwo.TheVariants.{Nothing, One, Two}
use Rattle.posting.specs.Replies.{Reply, refused, served, Bodies, passing}
use Rattle.controllers.specs.declared.controller.Controller.{Controller}
use Rattle.controllers.specs.declared.controller.Draft.{Draft}
use Rattle.controllers.specs.declared.controller.Proposal.{Proposal}
use Rattle.controllers.specs.Letters as CL
use Rattle.controllers.specs.Rules as C
use Rattle.locks.specs.declared.lock.Lock.{Lock}
use Rattle.locks.specs.Letters as LL
use Rattle.locks.specs.Rules as L
use Rattle.steps.specs.Steps.{ControllerStep, to_controller, rings, proposes, controller_reply}
use Rattle.agreement.specs.Seats.{Seats}
use Rattle.agreement.specs.Calls.{Vault}
use Rattle.agreement.proofs.Meet.{Honest}
use Rattle.agreement.proofs.Words.{Words, receipt, propose, assent, confirm, move, says, Log, words, saying, spoken, lock_party}
use Rattle.agreement.proofs.Core.{Rules, Allowed}
use Rattle.agreement.proofs.Kept as K
use Rattle.agreement.proofs.Tools.{silent_other}
use Rattle.agreement.proofs.Mirror.{Mirror, mirror_more}
use Rattle.agreement.proofs.Locks.{LockInv, lock_more}

-- every letter is of this sender
pub data From (q : Party) : Bodies → Type 0 where
  none : From q Nothing
  one : {b : Body Certificate Basis} → sender_of b ≡ q → From q (One b)
  two : {b c : Body Certificate Basis} → sender_of b ≡ q → sender_of c ≡ q → From q (Two b c)

pub data Own (q : Party) {E U : Type 0} : Reply E U → Type 0 where
  no : {e : E} → Own q (refused e)
  yes : {u : U} {bs : Bodies} → From q bs → Own q (served u bs)

-- ---- controllers

pass : {U : Type 0} {q : Party} (gate : Res (Unit {0}) RuleCause) (rest : Reply RuleCause U) → Own q rest → Own q (passing gate rest)
pass (Err e) rest k = no
pass (Ok x) rest k = k

from_cond : {q : Party} (b : Bool) (x y : Bodies) → From q x → From q y → From q (cond b x y)
from_cond {q} b x y k l = cond_both b x y (λ z. From q z) (λ _. k) (λ _. l)

summons_own : (s : Seat) (n : Option KeyNumber) (z : Seal) → From (P.Controller s) (C.summons s n z)
summons_own s None z = none
summons_own s (Some n) z = one refl

confirming_own : (sizes : Sizes) (u : Controller) (x : Pair) (p : Option Proposal) → Own (P.Controller u.seat) (C.confirming sizes u x p)
unfolding C.confirming
confirming_own sizes u x None = yes none
confirming_own sizes u x (Some p) = yes (from_cond (C.concludes sizes (C.confirmed_own u p x) x) _ _ (two refl refl) (one refl))

body_own : (sizes : Sizes) (t : Change) (u : Controller) (b : Body Certificate Basis) (z own : Seal) → Own (P.Controller u.seat) (CL.body_rule sizes t u b z own)
body_own sizes t u (B.Enrol p) z own = pass (C.may_enrol u p) _ (yes (one refl))
body_own sizes t u (B.Order n) z own = pass (C.may_order u.order n) _ (yes (summons_own u.seat n z))
body_own sizes t u (B.Vote p n a) z own = pass (C.may_vote u p n) _ (yes none)
body_own sizes t u (B.Proposal s v x c m) z own = pass (C.may_hold sizes t u v x c _ m) _ (yes (one refl))
body_own sizes t u (B.Assent s v x d) z own = pass (C.may_assent sizes u s v (C.pair x d)) _
    (cond_both (leb (2 * sizes.faults) (count_agree same_pair (C.pair x d) (C.assented u.round s (C.pair x d) z).assents)) _ _ (λ (r : Reply RuleCause Controller). Own (P.Controller u.seat) r)
    (λ _. confirming_own sizes (C.with_round u (C.assented u.round s (C.pair x d) z)) (C.pair x d) u.round.proposal) (λ _. yes none))
body_own sizes t u (B.Confirm s v x d) z own = pass (C.may_confirm u s v (C.pair x d)) _ (yes (from_cond (C.concludes sizes (C.with_round u (C.confirmed u.round s (C.pair x d))) (C.pair x d)) _ _ (one refl) none))
body_own sizes t u (B.Move s v b) z own = pass (C.may_move u s v b) _
    (cond_both (ltb u.view.0 v.0 && leb (sizes.faults + 1) (C.record_count (C.with_records u (set u.records s.0 (Some (C.move_record v b)))) v)) _ _ (λ (r : Reply RuleCause Controller). Own (P.Controller u.seat) r) (λ _. yes (one refl)) (λ _. yes none))
body_own sizes t u b z own = no

proposing_own : (u : Controller) (r : Res Draft RuleCause) (own : Seal) → Own (P.Controller u.seat) (C.proposing u r own)
proposing_own u (Err e) own = no
proposing_own u (Ok d) own = yes (one refl)

pub controller_own : (sizes : Sizes) (t : Change) (u : Controller) (s : ControllerStep) (own : Seal) → Own (P.Controller u.seat) (controller_reply sizes t u s own)
unfolding controller_reply
controller_own sizes t u (to_controller l) own = cond_both (not (eqb l.change.0 t.0)) _ _ (λ (r : Reply RuleCause Controller). Own (P.Controller u.seat) r) (λ _. no) (λ _. body_own sizes t u l.body l.seal own)
controller_own sizes t u rings own = pass (C.may_ring u) _ (yes (one refl))
controller_own sizes t u proposes own = proposing_own u (C.may_propose sizes t u) own

-- ---- locks

pub data OwnLock (q : Party) : L.Reply → Type 0 where
  no_lock : {e : RuleCause} → OwnLock q (L.refused e)
  yes_lock : {k : Lock} {d : L.Deed} {bs : Bodies} → From q bs → OwnLock q (L.served k d bs)

pass_lock : {q : Party} (gate : Res (Unit {0}) RuleCause) (rest : L.Reply) → OwnLock q rest → OwnLock q (L.passing gate rest)
pass_lock (Err e) rest k = no_lock
pass_lock (Ok x) rest k = k

pub enrol_own : (k : Lock) → OwnLock (P.Lock k.place) (L.enrol_rule k)
enrol_own k = pass_lock (L.may_apply k) _ (yes_lock (one refl))

pub decline_own : (k : Lock) → OwnLock (P.Lock k.place) (L.decline_rule k)
decline_own k = pass_lock (L.may_decline k) _ (yes_lock none)

summoned_own : (k : Lock) (b : Bool) (n : KeyNumber) → OwnLock (P.Lock k.place) (L.summoned k b n)
summoned_own k true n = yes_lock (one refl)
summoned_own k b n = yes_lock (one refl)

ended_own : (q : Party) (k : Lock) (x : Outcome) → OwnLock q (L.ended_by k x)
ended_own q k Keep = yes_lock none
ended_own q k (Number n) = yes_lock none

lock_body_own : {C D : Type 0} (sizes : Sizes) (k : Lock) (m : Meaning) (b : Body C D) → OwnLock (P.Lock k.place) (LL.body_rule sizes k m b)
lock_body_own sizes k m (B.Receipt s p) = pass_lock (L.may_receipt k s p) _ (yes_lock none)
lock_body_own sizes k m (B.Summons s n z) = pass_lock (L.may_summon k) _ (summoned_own k (stages m k.place n) n)
lock_body_own sizes k m (B.Result s x) = pass_lock (L.may_result k m s x) _
    (cond_both (leb (sizes.faults + 1) (count_agree same_outcome x (L.resulted k s x).results)) _ _ (OwnLock (P.Lock k.place)) (λ _. ended_own _ (L.resulted k s x) x) (λ _. yes_lock none))
lock_body_own sizes k m b = no_lock

pub lock_letter_own : {C D : Type 0} (sizes : Sizes) (t : Change) (k : Lock) (m : Meaning) (l : Letter C D) → OwnLock (P.Lock k.place) (LL.letter_rule sizes t k m l)
lock_letter_own sizes t k m l = cond_both (not (eqb l.change.0 t.0)) _ _ (OwnLock (P.Lock k.place)) (λ _. no_lock) (λ _. lock_body_own sizes k m l.body)

-- ---- what a unit says does not concern the others

-- who is no honest seat may say anything
allowed : (f : ℕ) (t : Seats) (l : Log) (h : ℕ) → (Honest f t h → ⊥) → (w : Words) → Allowed f t l (says h w)
allowed f t l h never (receipt p) = λ o. absurd (never o)
allowed f t l h never (propose v x d) = λ o. absurd (never o)
allowed f t l h never (assent v x d) = λ o. absurd (never o)
allowed f t l h never (confirm v x d) = λ o. absurd (never o)
allowed f t l h never (move v b) = λ o. absurd (never o)
allowed f t l h never w = tt

named : {q : Party} (b : Body Certificate Basis) → sender_of b ≡ q → saying b ≡ says (party_number q) (words b)
named b e = ap (λ (p : Party). says (party_number p) (words b)) e

module _ (q : Party) where
  rules_one : {f : ℕ} {t : Seats} {l : Log} (b : Body Certificate Basis) → (Honest f t (party_number q) → ⊥) → sender_of b ≡ q → Rules f t l → Rules f t (saying b ∷ l)
  rules_one {f} {t} {l} b never e r = rw (named b e) (K.step (allowed f t l (party_number q) never (words b)) r)

  pub rules_spoken : {f : ℕ} {t : Seats} {l : Log} → (Honest f t (party_number q) → ⊥) → (bs : Bodies) → From q bs → Rules f t l → Rules f t (spoken bs ++ l)
  rules_spoken never Nothing k r = r
  rules_spoken never (One b) (one e) r = rules_one b never e r
  rules_spoken never (Two b c) (two e f) r = rules_one c never f (rules_one b never e r)

  mirror_one : {R : Vault} {t : Seats} {l : Log} (h : ℕ) (c : Controller) (b : Body Certificate Basis) → (h ≡ party_number q → ⊥) → sender_of b ≡ q → Mirror R t l h c → Mirror R t (saying b ∷ l) h c
  mirror_one h c b ne e m = rw (named b e) (mirror_more (λ n lt. silent_other ne) m)

  pub mirror_spoken : {R : Vault} {t : Seats} {l : Log} (h : ℕ) (c : Controller) → (h ≡ party_number q → ⊥) → (bs : Bodies) → From q bs → Mirror R t l h c → Mirror R t (spoken bs ++ l) h c
  mirror_spoken h c ne Nothing k m = m
  mirror_spoken h c ne (One b) (one e) m = mirror_one h c b ne e m
  mirror_spoken h c ne (Two a b) (two e f) m = mirror_one h c b ne f (mirror_one h c a ne e m)

  lock_one : {R : Vault} {t : Seats} {l : Log} {p : ℕ} {was : Option KeyNumber} {k : Lock} {force : Option KeyNumber} {n : ℕ} (b : Body Certificate Basis) → (lock_party p ≡ party_number q → ⊥) → sender_of b ≡ q → LockInv R t l p was k force n → LockInv R t (saying b ∷ l) p was k force n
  lock_one b ne e m = rw (named b e) (lock_more (λ n e. ne (cc)) m)

  pub lock_spoken : {R : Vault} {t : Seats} {l : Log} {p : ℕ} {was : Option KeyNumber} {k : Lock} {force : Option KeyNumber} {n : ℕ} → (lock_party p ≡ party_number q → ⊥) → (bs : Bodies) → From q bs → LockInv R t l p was k force n → LockInv R t (spoken bs ++ l) p was k force n
  lock_spoken ne Nothing k m = m
  lock_spoken ne (One b) (one e) m = lock_one b ne e m
  lock_spoken ne (Two a b) (two e f) m = lock_one b ne f (lock_one a ne e m)
