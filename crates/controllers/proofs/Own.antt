-- A letter is taken in two steps: what it leaves once the own assent has its seal is what its rule says.
use Rattle.std.proofs.Common.{◌≡◌, ℕ, Bool, true, false, cond, not, eqb, List, Ok, Err, Result, sym, refl, ap, ◌∙◌}
use Rattle.terms.specs.declared.numbers.Change.{Change}
use Rattle.terms.specs.declared.refusals.Refusal.{Refusal}
use Rattle.terms.specs.declared.refusals.RuleCause.{RuleCause}
use Rattle.terms.specs.declared.refusals.RuleCause.TheVariants as R
use Rattle.terms.specs.declared.sizes.Sizes.{Sizes}
use Rattle.letters.specs.declared.sorts.Seal.{Seal}
use Rattle.letters.specs.declared.certificates.Basis.{Basis}
use Rattle.letters.specs.declared.certificates.Certificate.{Certificate}
use Rattle.letters.specs.declared.bodies.Body.{Body}
use Rattle.letters.specs.declared.bodies.Body.TheVariants as B
use Rattle.letters.specs.declared.bodies.Letter.{Letter}
use Rattle.letters.specs.Certificates.{certificate_digest}
use Rattle.letters.specs.Sorts.{seal}
use Rattle.posting.specs.declared.few.AtMostTwo.TheVariants.{One}
use Rattle.posting.specs.declared.few.Posted.{Posted}
use Rattle.posting.specs.declared.few.Seals.{Seals}
use Rattle.posting.specs.Calls.{ended, keeping}
use Rattle.posting.specs.Replies.{Bodies, sends, after, refused, served, passing}
use Rattle.controllers.specs.declared.controller.Controller.{Controller}
use Rattle.controllers.specs.declared.controller.Draft.{Draft}
use Rattle.controllers.specs.declared.controller.Proposal.{Proposal}
use Rattle.controllers.specs.Letters.{taken, letter_taken, own_assent, body_rule, letter_rule}
use Rattle.controllers.specs.Rules.{Reply, may_hold, proposal, hold, held, seconded, proposing}

module _ (u : Controller) (p : Proposal) (bs : Bodies) where
  pub held_sends : (own : Seal) (g : Result (Unit {0}) RuleCause) → sends (passing g (served (hold u p) bs)) ≡ sends (passing g (served (held u p own) bs))
  held_sends own (Ok x) = refl
  held_sends own (Err c) = refl

module _ (sizes : Sizes) (t : Change) (u : Controller) (own : Seal) where
  body_sends : (b : Body Certificate Basis) (z : Seal) → sends (taken sizes t u b z) ≡ sends (body_rule sizes t u b z own)
  body_sends (B.Enrol p) z = refl
  body_sends (B.Receipt s p) z = refl
  body_sends (B.Order n) z = refl
  body_sends (B.Summons s n o) z = refl
  body_sends (B.Vote p n a) z = refl
  body_sends (B.Proposal s v x c m) z = held_sends u (proposal x c (certificate_digest c) z) (One (B.Assent u.seat u.view x (certificate_digest c))) own (may_hold sizes t u v x c (certificate_digest c) m)
  body_sends (B.Assent s v x d) z = refl
  body_sends (B.Confirm s v x d) z = refl
  body_sends (B.Result s x) z = refl
  body_sends (B.Move s v b) z = refl

  -- what is sent needs no seal of the own assent
  pub letter_sends : (l : Letter Certificate Basis) → sends (letter_taken sizes t u l) ≡ sends (letter_rule sizes t u l own)
  letter_sends l = by_change (not (eqb l.change.0 t.0)) where
    by_change : (b : Bool) → sends (cond b (refused R.OtherChange) (taken sizes t u l.body l.seal)) ≡ sends (cond b (refused R.OtherChange) (body_rule sizes t u l.body l.seal own))
    by_change true = refl
    by_change false = body_sends l.body l.seal

  -- a call that ended, with the answer `a`
  module _ (sender : ℕ) (zs : Seals) (out scratch : List ℕ) (a : Result Posted Refusal) where
    abbrev Ended : Reply → Type 0
    Ended r = a ≡ (ended t sender (sends r) zs out scratch).answer

    refused_keeps : (c : RuleCause) (v w : Controller) → Ended (refused c) → keeping u v a ≡ keeping u w a
    refused_keeps c v w e = ap (keeping u v) e ∙ sym (ap (keeping u w) e)

    held_keeps :
        (p : Proposal) (bs : Bodies) (g : Result (Unit {0}) RuleCause) → Ended (passing g (served (hold u p) bs)) →
        keeping u (seconded (after u (passing g (served (hold u p) bs))) own (after u (passing g (served (hold u p) bs))).round.proposal) a ≡ keeping u (after u (passing g (served (held u p own) bs))) a
    held_keeps p bs (Ok x) e = refl
    held_keeps p bs (Err c) e = refused_keeps c _ _ e

    pub judged_keeps :
        (p : Proposal) (bs : Bodies) (g : Result (Unit {0}) RuleCause) → Ended (passing g (served (hold u p) bs)) →
        keeping u (held u p own) a ≡ keeping u (after u (passing g (served (held u p own) bs))) a
    judged_keeps p bs (Ok x) e = refl
    judged_keeps p bs (Err c) e = refused_keeps c _ _ e

    body_keeps : (b : Body Certificate Basis) (z : Seal) → Ended (taken sizes t u b z) → keeping u (own_assent b (after u (taken sizes t u b z)) own) a ≡ keeping u (after u (body_rule sizes t u b z own)) a
    body_keeps (B.Enrol p) z e = refl
    body_keeps (B.Receipt s p) z e = refl
    body_keeps (B.Order n) z e = refl
    body_keeps (B.Summons s n o) z e = refl
    body_keeps (B.Vote p n k) z e = refl
    body_keeps (B.Proposal s v x c m) z e = held_keeps (proposal x c (certificate_digest c) z) (One (B.Assent u.seat u.view x (certificate_digest c))) (may_hold sizes t u v x c (certificate_digest c) m) e
    body_keeps (B.Assent s v x d) z e = refl
    body_keeps (B.Confirm s v x d) z e = refl
    body_keeps (B.Result s x) z e = refl
    body_keeps (B.Move s v b) z e = refl

    pub letter_keeps : (l : Letter Certificate Basis) → Ended (letter_taken sizes t u l) → keeping u (own_assent l.body (after u (letter_taken sizes t u l)) own) a ≡ keeping u (after u (letter_rule sizes t u l own)) a
    letter_keeps l e = by_change (not (eqb l.change.0 t.0)) e where
      by_change : (b : Bool) → Ended (cond b (refused R.OtherChange) (taken sizes t u l.body l.seal)) → keeping u (own_assent l.body (after u (cond b (refused R.OtherChange) (taken sizes t u l.body l.seal))) own) a ≡ keeping u (after u (cond b (refused R.OtherChange) (body_rule sizes t u l.body l.seal own))) a
      by_change true e = refused_keeps R.OtherChange _ _ e
      by_change false e = body_keeps l.body l.seal e

-- nor does the own proposal, when it is sent
pub proposing_sends : (u : Controller) (own : Seal) (d : Result Draft RuleCause) → sends (proposing u d (seal 0)) ≡ sends (proposing u d own)
proposing_sends u own (Ok d) = refl
proposing_sends u own (Err c) = refl
