-- A rule looks at no part of a letter, so it is the same for what a letter shows.
use Rattle.std.proofs.Common.{◌≡◌, cond, not, eqb, refl, ap}
use Rattle.terms.specs.declared.numbers.Change.{Change}
use Rattle.terms.specs.declared.refusals.RuleCause.TheVariants as R
use Rattle.terms.specs.declared.sizes.Sizes.{Sizes}
use Rattle.letters.specs.declared.bodies.Body.{Body}
use Rattle.letters.specs.declared.bodies.Body.TheVariants as B
use Rattle.letters.specs.declared.bodies.Letter.{Letter}
use Rattle.letters.specs.Bodies.{retold}
use Rattle.reading.specs.declared.parts.Grounds.{Grounds}
use Rattle.reading.specs.declared.parts.Part.{Part}
use Rattle.reading.specs.Parts.{span, spans, shown}
use Rattle.letters.specs.Senders.{sender_of}
use Rattle.boards.specs.Boards.{Meaning}
use Rattle.locks.specs.declared.lock.Lock.{Lock}
use Rattle.locks.specs.Letters.{body_rule, letter_rule}
use Rattle.locks.specs.Rules.{refused}

body_shown : (sizes : Sizes) (k : Lock) (m : Meaning) (b : Body Part Grounds) → body_rule sizes k m (retold span spans b) ≡ body_rule sizes k m b
body_shown sizes k m (B.Enrol p) = refl
body_shown sizes k m (B.Receipt s p) = refl
body_shown sizes k m (B.Order n) = refl
body_shown sizes k m (B.Summons s n z) = refl
body_shown sizes k m (B.Vote p n a) = refl
body_shown sizes k m (B.Proposal s v x c ms) = refl
body_shown sizes k m (B.Assent s v x d) = refl
body_shown sizes k m (B.Confirm s v x d) = refl
body_shown sizes k m (B.Result s x) = refl
body_shown sizes k m (B.Move s v b) = refl

pub rule_shown : (sizes : Sizes) (t : Change) (k : Lock) (m : Meaning) (l : Letter Part Grounds) → letter_rule sizes t k m (shown l) ≡ letter_rule sizes t k m l
rule_shown sizes t k m l = ap (λ r. cond (not (eqb l.change.0 t.0)) (refused R.OtherChange) r) (body_shown sizes k m l.body)

sender : (b : Body Part Grounds) → sender_of (retold span spans b) ≡ sender_of b
sender (B.Enrol p) = refl
sender (B.Receipt s p) = refl
sender (B.Order n) = refl
sender (B.Summons s n z) = refl
sender (B.Vote p n a) = refl
sender (B.Proposal s v x c ms) = refl
sender (B.Assent s v x d) = refl
sender (B.Confirm s v x d) = refl
sender (B.Result s x) = refl
sender (B.Move s v b) = refl

pub sender_shown : (l : Letter Part Grounds) → sender_of (shown l).body ≡ sender_of l.body
sender_shown l = sender l.body
