-- What a rule says to a letter or a call: refused, and nothing changes; or served: what the unit becomes, and what it sends.
use Rattle.std.specs.Prelude.{Bool, cond, Some, None, Ok, Err, Option, Result}
use Rattle.terms.specs.declared.refusals.RuleCause.{RuleCause}
use Rattle.letters.specs.declared.certificates.Basis.{Basis}
use Rattle.letters.specs.declared.certificates.Certificate.{Certificate}
use Rattle.letters.specs.declared.bodies.Body.{Body}
use Rattle.posting.specs.declared.few.AtMostTwo.{AtMostTwo}

-- up to two letters, before they are sealed
abbrev pub Bodies : Type 0
Bodies = AtMostTwo (Body Certificate Basis)

pub data Reply (E U : Type 0) : Type 0 where
  refused : E → Reply E U
  served : U → Bodies → Reply E U

abbrev pub sends : {E U : Type 0} → Reply E U → Result Bodies E
sends (refused c) = Err c
sends (served u b) = Ok b

-- a refusal changes nothing
abbrev pub after : {E U : Type 0} → U → Reply E U → U
after u (refused c) = u
after u (served v b) = v

-- ---- guards, tried one after the other

abbrev pub refuse_if : Bool → RuleCause → Result (Unit {0}) RuleCause → Result (Unit {0}) RuleCause
refuse_if t c rest = cond t (Err c) rest

abbrev pub given : {A : Type 0} → Option A → RuleCause → (A → Result (Unit {0}) RuleCause) → Result (Unit {0}) RuleCause
given None c rest = Err c
given (Some a) c rest = rest a

-- the guards, then the rest
abbrev pub passing : {U : Type 0} → Result (Unit {0}) RuleCause → Reply RuleCause U → Reply RuleCause U
passing (Err c) rest = refused c
passing (Ok x) rest = rest
