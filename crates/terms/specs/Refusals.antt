-- The causes of refusals: number, layer and sentence of each.
use Rattle.std.specs.Prelude.{ℕ, List, codes}
use Rattle.terms.specs.declared.refusals.FormCause.{FormCause}
use Rattle.terms.specs.declared.refusals.FormCause.TheVariants as F
use Rattle.terms.specs.declared.refusals.SealCause.{SealCause}
use Rattle.terms.specs.declared.refusals.SealCause.TheVariants as S
use Rattle.terms.specs.declared.refusals.RuleCause.{RuleCause}
use Rattle.terms.specs.declared.refusals.RuleCause.TheVariants as R
use Rattle.terms.specs.declared.refusals.CallCause.{CallCause}
use Rattle.terms.specs.declared.refusals.CallCause.TheVariants as C
use Rattle.terms.specs.declared.refusals.Cause.{Cause}
use Rattle.terms.specs.declared.refusals.Cause.TheVariants.{Form, Seal, Rule, Call}
use Rattle.terms.specs.declared.refusals.Layer.{Layer}
use Rattle.terms.specs.declared.refusals.Layer.TheVariants as L
use Rattle.terms.specs.declared.refusals.Refusal.{Refusal}

-- layer 1: the form; 2: the seals; 3: the rules of a unit; 4: the call itself
abbrev pub layer_number : Layer → ℕ
layer_number L.Form = 1
layer_number L.Seals = 2
layer_number L.Rules = 3
layer_number L.Call = 4

abbrev pub layer_of : Cause → Layer
layer_of (Form c) = L.Form
layer_of (Seal c) = L.Seals
layer_of (Rule c) = L.Rules
layer_of (Call c) = L.Call

-- 3 is shared by a field out of range and an ordered number out of range; their layers differ
abbrev pub number_of : Cause → ℕ
number_of (Form F.EndsInField) = 1
number_of (Form F.UnfitMap) = 2
number_of (Form F.OutOfRange) = 3
number_of (Form F.LeftOver) = 4
number_of (Seal S.Sender) = 5
number_of (Seal S.Inner) = 6
number_of (Rule R.OtherChange) = 7
number_of (Rule R.OtherUnit) = 8
number_of (Rule R.OutOfTurn) = 9
number_of (Rule R.Repeated) = 10
number_of (Rule R.OtherView) = 11
number_of (Rule R.Differs) = 12
number_of (Rule R.FalseResult) = 13
number_of (Rule R.PlaceLeftOut) = 14
number_of (Rule R.AgainstChoice) = 15
number_of (Rule R.MoversMissing) = 16
number_of (Rule R.LastView) = 17
number_of (Call C.NumberOutOfRange) = 3
number_of (Call C.NoSuchUnit) = 18
number_of (Call C.NoRoom) = 19
number_of (Call C.SetUp) = 20

-- what a person is told
abbrev pub form_sentence : FormCause → List ℕ
form_sentence F.EndsInField = codes "the letter ends inside a field"
form_sentence F.UnfitMap = codes "the letter's map does not fit its kind"
form_sentence F.OutOfRange = codes "a field of the letter is out of range"
form_sentence F.LeftOver = codes "bytes are left over after the letter"

abbrev pub seal_sentence : SealCause → List ℕ
seal_sentence S.Sender = codes "the sender's seal is not accepted"
seal_sentence S.Inner = codes "a seal inside the letter is not accepted"

abbrev pub rule_sentence : RuleCause → List ℕ
rule_sentence R.OtherChange = codes "the letter belongs to another change"
rule_sentence R.OtherUnit = codes "the letter is meant for another sort of unit"
rule_sentence R.OutOfTurn = codes "the unit does not expect this now"
rule_sentence R.Repeated = codes "the unit has this already"
rule_sentence R.OtherView = codes "the letter belongs to another view"
rule_sentence R.Differs = codes "the letter differs from what the unit holds"
rule_sentence R.FalseResult = codes "the certificate has another result than the letter"
rule_sentence R.PlaceLeftOut = codes "the certificate leaves out a registered place"
rule_sentence R.AgainstChoice = codes "the proposal goes against the basis that must be chosen"
rule_sentence R.MoversMissing = codes "too few controllers are known to have moved to this view"
rule_sentence R.LastView = codes "there is no view after this one"

abbrev pub call_sentence : CallCause → List ℕ
call_sentence C.NumberOutOfRange = codes "the ordered number is out of range"
call_sentence C.NoSuchUnit = codes "there is no such unit"
call_sentence C.NoRoom = codes "the output buffer or the scratch buffer is too small"
call_sentence C.SetUp = codes "the vault, board or seal scheme cannot be set up so"

abbrev pub sentence_of : Cause → List ℕ
sentence_of (Form c) = form_sentence c
sentence_of (Seal c) = seal_sentence c
sentence_of (Rule c) = rule_sentence c
sentence_of (Call c) = call_sentence c

-- something cannot be made or set up so; it points nowhere
abbrev pub set_up : Refusal
set_up = record { cause = Call C.SetUp; place = 0 }

-- a buffer is too small
abbrev pub no_room : Refusal
no_room = record { cause = Call C.NoRoom; place = 0 }
