use Rattle.std.proofs.Common.{Some, None, refl, rules}
use Rattle.terms.specs.declared.parties.Party.TheVariants as P
use Rattle.agreement.specs.Calls.{no_such_unit}
use Rattle.vault.proofs.Steps.{halted_turn, handed_step}
use Rattle.vault.proofs.vault.Vault.hand_in_one.Goals as goal

pub returns-in-Some-Controller : goal.returns-in-Some-Controller
returns-in-Some-Controller g c = handed_step c.args.unit c.args.bytes.now (Some (P.Controller c.in-Some-Controller.seat)) _ refl (search rules) c.hand_to_controller.ensures

pub returns-in-Some-Lock : goal.returns-in-Some-Lock
returns-in-Some-Lock g c = handed_step c.args.unit c.args.bytes.now (Some (P.Lock c.in-Some-Lock.place)) _ refl (search rules) c.hand_to_lock.ensures

pub returns-in-Some-Office : goal.returns-in-Some-Office
returns-in-Some-Office g c = handed_step c.args.unit c.args.bytes.now (Some P.Office) _ refl (search rules) (halted_turn _ _ _ no_such_unit _ c.no_such_unit.ensures)

pub returns-in-None : goal.returns-in-None
returns-in-None g c = handed_step c.args.unit c.args.bytes.now None _ refl (search rules) (halted_turn _ _ _ no_such_unit _ c.no_such_unit-in-None.ensures)
