use Rattle.std.proofs.Common.{arith, rules}
use Rattle.std.proofs.lemmas.Result.{err_from_is_err_and}
use Rattle.posting.proofs.Goes.{has_room_lem, has_no_room}
use Rattle.reading.specs.Parts.{shown}
use Rattle.agreement.specs.Calls.{controller_at, letter_to_controller}
use Rattle.vault.proofs.Hands.{hands_to_nobody, hands_without_room, hands_unopened, hands_opened, controller_receives}
use Rattle.vault.proofs.vault.Vault.hand_to_controller.Goals as goal

pub returns-then-at-controllers : goal.returns-then-at-controllers
returns-then-at-controllers g c =
    let n = c.args.seat.0 in
    hands_to_nobody _ _ _ c.args.bytes.now (λ v s. letter_to_controller v n (controller_at s n)) n _ _ (λ l. omega (arith, c.number-at.ensures)) c.no_such_unit.ensures

pub returns-in_err-require_room : goal.returns-in_err-require_room
returns-in_err-require_room g c =
    let n = c.args.seat.0 in
    hands_without_room _ _ _ c.args.bytes.now (λ v s. letter_to_controller v n (controller_at s n)) n _ _ (omega (arith, c.number-at.ensures)) (has_no_room c.args.out.now c.args.scratch.now _ c.in_err-require_room.ensures) (search rules)

pub returns-in_err-opened : goal.returns-in_err-opened
returns-in_err-opened g c =
    let n = c.args.seat.0 in
    let p = err_from_is_err_and c.from_residual-in_err-opened.result c.from_residual-in_err-opened.ensures.1 in
    rw (p.1, p.2)
    (hands_unopened _ _ _ c.args.bytes.now (λ v s. letter_to_controller v n (controller_at s n)) n _ _ _ (omega (arith, c.number-at.ensures)) (has_room_lem c.args.out.now c.args.scratch.now _ c.in_ok-require_room.ensures)
    c.in_err-opened.ensures.answer c.in_err-opened.ensures.scratch_cleared)

pub returns : goal.returns
returns g c =
    let n = c.args.seat.0 in
    let room = has_room_lem c.args.out.now c.args.scratch.now _ c.in_ok-require_room.ensures in
    let letter = shown c.in_ok-opened.opened.letter in
    hands_opened _ _ _ c.args.bytes.now (λ v s. letter_to_controller v n (controller_at s n)) n _ letter _ (omega (arith, c.number-at.ensures)) room c.in_ok-opened.ensures.answer
    (controller_receives _ _ _ n c.number-at.result _ letter _ _ c.number-at.ensures (omega (arith, c.number-at.ensures)) room c.in_ok-opened.ensures.scratch_cleared c.receive.ensures)
