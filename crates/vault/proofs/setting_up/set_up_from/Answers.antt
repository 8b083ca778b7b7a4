use Rattle.std.proofs.Common.{◌&&◌, leb}
use Rattle.std.proofs.lemmas.Result.{err_from_is_err_and}
use Rattle.vault.specs.SetUps.{accepts}
use Rattle.vault.proofs.Renews.{left_alone}
use Rattle.vault.proofs.setting_up.set_up_from.Goals as goal

pub returns-in_err-sizes : goal.returns-in_err-sizes
returns-in_err-sizes g c =
    let f = c.args.faults in
    let l = c.args.lock_count in
    let m = g.B.Board.meaning c.args.board.now in
    let left = left_alone ((leb 1 f && leb f 5) && (leb 1 l && leb l 8)) (accepts f l c.args.change m c.args.controllers.now c.args.locks.now) f l c.args.change _ c.args.controllers.now c.args.locks.now c.in_err-sizes.ensures in
    let p = err_from_is_err_and c.from_residual.result c.from_residual.ensures.1 in
    rw (p.1, p.2)
    (record { answer = left.answer; controllers = left.controllers; locks = left.locks })
