use Rattle.vault.proofs.Starts.{starts}
use Rattle.vault.proofs.setting_up.set_up.Goals as goal

pub returns : goal.returns
returns g c =
    let m = g.B.Board.meaning c.args.board.now in
    let made = c.set_up_from.ensures in
    record {
      answer = made.answer;
      controllers = made.controllers;
      locks = made.locks;
      starts_lists_of_calls = starts c.args.faults c.args.lock_count c.args.change m c.args.controllers.now c.args.locks.now c.set_up_from.result _ _ made.answer made.controllers made.locks;
    }
