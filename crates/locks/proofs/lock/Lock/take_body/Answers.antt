use Rattle.std.proofs.Common.{sym, ap, ◌∙◌}
use Rattle.locks.specs.Letters.{body_rule}
use Rattle.locks.specs.Rules.{sends, lock_after, board_after}
use Rattle.locks.proofs.lock.Lock.take_body.Goals as goal

pub returns-in-Result : goal.returns-in-Result
returns-in-Result g c =
    let k = c.args.self.now in
    let m = g.B.Board.meaning c.args.board.now in
    let same = ap (body_rule c.args.sizes k m) (sym c.in-Result.is) in
    record {
      follows = record {
        answer = c.take_result.ensures.follows.answer ∙ ap sends same;
        lock = c.take_result.ensures.follows.lock ∙ ap (lock_after k) same;
      };
      board = c.take_result.ensures.board ∙ ap (board_after m k.place) same;
    }
