use Rattle.std.proofs.Common.{rules}
use Rattle.posting.proofs.Goes.{goes_nowhere, goes-in-place, room_suffices}
use Rattle.locks.specs.Rules.{replied, enrol_rule}
use Rattle.locks.proofs.Small.{enrol_fits}
use Rattle.locks.proofs.lock.Lock.enrol.Goals as goal

pub returns-in_err-require_room : goal.returns-in_err-require_room
returns-in_err-require_room g c =
    let k = c.args.self.now in
    let out = c.args.out.now in
    let scratch = c.args.scratch.now in
    let call = goes_nowhere _ c.args.change k out scratch _ _ _ c.in_err-require_room.ensures (search rules) in
    record { call = call; room_suffices = room_suffices c.args.change 0 k out scratch _ (replied (enrol_rule k)) _ (enrol_fits c.args.change k out scratch) call }

pub returns : goal.returns
returns g c =
    let k = c.args.self.now in
    let out = c.args.out.now in
    let scratch = c.args.scratch.now in
    let fits = enrol_fits c.args.change k out scratch in
    let call =
    goes-in-place c.args.change 0 k out scratch _ (replied (enrol_rule k)) _ c.finish.result _ _ _ _ c.in_ok-require_room.ensures fits
    c.apply-reply.ensures.answer c.apply-reply.ensures.lock c.finish.ensures.ends c.finish.ensures.words c.finish.ensures.sealed c.answer.ensures in
    record { call = call; room_suffices = room_suffices c.args.change 0 k out scratch _ (replied (enrol_rule k)) _ fits call }
