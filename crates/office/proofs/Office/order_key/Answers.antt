use Rattle.posting.proofs.Goes.{goes-in-place}
use Rattle.office.specs.Rules.{order_rule}
use Rattle.office.proofs.Fits.{order_fits_lem}
use Rattle.office.proofs.Office.order_key.Goals as goal

pub returns : goal.returns
returns g c =
    let o = c.args.self.now in
    let out = c.args.out.now in
    let scratch = c.args.scratch.now in
    goes-in-place c.args.change 0 o out scratch _ (order_rule o c.args.number) _ c.finish.result _ _ _ _
    c.in_ok-require_room.ensures (order_fits_lem c.args.change o c.args.number out scratch)
    c.take_order-reply.ensures.answer c.take_order-reply.ensures.unit c.finish.ensures.ends c.finish.ensures.words c.finish.ensures.sealed c.answer.ensures
