use Rattle.std.proofs.Common.{ap, ◌∙◌}
use Rattle.posting.specs.Calls.{keeping}
use Rattle.posting.proofs.Goes.{goes-copied}
use Rattle.controllers.specs.Rules.{ring_rule}
use Rattle.controllers.proofs.controller.Controller.ring.Goals as goal

pub returns : goal.returns
returns g c =
    let u = c.args.self.now in
    let a = c.finish-posted.result in
    goes-copied c.args.change 0 u c.args.out.now c.args.scratch.now _ (λ z. ring_rule u) _ a _ _ _ _
    c.in_ok-require_room.ensures c.take_ring-reply.ensures.answer
    (c.store.ensures ∙ ap (λ x. keeping u x a) c.take_ring-reply.ensures.unit)
    c.finish-posted.ensures.ends c.finish-posted.ensures.words c.finish-posted.ensures.sealed c.answer.ensures
