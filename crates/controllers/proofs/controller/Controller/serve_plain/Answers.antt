use Rattle.std.proofs.Common.{cond, Ok, Err, sym, ap, ◌∙◌}
use Rattle.terms.specs.Refusals.{no_room}
use Rattle.posting.specs.Calls.{keeping}
use Rattle.posting.proofs.Goes.{goes-copied}
use Rattle.controllers.specs.Letters.{plain_rule}
use Rattle.controllers.proofs.controller.Controller.serve_plain.Goals as goal

pub returns : goal.returns
returns g c =
    let u = c.args.self.now in
    let a = c.finish-posted.result in
    goes-copied c.args.change c.args.sender u c.args.out.now c.args.scratch.now _ (λ z. plain_rule c.args.sizes u c.args.body.now c.args.seal) _ a _ _ _ _
    (sym (ap (λ b. cond b (Ok tt) (Err no_room)) c.requires)) c.take_body-reply.ensures.answer
    (c.store.ensures ∙ ap (λ x. keeping u x a) c.take_body-reply.ensures.unit)
    c.finish-posted.ensures.ends c.finish-posted.ensures.words c.finish-posted.ensures.sealed c.answer.ensures
