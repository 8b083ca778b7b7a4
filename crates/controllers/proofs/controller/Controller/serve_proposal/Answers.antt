use Rattle.std.proofs.Common.{cond, Ok, Err, sym, ap, ◌∙◌}
use Rattle.letters.specs.declared.bodies.Body.TheVariants as B
use Rattle.terms.specs.Refusals.{no_room}
use Rattle.posting.specs.declared.few.AtMostTwo.TheVariants.{One}
use Rattle.posting.specs.Calls.{Ending, ended}
use Rattle.posting.specs.Posting.{seals_in}
use Rattle.posting.proofs.Goes.{goes-copied}
use Rattle.controllers.specs.Rules.{judged, may_hold}
use Rattle.controllers.proofs.Own.{held_sends, judged_keeps}
use Rattle.controllers.proofs.controller.Controller.serve_proposal.Goals as goal

pub returns : goal.returns
returns g c =
    let u = c.args.self.now in
    let p = c.args.proposal.now in
    let t = c.args.change in
    let sizes = c.args.sizes in
    let out = c.args.out.now in
    let scratch = c.args.scratch.now in
    let a = c.finish-posted.result in
    let zs = seals_in a in
    let own = zs.first in
    let may = may_hold sizes t u c.args.view p.outcome p.certificate p.digest c.args.movers in
    let sent = One (B.Assent u.seat u.view p.outcome p.digest) in
    let answer = ap (λ (x : Ending). x.answer) c.finish-posted.ensures.ends ∙ ap (λ x. (ended t c.args.sender x zs out scratch).answer) c.assenting-reply.ensures in
    goes-copied t c.args.sender u out scratch _ (λ z. judged sizes t u c.args.view c.args.movers p z) _ a _ _ _ _
    (sym (ap (λ b. cond b (Ok tt) (Err no_room)) c.requires))
    (c.assenting-reply.ensures ∙ held_sends u p sent own may)
    (c.store_taken.ensures ∙ judged_keeps sizes t u own c.args.sender zs out scratch a p sent may answer)
    c.finish-posted.ensures.ends c.finish-posted.ensures.words c.finish-posted.ensures.sealed c.answer.ensures
