use Rattle.std.proofs.Common.{ap, ◌∙◌}
use Rattle.posting.specs.Posting.{seals_in}
use Rattle.posting.proofs.Goes.{goes-copied, goes_along}
use Rattle.posting.specs.Calls.{pointed}
use Rattle.controllers.specs.Rules.{proposing}
use Rattle.controllers.proofs.Own.{proposing_sends}
use Rattle.controllers.proofs.controller.Controller.propose.Goals as goal

pub returns : goal.returns
returns g c =
    let u = c.args.self.now in
    let a = c.finish-posted.result in
    let draft = c.may_propose-draft.result in
    goes_along (λ z. ap (λ x. pointed 0 (proposing u x z)) c.may_propose-draft.ensures)
    (goes-copied c.args.change 0 u c.args.out.now c.args.scratch.now _ (λ z. proposing u draft z) _ a _ _ _ _
    c.in_ok-require_room.ensures
    (c.proposing-reply.ensures ∙ proposing_sends u (seals_in a).first draft) c.keep_proposal.ensures
    c.finish-posted.ensures.ends c.finish-posted.ensures.words c.finish-posted.ensures.sealed c.answer.ensures)
