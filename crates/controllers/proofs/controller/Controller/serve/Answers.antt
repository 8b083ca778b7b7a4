use Rattle.std.proofs.Common.{◌≡◌, true, false, cond, not, eqb, sym, ap, ◌∙◌, arith}
use Rattle.std.proofs.lemmas.Bool.Decides.{nat_tests}
use Rattle.terms.specs.declared.refusals.RuleCause.TheVariants as R
use Rattle.terms.specs.Parties.{party_number}
use Rattle.letters.specs.Senders.{sender_of}
use Rattle.posting.specs.Calls.{pointed, ruled}
use Rattle.posting.specs.Replies.{refused}
use Rattle.posting.proofs.Goes.{goes_refused, goes_along, has_room_lem}
use Rattle.controllers.specs.Letters.{body_rule}
use Rattle.controllers.proofs.controller.Controller.serve.Goals as goal

pub returns-then-ne : goal.returns-then-ne
returns-then-ne g c =
    let u = c.args.self.now in
    let l = c.args.letter in
    let t = c.args.change in
    let from = party_number (sender_of l.body) in
    let other : not (eqb l.change.0 t.0) ≡ true = grind (arith, nat_tests) in
    goes_refused _ t u c.args.out.now c.args.scratch.now _ (ruled R.OtherChange from) _ _
    (has_room_lem c.args.out.now c.args.scratch.now _ c.in_ok-require_room.ensures)
    (λ z. ap (λ b. pointed from (cond b (refused R.OtherChange) (body_rule c.args.sizes t u l.body l.seal z))) other)
    (c.refused_by_rule.ensures ∙ ap (ruled R.OtherChange) c.sender_number-sender.ensures) c.clear.ensures

pub serve_body-requires : goal.serve_body-requires
serve_body-requires g c = has_room_lem c.args.out.now c.args.scratch.now _ c.in_ok-require_room.ensures

pub returns : goal.returns
returns g c =
    let u = c.args.self.now in
    let l = c.args.letter in
    let t = c.args.change in
    let from = party_number (sender_of l.body) in
    let same : not (eqb l.change.0 t.0) ≡ false = grind (arith, nat_tests) in
    goes_along (λ z. ap (λ n. pointed n (body_rule c.args.sizes t u l.body l.seal z)) c.sender_number-sender.ensures
    ∙ sym (ap (λ b. pointed from (cond b (refused R.OtherChange) (body_rule c.args.sizes t u l.body l.seal z))) same))
    c.serve_body.ensures
