use Rattle.std.proofs.Common.{◌≡◌, sym, ap, ◌∙◌}
use Rattle.letters.specs.declared.bodies.Letter.{Letter}
use Rattle.reading.specs.Parts.{Span, Spans, shown}
use Rattle.terms.specs.Parties.{party_number}
use Rattle.letters.specs.Senders.{sender_of}
use Rattle.posting.specs.Calls.{pointed}
use Rattle.posting.proofs.Goes.{goes_along}
use Rattle.locks.specs.Letters.{letter_rule}
use Rattle.locks.specs.Rules.{Reply, replied, board_called}
use Rattle.locks.proofs.Shown.{rule_shown, sender_shown}
use Rattle.locks.proofs.lock.Lock.receive.Goals as goal

pub returns : goal.returns
returns g c =
    let k = c.args.self.now in
    let m = g.B.Board.meaning c.args.board.now in
    let l = c.spend-letter.result in
    let rule : letter_rule c.args.sizes c.args.change k m l ≡ letter_rule c.args.sizes c.args.change k m (shown c.args.opened.letter)
    = sym (rule_shown c.args.sizes c.args.change k m l) ∙ ap (λ (x : Letter Span Spans). letter_rule c.args.sizes c.args.change k m x) c.spend-letter.ensures in
    let from : party_number (sender_of l.body) ≡ party_number (sender_of (shown c.args.opened.letter).body)
    = ap party_number (sym (sender_shown l) ∙ ap (λ (x : Letter Span Spans). sender_of x.body) c.spend-letter.ensures) in
    record {
      call = goes_along (λ z. ap (λ n. pointed n (replied (letter_rule c.args.sizes c.args.change k m l))) from ∙ ap (λ (r : Reply). pointed (party_number (sender_of (shown c.args.opened.letter).body)) (replied r)) rule) c.serve.ensures.call;
      room_suffices = c.serve.ensures.room_suffices;
      board = c.serve.ensures.board ∙ ap (board_called m k.place c.args.out.now c.args.scratch.now) rule;
    }
