use Rattle.std.proofs.Common.{cond, sym, ap, ◌∙◌, rules}
use Rattle.posting.specs.Calls.{ended}
use Rattle.posting.specs.Posting.{seals_in}
use Rattle.posting.proofs.Goes.{goes_nowhere, goes-in-place, room_suffices, has_room_lem, has_no_room}
use Rattle.terms.specs.Parties.{party_number}
use Rattle.letters.specs.Senders.{sender_of}
use Rattle.locks.specs.Letters.{letter_rule}
use Rattle.locks.specs.Rules.{replied, board_after}
use Rattle.locks.proofs.Small.{letter_fits_holds}
use Rattle.locks.proofs.lock.Lock.serve.Goals as goal

pub returns-in_err-require_room : goal.returns-in_err-require_room
returns-in_err-require_room g c =
    let k = c.args.self.now in
    let out = c.args.out.now in
    let scratch = c.args.scratch.now in
    let m = g.B.Board.meaning c.args.board.now in
    let rule = letter_rule c.args.sizes c.args.change k m c.args.letter in
    let from = party_number (sender_of c.args.letter.body) in
    let call = goes_nowhere _ c.args.change k out scratch _ _ _ c.in_err-require_room.ensures (search rules) in
    record {
      call = call;
      room_suffices = room_suffices c.args.change from k out scratch _ (replied rule) _ (letter_fits_holds c.args.change k out scratch c.args.sizes m c.args.letter) call;
      board = sym (ap (λ b. cond b (board_after m k.place rule) m) (has_no_room out scratch _ c.in_err-require_room.ensures));
    }

pub returns : goal.returns
returns g c =
    let k = c.args.self.now in
    let out = c.args.out.now in
    let scratch = c.args.scratch.now in
    let m = g.B.Board.meaning c.args.board.now in
    let rule = letter_rule c.args.sizes c.args.change k m c.args.letter in
    let from = party_number (sender_of c.args.letter.body) in
    let reply = c.take_letter-reply.ensures in
    let a = c.finish.result in
    let fits = letter_fits_holds c.args.change k out scratch c.args.sizes m c.args.letter in
    let call =
    goes-in-place c.args.change from k out scratch _ (replied rule) _ a _ _ _ _ c.in_ok-require_room.ensures fits
    reply.follows.answer reply.follows.lock
    (c.finish.ensures.ends ∙ ap (λ n. ended c.args.change n c.take_letter-reply.result (seals_in a) out scratch) c.sender_number-sender.ensures)
    c.finish.ensures.words c.finish.ensures.sealed c.answer.ensures in
    record {
      call = call;
      room_suffices = room_suffices c.args.change from k out scratch _ (replied rule) _ fits call;
      board = reply.board ∙ sym (ap (λ b. cond b (board_after m k.place rule) m) (has_room_lem out scratch _ c.in_ok-require_room.ensures));
    }
