use Rattle.std.proofs.Common.{arith, ltb-true}
use Rattle.ballots.proofs.Quorum.{winners}
use Rattle.ballots.proofs.exceed_seats.Goals as goal

pub returns-then-first-seats-clause-together_they_agree : goal.returns-then-first-seats-clause-together_they_agree
returns-then-first-seats-clause-together_they_agree g c said =
    winners g.B.Ballot.agree g.met.B.Ballot.agrees_both_ways g.met.B.Ballot.agrees_across _ _ c.args.ballots.now (omega (arith, c.tally-first.ensures, c.tally-second.ensures))

pub returns-else-first-seats-clause-together_they_agree : goal.returns-else-first-seats-clause-together_they_agree
returns-else-first-seats-clause-together_they_agree g c said =
    winners g.B.Ballot.agree g.met.B.Ballot.agrees_both_ways g.met.B.Ballot.agrees_across _ _ c.args.ballots.now (omega (arith, ltb-true, said, c.tally-first.ensures, c.tally-second.ensures))
