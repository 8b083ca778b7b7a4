use Rattle.std.proofs.Common.{◌≡◌, ◌++◌, take, drop}
use Rattle.kept.specs.Kept.{votes_of}
use Rattle.kept.proofs.read_votes.Given as goal

abbrev pub invariant-loop-k : goal.invariant-loop-k
invariant-loop-k l = take l.k l.votes ++ votes_of l.left (drop l.k l.seals) ≡ votes_of l.ready l.seals
