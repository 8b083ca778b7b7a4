-- The kinds of ballots, and when two of a kind agree.
use Rattle.std.specs.Prelude.{Bool, true, false, ◌&&◌, ◌==◌}
use Rattle.terms.specs.declared.parties.Outcome.{Outcome}
use Rattle.terms.specs.declared.parties.Outcome.TheVariants.{Keep, Number}
use Rattle.ballots.specs.declared.Receipted.{Receipted}
use Rattle.ballots.specs.declared.Pair.{Pair}

abbrev pub always_agree : Receipted → Receipted → Bool
always_agree x y = true

-- both keep, or both have the same number
abbrev pub same_outcome : Outcome → Outcome → Bool
same_outcome Keep Keep = true
same_outcome Keep (Number b) = false
same_outcome (Number a) Keep = false
same_outcome (Number a) (Number b) = a.0 == b.0

-- the same digest and the same outcome
abbrev pub same_pair : Pair → Pair → Bool
same_pair p q = p.digest.0 == q.digest.0 && same_outcome p.outcome q.outcome
