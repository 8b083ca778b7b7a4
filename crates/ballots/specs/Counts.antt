-- Counting ballots that agree.
use Rattle.std.specs.Prelude.{ℕ, Bool, false, List, Some, None, count_by, Option}

-- a ballot is there and agrees with v
abbrev pub votes_for : {V : Type 0} → (V → V → Bool) → V → Option V → Bool
votes_for agree v (Some w) = agree w v
votes_for agree v None = false

-- how many ballots agree with v
abbrev pub count_agree : {V : Type 0} → (V → V → Bool) → V → List (Option V) → ℕ
count_agree agree v xs = count_by (votes_for agree v) xs
