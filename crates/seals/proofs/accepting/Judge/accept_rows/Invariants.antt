use Rattle.std.proofs.Common.{◌≡◌, ◌+◌, ◌-◌, ◌≤◌}
use Rattle.letters.specs.Inner.{rows_borne}
use Rattle.seals.specs.Opening.{accept_all}
use Rattle.seals.proofs.accepting.Judge.accept_rows.Given as goal

abbrev pub invariant-loop-k : goal.invariant-loop-k
invariant-loop-k g l =
    (l.n ≤ l.before + l.k)
    × (accept_all (g.S.Scheme.holds l.self.scheme.now) (rows_borne (g.R.SealRows.row l.rows) l.k (l.count - l.k)) l.n
    ≡ accept_all (g.S.Scheme.holds l.self.scheme.now) (rows_borne (g.R.SealRows.row l.rows) 0 l.count) l.before)
