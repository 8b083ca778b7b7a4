use Rattle.std.proofs.Common.{◌≡◌, ◌^◌, ◌<◌, ◌≤◌}
use Rattle.controllers.specs.Choice.{picked}
use Rattle.controllers.proofs.counts.pick.Given as goal

abbrev pub invariant-loop-seat : goal.invariant-loop-seat
invariant-loop-seat l = (l.picked ≡ picked l.records l.view l.quorum l.seat) × (l.picked.map < 2 ^ l.seat) × (l.picked.count ≤ l.seat)
