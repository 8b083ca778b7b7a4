use Rattle.std.proofs.Common.{map, take, ap, ◌∙◌, rules}
use Rattle.std.proofs.lemmas.List.{take_more_set, map_push}
use Rattle.boards.proofs.Made.{filled_more}
use Rattle.boards.proofs.row.Row.fitted.Goals as goal

pub loop-i-preserved : goal.loop-i-preserved
loop-i-preserved g c =
    let some = rw c.in_ok-doors.ensures.ok_part at c.new.ensures in
    let door = c.in_ok-doors.field-0 in
    let doors = take c.loop-i.i c.loop-i.doors in
    let more = ap (map g.D.DoorKind.shown) (take_more_set c.loop-i.doors c.loop-i.i door (search rules)) ∙ map_push g.D.DoorKind.shown doors door in
    (search rules, filled_more g.D.DoorKind.fits _ _ _ _ _ _ _ c.loop-i.invariant.1 c.loop-i-test.true c.index-entries-i.is some more)
