-- A turn fills in the row before.
use Rattle.std.proofs.Common.{◌-◌, arith}
use Rattle.reach.proofs.Reaches.{sheet_high}
use Rattle.reach.proofs.Walks.{filled_before}
use Rattle.reach.proofs.outward.walk_north.Goals as goal

pub bounds-reaches-row : goal.bounds-reaches-row
bounds-reaches-row c = omega (arith, c.requires.on_sheet.on, sheet_high c.requires.on_sheet.sheet)

pub loop-row-preserved : goal.loop-row-preserved
loop-row-preserved c =
    let l = c.loop-row in
    let n = c.reach_of-n in
    let high = sheet_high c.requires.on_sheet.sheet in
    filled_before l.invariant (l.row - 1) n.result (omega (arith, c.requires.on_sheet.on, high)) n.ensures (omega arith) (omega arith)
