-- A turn fills in the row after.
use Rattle.std.proofs.Common.{refl, arith}
use Rattle.reach.proofs.Reaches.{sheet_high}
use Rattle.reach.proofs.Walks.{filled_after}
use Rattle.reach.proofs.outward.walk_south.Goals as goal

pub bounds-reaches-row : goal.bounds-reaches-row
bounds-reaches-row c = omega (arith, sheet_high c.requires.on_sheet.sheet)

pub loop-row-preserved : goal.loop-row-preserved
loop-row-preserved c =
    let l = c.loop-row in
    let n = c.reach_of-n in
    filled_after l.invariant l.row n.result (omega (arith, sheet_high c.requires.on_sheet.sheet)) n.ensures (omega arith) refl
