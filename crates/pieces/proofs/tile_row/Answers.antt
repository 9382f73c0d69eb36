-- A turn writes the tile from its column on.
use Rattle.std.proofs.Common.{arith}
use Rattle.pieces.proofs.TileWords.{row_start, row_room, row_step, row_done}
use Rattle.pieces.proofs.tile_row.Goals as goal

pub loop-first-init : goal.loop-first-init
loop-first-init c = row_start _ _ _ _ _ c.requires

pub bounds-words-next : goal.bounds-words-next
bounds-words-next c = row_room _ _ _ _ _ _ _ _ c.loop-first.invariant _ c.loop-first-test.true c.step_end-last.ensures

pub loop-first-preserved : goal.loop-first-preserved
loop-first-preserved c = row_step _ _ _ _ _ _ _ _ c.loop-first.invariant _ c.loop-first-test.true c.step_end-last.ensures _ _ c.max-first-step.ensures c.from.ensures

pub returns : goal.returns
returns c = row_done _ _ _ _ _ _ _ _ c.loop-first.invariant c.loop-first-test.false

-- a step that is too wide for a number of 32 bits ends the row
pub returns-2 : goal.returns-2
returns-2 c =
    row_done _ _ _ _ _ _ _ _
    (row_step _ _ _ _ _ _ _ _ c.loop-first.invariant _ c.loop-first-test.true c.step_end-last.ensures _ _ c.max-first-step.ensures c.from.ensures)
    (omega arith)
