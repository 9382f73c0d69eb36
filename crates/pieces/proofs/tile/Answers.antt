-- A turn writes the row of tiles from its row on.
use Rattle.std.proofs.Common.{arith}
use Rattle.lists.proofs.Folds.{length_each}
use Rattle.blocks.specs.State.{word_of}
use Rattle.blocks.specs.Block.{tile}
use Rattle.pieces.proofs.TileWords.{tiles_start, tiles_room, tiles_step, tiles_done, tiles_of}
use Rattle.pieces.proofs.tile.Goals as goal

pub loop-north-init : goal.loop-north-init
loop-north-init c =
    let a = c.args in
    tiles_start a.grid.width a.grid.height a.spacing a.words.now (rw (tiles_of a.grid a.spacing, length_each word_of (tile a.grid a.spacing)) c.requires)

pub tile_row-next-requires : goal.tile_row-next-requires
tile_row-next-requires c = tiles_room _ _ _ _ _ _ _ c.loop-north.invariant _ c.loop-north-test.true c.step_end-south.ensures

pub loop-north-preserved : goal.loop-north-preserved
loop-north-preserved c =
    tiles_step _ _ _ _ _ _ _ c.loop-north.invariant _ c.loop-north-test.true c.step_end-south.ensures _ _ _ c.max-north-step.ensures c.tile_row-next.ensures

pub returns : goal.returns
returns c = rw (← tiles_of c.args.grid c.args.spacing) (tiles_done _ _ _ _ _ _ _ c.loop-north.invariant c.loop-north-test.false)

pub returns-2 : goal.returns-2
returns-2 c =
    rw (← tiles_of c.args.grid c.args.spacing)
    (tiles_done _ _ _ _ _ _ _
    (tiles_step _ _ _ _ _ _ _ c.loop-north.invariant _ c.loop-north-test.true c.step_end-south.ensures _ _ _ c.max-north-step.ensures c.tile_row-next.ensures)
    (omega arith))
