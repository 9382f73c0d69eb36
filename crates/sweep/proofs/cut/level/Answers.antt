-- A turn is a chunk more.
use Rattle.std.proofs.Common.{arith}
use Rattle.sweep.proofs.Chunks.{blocks_few, level_start, level_sweeps, level_light, level_next, level_done}
use Rattle.sweep.proofs.cut.level.Goals as goal

pub chunk_size-size-requires : goal.chunk_size-size-requires
chunk_size-size-requires c =
    omega (arith, blocks_few _ _ _ c.requires)

pub loop-start-init : goal.loop-start-init
loop-start-init c =
    rw c.begun-done.ensures (level_start _ _ _ _ _ _ _ _ _ c.chunk_size-size.ensures c.requires)

pub chunk-part-requires : goal.chunk-part-requires
chunk-part-requires c =
    let l = c.loop-start in
    level_sweeps _ _ _ _ _ _ _ _ _ c.chunk_size-size.ensures c.requires _ _ _ l.invariant c.loop-start-test.true _ c.chunk_end-end.ensures

pub joined-done-requires : goal.joined-done-requires
joined-done-requires c =
    level_light _ _ _ _ _ _ _ _ _ c.chunk_size-size.ensures c.requires _ _ _ c.loop-start.invariant c.loop-start-test.true _ c.chunk_end-end.ensures _ _ c.chunk-part.ensures

pub loop-start-preserved : goal.loop-start-preserved
loop-start-preserved c =
    rw c.joined-done.ensures (level_next _ _ _ _ _ _ _ _ _ c.chunk_size-size.ensures c.requires _ _ _ c.loop-start.invariant c.loop-start-test.true _ c.chunk_end-end.ensures _ _ c.chunk-part.ensures _ c.max-start-step.ensures)

pub returns : goal.returns
returns c =
    level_done _ _ _ _ _ _ _ _ _ c.chunk_size-size.ensures c.requires _ _ _ c.loop-start.invariant c.loop-start-test.false

-- a step past every number of 64 bits is past the blocks
pub returns-2 : goal.returns-2
returns-2 c =
    rw c.joined-done.ensures
    (level_done _ _ _ _ _ _ _ _ _ c.chunk_size-size.ensures c.requires _ _ _
    (level_next _ _ _ _ _ _ _ _ _ c.chunk_size-size.ensures c.requires _ _ _ c.loop-start.invariant c.loop-start-test.true _ c.chunk_end-end.ensures _ _ c.chunk-part.ensures _ c.max-start-step.ensures)
    (omega arith))
