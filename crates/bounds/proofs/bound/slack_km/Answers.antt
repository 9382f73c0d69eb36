-- The probe is a cell of the block.
use Rattle.std.proofs.Common.{arith}
use Rattle.std.proofs.lemmas.Grind.{common_steps}
use Rattle.blocks.proofs.Tiles.{probe_held}
use Rattle.lists.specs.Counted.{max}
use Rattle.floats.specs.Binary.{open_floats}
use Rattle.grid.specs.Map.{cosine_at}
use Rattle.bounds.specs.Bound.{slack_km}
use Rattle.bounds.proofs.bound.slack_km.Goals as goal

pub overflow_sub-p : goal.overflow_sub-p
overflow_sub-p c = rw c.probe-p.ensures (probe_held _ _ c.requires.rectangle).first

pub overflow_sub-block : goal.overflow_sub-block
overflow_sub-block c = rw c.probe-p.ensures (probe_held _ _ c.requires.rectangle).last

pub bounds-cosines-at : goal.bounds-cosines-at
bounds-cosines-at c =
    let r = c.requires.rectangle in
    rw (c.from-at.ensures, c.probe-p.ensures) (omega (arith, (probe_held _ c.args.block r).south, r.south, c.requires.complete))

-- The code is the definition, operation for operation. The check would find this alone; where an operation is another it is refused sooner so.
pub returns : goal.returns
unfolding slack_km cosine_at open_floats max
returns c = grind (arith, common_steps)
