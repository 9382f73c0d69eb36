-- The probe's row is on the grid.
use Rattle.std.proofs.Common.{arith}
use Rattle.blocks.proofs.Tiles.{probe_held}
use Rattle.bounds.proofs.bound.wide_kernel.Goals as goal

pub build-requires : goal.build-requires
build-requires c =
    let r = c.requires.rectangle in
    record { sheet = c.requires.sheet; on = rw c.probe.ensures (omega (arith, (probe_held _ c.args.block r).south, r.south)) }
