-- The circle at the end tells, by its kernel.
use Rattle.std.proofs.Common.{◌∙◌}
use Rattle.grid.specs.Map.{globe_lent}
use Rattle.run_end.proofs.Ends.{told_by_kernel}
use Rattle.run_end.proofs.covers.Goals as goal

pub returns : goal.returns
returns c =
    c.covers.ensures
    ∙ told_by_kernel (globe_lent c.args.globe.now) c.args.end c.if-not-end.false c.requires c.build-kernel.result (rw c.from.ensures at c.build-kernel.ensures)
