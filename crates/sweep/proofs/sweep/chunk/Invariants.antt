-- Invariant: the work is the definition's over the blocks passed, and their children are written; the exact kernel is that of its row, and each
-- wide one serves its shape.
use Rattle.grid.specs.Map.{globe_lent}
use Rattle.kernel.specs.State.{KernelAt}
use Rattle.levels.specs.State.{Serves}
use Rattle.sweep.proofs.Sweeps.{Sweeping}
use Rattle.sweep.proofs.sweep.chunk.Given as goal

abbrev pub invariant-loop-word : goal.invariant-loop-word
invariant-loop-word l =
    let g = l.map.globe in
    Sweeping g.grid g.angles.now g.cosines.now l.map.sums.now l.words l.km l.initial.work.held l.initial.following l.live l.following l.work l.at l.word-index
    × KernelAt (globe_lent g) l.exact.row l.km l.exact
    × Serves g.grid g.angles.now g.cosines.now l.km l.one.shape l.one.kernel × Serves g.grid g.angles.now g.cosines.now l.km l.two.shape l.two.kernel
