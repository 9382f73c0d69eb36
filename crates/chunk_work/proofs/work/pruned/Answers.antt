-- `chunk_work::work::pruned`: the block counted, its cells with it, and its wide kernel.
use native.Mathlib.Omega.{arith}
use Rattle.chunk_work.specs.State.{pruned_work}
use Rattle.chunk_work.proofs.Added.{plus_light, added_light, wide_few}
use Rattle.chunk_work.proofs.work.pruned.Goals as goal

pub add-tally-requires : goal.add-tally-requires
add-tally-requires c =
    let a = c.args in
    let built = c.wide_built in
    let area = c.area in
    rw (c.of-more.ensures, c.of-stats.ensures)
    (plus_light a.work.tally _ c.requires.light
    (added_light 1 1 0 built.result area.result 0 (omega arith) (omega arith) (omega arith)
    (omega (arith, built.ensures, wide_few a.work a.block a.wide)) (omega (arith, area.ensures, c.requires.narrow)) (omega arith)))

pub returns : goal.returns
unfolding pruned_work
returns c = rw (c.add-tally.ensures, c.of-more.ensures, c.area.ensures, c.of-stats.ensures, c.wide_built.ensures, c.probe.ensures)
