-- The test of every row's reach.
use Rattle.std.proofs.Common.{rules, arith, ◌<◌, ◌≤◌, take}
use Rattle.std.proofs.lemmas.Iterator.{cases_from_all, YieldsList-from_slice}
use borrow.Author.Tests.{tests}
use Rattle.grid.proofs.Sizes.{grid_sizes}
use Rattle.kernel.proofs.WholeGrid.{covers_tested}
use Rattle.kernel_sums.proofs.cover.covers.Goals as goal

pub returns : goal.returns
returns c =
    let a = c.args in
    let n = c.closing-closing.result in
    let rows = YieldsList-from_slice {s = c.iter.result} (take a.grid.height a.kernel.now.reach) (grind (arith, c.iter.ensures.rest)) in
    covers_tested a.grid c.requires a.kernel.now n c.closing-closing.ensures (omega (arith, (grid_sizes a.grid c.requires).rows)) _
    (cases_from_all _ _ _ (λ x. n < x) (λ x. x ≤ n) c.all.ensures.ran rows (λ x q k. search (rules, tests)) (λ x q k. search (rules, tests)))
