-- A turn adds the people of its run.
use Rattle.std.proofs.Common.{◌≡◌, ◌∙◌, ◌+◌, sym, arith}
use Rattle.lists.specs.Counted.{sum_below}
use Rattle.sums.specs.State.{table_map}
use Rattle.kernel_sums.proofs.People.{reach_people, people_run, people_total}
use Rattle.kernel_sums.proofs.band.circle_population.Goals as goal
use Rattle.kernel_sums.proofs.band.circle_population.Goals.{After-band_span-population}

module _ (c : After-band_span-population) where
  more : c.loop-row.population + c.band_span-population.result
      ≡ sum_below c.from-next.result (reach_people (table_map c.args.summed.table.grid c.args.summed.table.sums.now) c.args.col c.args.kernel.now.reach)
  more =
      let l = c.loop-row in
      let p = c.requires in
      let t = c.loop-row-test.true in
      let onward = p.runs.onward l.row l.invariant.from t in
      let within = p.runs.within l.row l.invariant.from t in
      let touched = p.band.touched l.row l.invariant.from t in
      let run =
      people_run (table_map c.args.summed.table.grid c.args.summed.table.sums.now) c.args.col c.args.kernel.now.reach l.row c.from-next.result c.from-n.result
      (omega (arith, onward)) (omega (arith, within, p.band.on)) (omega (arith, touched))
      (λ i h u. p.runs.alike l.row l.invariant.from t i h (omega arith) ∙ sym c.from-n.ensures) in
      omega (arith, l.invariant.summed, c.band_span-population.ensures, run)

pub overflow_add-population : goal.overflow_add-population
overflow_add-population c =
    let l = c.loop-row in
    let p = c.requires in
    let within = p.runs.within l.row l.invariant.from c.loop-row-test.true in
    let m = table_map c.args.summed.table.grid c.args.summed.table.sums.now in
    omega (arith, more c, people_total m c.args.col c.args.kernel.now.reach c.from-next.result (omega (arith, within, p.band.on)), c.args.summed.summed.exact)

pub loop-row-preserved : goal.loop-row-preserved
loop-row-preserved c =
    let l = c.loop-row in
    let onward = c.requires.runs.onward l.row l.invariant.from c.loop-row-test.true in
    let within = c.requires.runs.within l.row l.invariant.from c.loop-row-test.true in
    record { from = omega (arith, onward); to = omega (arith, within); summed = more c }
