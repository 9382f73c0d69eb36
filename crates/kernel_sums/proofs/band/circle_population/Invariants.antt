-- The people are those of the rows above.
use Rattle.std.proofs.Common.{◌≡◌, ◌≤◌, ◌-◌}
use Rattle.lists.specs.Counted.{sum_below}
use Rattle.sums.specs.State.{table_map}
use Rattle.kernel_sums.proofs.People.{reach_people}
use Rattle.kernel_sums.proofs.band.circle_population.Given as goal

abbrev pub invariant-loop-row : goal.invariant-loop-row
invariant-loop-row l = record {
  from : l.initial.row ≤ l.row;
  to : l.row ≤ l.kernel.end;
  summed : l.population ≡ sum_below l.row (reach_people (table_map l.summed.table.grid l.summed.table.sums.now) l.col l.kernel.reach);
}

abbrev pub decreases-loop-row : goal.decreases-loop-row
decreases-loop-row l = l.kernel.end - l.row
