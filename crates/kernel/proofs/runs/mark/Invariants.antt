-- The runs of the rows from row on are marked, and the run of row is known where it is touched.
use Rattle.std.proofs.Common.{◌≡◌, ◌<◌, ◌≤◌, get_or}
use Rattle.reach.specs.Reach.{row_places}
use Rattle.reach.specs.State.{Filled}
use Rattle.kernel.specs.State.{run_in}
use Rattle.kernel.proofs.runs.mark.Given as goal

abbrev pub invariant-loop-row : goal.invariant-loop-row
invariant-loop-row l = record {
  ordered : l.north ≤ l.row;
  small : l.to ≤ row_places;
  next : l.below ≡ get_or l.reaches l.row 0;
  known : 0 < l.below → l.to ≡ run_in l.reaches l.row;
  marked : Filled (run_in l.reaches) l.row l.end l.initial.runs l.runs;
}
