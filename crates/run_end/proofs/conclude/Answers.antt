-- The centre's row is on the grid.
use Rattle.run_end.proofs.Ends.{row_on}
use Rattle.run_end.proofs.conclude.Goals as goal

pub covers-requires : goal.covers-requires
covers-requires c = row_on c.requires
