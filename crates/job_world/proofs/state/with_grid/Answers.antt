-- Nothing set, and no entries.
use Rattle.job_world.specs.State.{start_state, grid_state}
use Rattle.job_world.proofs.state.with_grid.Goals as goal

pub returns : goal.returns
unfolding start_state grid_state
returns c = rw (c.start.ensures, c.emptied.ensures)
