-- The state before any command: the literals 0.0 and 1.0 are the whole numbers 0 and 1.
use Rattle.floats.proofs.Literals.{literal_0, literal_1}
use Rattle.job_world.specs.State.{no_grid, start_state}
use Rattle.job_world.proofs.state.start.Goals as goal

pub returns : goal.returns
unfolding start_state no_grid
returns c = rw (c.fresh.ensures, literal_0, literal_1)
