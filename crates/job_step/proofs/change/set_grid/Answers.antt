-- Going on, with the map that begins.
use Rattle.std.proofs.Common.{rules}
use Rattle.job_rules.proofs.Commands.{grid_begins}
use Rattle.job_step.proofs.Lent.{goes_on}
use Rattle.job_step.proofs.change.set_grid.Goals as goal

pub returns : goal.returns
returns c = goes_on c.changed.ensures (search (rules, grid_begins))
