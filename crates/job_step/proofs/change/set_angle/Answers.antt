-- Going on, with the angle.
use Rattle.std.proofs.Common.{rules}
use Rattle.job_rules.proofs.Commands.{angle_on_lem}
use Rattle.job_step.proofs.Lent.{goes_on}
use Rattle.job_step.proofs.change.set_angle.Goals as goal

pub returns : goal.returns
returns c = goes_on c.changed.ensures (search (rules, angle_on_lem))
