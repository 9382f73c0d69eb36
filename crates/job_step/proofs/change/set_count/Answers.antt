-- Going on, with the cell's count.
use Rattle.std.proofs.Common.{rules}
use Rattle.job_rules.proofs.Commands.{count_on}
use Rattle.job_step.proofs.Lent.{goes_on}
use Rattle.job_step.proofs.change.set_count.Goals as goal

pub returns : goal.returns
returns c = goes_on c.changed.ensures (search (rules, count_on))
