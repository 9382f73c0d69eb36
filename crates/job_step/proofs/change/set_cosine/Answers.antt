-- Going on, with the row's cosine.
use Rattle.std.proofs.Common.{rules}
use Rattle.job_rules.proofs.Commands.{cosine_on}
use Rattle.job_step.proofs.Lent.{goes_on}
use Rattle.job_step.proofs.change.set_cosine.Goals as goal

pub returns : goal.returns
returns c = goes_on c.changed.ensures (search (rules, cosine_on))
