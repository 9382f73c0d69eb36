-- The line of what was found.
use Rattle.std.proofs.Common.{rules}
use Rattle.job_step.proofs.Lent.{most_found, goes_on}
use Rattle.job_step.proofs.calls.run_most.Goals as goal

pub returns : goal.returns
returns c = goes_on c.go_on.ensures (search (rules, most_found))
