-- The line of what was found, and the ledger.
use Rattle.std.proofs.Common.{rules}
use Rattle.job_step.proofs.Lent.{least_found, goes_on}
use Rattle.job_step.proofs.calls.run_least.Goals as goal

pub returns : goal.returns
returns c = goes_on c.go_on.ensures (search (rules, least_found))
