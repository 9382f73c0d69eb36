-- What R's call and a command give, as the code has them.
use Rattle.std.specs.Prelude.{◌≡◌, Result, Ok, Err}
use Rattle.grid.specs.declared.refusal.Refusal.{Refusal}
use Rattle.grid.specs.Refusal.{refusal_number, answer_of}
use Rattle.ledger.specs.declared.Ledger.{Ledger}
use Rattle.probes.specs.declared.Smallest.{Smallest}
use Rattle.smallest_rules.specs.Call.{SmallestOutcome}
use Rattle.job_world.specs.declared.JobState.{JobState}
use Rattle.job_rules.specs.declared.Applied.{Applied}
use Rattle.job_rules.specs.State.{refused_in}
use Rattle.job_step.specs.declared.Printed.{Printed}

-- an R's answer and ledger as the code has them
pub record IsLeast (o : SmallestOutcome) (r : Result Smallest Refusal) (l : Ledger) : Type 0 where
  pub answer : answer_of r ≡ o.answer
  pub ledger : l ≡ o.ledger

-- the state after a command, and what it prints or is refused by, settled in that state
abbrev pub settled_in : JobState → Result Printed Refusal → Applied
settled_in s (Ok p) = record { state = s; line = p.line; last = p.last }
settled_in s (Err r) = refused_in s (refusal_number r)
