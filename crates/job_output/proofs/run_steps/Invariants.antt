-- A step for each byte and one more, at most.
use Rattle.job_world.specs.State.{state_of}
use Rattle.job_output.proofs.Running.{Under}
use Rattle.job_output.proofs.run_steps.Given as goal

abbrev pub invariant-loop : goal.invariant-loop
invariant-loop l = Under l.bytes l.initial.out l.out (state_of l.state) l.at l.count l.counter
