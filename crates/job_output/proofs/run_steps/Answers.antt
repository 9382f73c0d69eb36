-- After the last step: the job has ended, or no byte is left.
use Rattle.std.proofs.Common.{arith}
use Rattle.job_world.specs.State.{state_of}
use Rattle.job_output.proofs.Running.{under_ended, under_all}
use Rattle.job_output.proofs.run_steps.Goals as goal

pub returns-then-r : goal.returns-then-r
returns-then-r c =
    let loop = c.loop in
    under_ended c.args.bytes.now c.args.out.now loop.out loop.state loop.at loop.count loop.counter
    loop.invariant (omega arith) c.step-r.result c.step-r.ensures c.add_line-count.result _ c.add_line-count.ensures.out_after c.if-r.true

pub returns : goal.returns
returns c =
    under_all c.args.bytes.now c.args.out.now c.loop.out (state_of c.loop.state) c.loop.at
    c.loop.count c.loop.counter c.loop.invariant (omega arith)
