-- A's operands at their places.
use Rattle.std.proofs.Common.{arith}
use Rattle.job_commands.proofs.Numbers.{number_one}
use Rattle.job_commands.specs.Command.{row_at, set_angle_of}
use Rattle.job_commands.proofs.decoding.set_angle.Goals as goal

pub returns : goal.returns
unfolding set_angle_of row_at
returns c =
    let o = c.args.operands.now in
    rw (
      number_one o 0 (omega arith),
      number_one o 1 (omega arith),
      number_one o 2 (omega arith),
      c.from.ensures,
      c.from-2.ensures,
      c.from-3.ensures,
      c.float_at.ensures,
    )
