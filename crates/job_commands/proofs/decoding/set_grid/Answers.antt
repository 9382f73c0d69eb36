-- G's operands at their places.
use Rattle.std.proofs.Common.{arith}
use Rattle.job_commands.proofs.Numbers.{number_one}
use Rattle.job_commands.specs.Command.{grid_read, set_grid_of}
use Rattle.job_commands.proofs.decoding.set_grid.Goals as goal

pub returns : goal.returns
unfolding set_grid_of grid_read
returns c =
    let o = c.args.operands.now in
    rw (
      number_one o 0 (omega arith),
      number_one o 1 (omega arith),
      c.from.ensures,
      c.from-2.ensures,
      c.float_at.ensures,
      c.float_at-2.ensures,
      c.float_at-3.ensures,
    )
