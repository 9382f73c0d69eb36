-- C's operands at their places.
use Rattle.std.proofs.Common.{arith}
use Rattle.job_commands.proofs.Numbers.{number_one, number_four}
use Rattle.job_commands.specs.Command.{set_count_of}
use Rattle.job_commands.proofs.decoding.set_count.Goals as goal

pub returns : goal.returns
unfolding set_count_of
returns c =
    let o = c.args.operands.now in
    rw (
      c.from.ensures,
      c.from-2.ensures,
      number_one o 0 (omega arith),
      number_one o 1 (omega arith),
      number_four o 2 (omega arith) c.bytes_at.ensures c.from_le_bytes.ensures,
    )
