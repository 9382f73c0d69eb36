-- M's operands at their places.
use Rattle.std.proofs.Common.{arith}
use Rattle.job_commands.proofs.Numbers.{number_two}
use Rattle.job_commands.specs.Command.{most_of}
use Rattle.job_commands.proofs.decoding.most.Goals as goal

pub returns : goal.returns
unfolding most_of
returns c =
    let o = c.args.operands.now in
    rw (
      c.from.ensures,
      c.from-2.ensures,
      number_two o 0 (omega arith) c.bytes_at.ensures c.from_le_bytes.ensures,
      number_two o 2 (omega arith) c.bytes_at-2.ensures c.from_le_bytes-2.ensures,
    )
