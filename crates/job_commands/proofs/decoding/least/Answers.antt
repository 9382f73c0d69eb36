-- R's operands at their places.
use Rattle.std.proofs.Common.{arith}
use Rattle.job_commands.proofs.Numbers.{number_two}
use Rattle.job_commands.specs.Command.{least_of}
use Rattle.job_commands.proofs.decoding.least.Goals as goal

pub returns : goal.returns
unfolding least_of
returns c =
    let o = c.args.operands.now in
    rw (c.from.ensures, c.float_at.ensures, number_two o 0 (omega arith) c.bytes_at.ensures c.from_le_bytes.ensures)
