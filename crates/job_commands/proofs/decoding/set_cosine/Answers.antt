-- K's operands at their places.
use Rattle.std.proofs.Common.{arith}
use Rattle.job_commands.proofs.Numbers.{number_one}
use Rattle.job_commands.specs.Command.{row_at, set_cosine_of}
use Rattle.job_commands.proofs.decoding.set_cosine.Goals as goal

pub returns : goal.returns
unfolding set_cosine_of row_at
returns c = rw (number_one c.args.operands.now 0 (omega arith), c.from.ensures, c.float_at.ensures)
