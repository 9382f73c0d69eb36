-- The float of the number that eight bytes say.
use Rattle.std.proofs.Common.{◌∙◌, ap}
use Rattle.std.specs.Float.{binary64}
use Rattle.std.specs.Float.Ieee.{of_bits}
use Rattle.job_commands.proofs.Numbers.{number_eight}
use Rattle.job_commands.specs.Command.{float}
use Rattle.job_commands.proofs.bytes.float_at.Goals as goal

pub returns : goal.returns
unfolding float
returns c =
    c.from_bits.ensures
    ∙ ap (of_bits binary64) (number_eight c.args.bytes.now c.args.at c.requires c.bytes_at.ensures c.from_le_bytes.ensures)
