-- The letter at the place, or none.
use Rattle.std.proofs.Common.{ap, ◌∙◌}
use Rattle.job_commands.proofs.Operands.{decode_letter, decode_none}
use Rattle.job_commands.specs.State.{decoded_in}
use Rattle.job_commands.proofs.decoding.decode.Goals as goal

pub returns-in_err-get : goal.returns-in_err-get
returns-in_err-get c = c.from_residual.ensures ∙ decode_none c.args.bytes.now c.args.at c.in_err-get.ensures.lookup.3

pub returns : goal.returns
returns c =
    let found = c.in_ok-get.ensures.lookup.3 in
    c.decode_as.ensures ∙ ap (decoded_in c.args.bytes.now) (decode_letter c.args.bytes.now c.args.at found.0 (found.1 0))
