-- A space and a number's digits.
use Rattle.std.proofs.Common.{arith, rules}
use Rattle.job_lines.proofs.Texts.{len_longer, field_longer}
use Rattle.job_lines.proofs.text.add_field.Goals as goal

pub append-requires : goal.append-requires
append-requires c = omega (arith, len_longer c.args.line c.append-spaced.result _ c.append-spaced.ensures)

pub returns : goal.returns
returns c =
    field_longer c.args.line c.append-spaced.result c.append.result c.args.n c.ranges.n.fits c.append-spaced.ensures (search rules)
