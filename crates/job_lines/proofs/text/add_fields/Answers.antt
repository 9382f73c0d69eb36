-- Fields behind fields.
use Rattle.std.proofs.Common.{refl, arith}
use Rattle.job_lines.proofs.Texts.{fields_len, fields_next}
use Rattle.job_lines.specs.Line.{fields}
use Rattle.job_lines.specs.State.{longer}
use Rattle.job_lines.proofs.text.add_fields.Goals as goal

pub loop-n-init : goal.loop-n-init
unfolding fields longer
loop-n-init c = refl

pub add_field-line-requires : goal.add_field-line-requires
add_field-line-requires c =
    let loop = c.loop-n in
    omega (arith, fields_len c.args.line c.args.numbers.now loop.n-index loop.line (omega arith) loop.invariant)

pub loop-n-preserved : goal.loop-n-preserved
loop-n-preserved c =
    let loop = c.loop-n in
    fields_next c.args.line c.args.numbers.now loop.n-index loop.line c.add_field-line.result (omega arith) loop.invariant c.add_field-line.ensures
