-- A word, eleven numbers and the end.
use native.Mathlib.Omega.{arith}
use Rattle.job_lines.proofs.Lengths.{length_most}
use Rattle.job_lines.proofs.Texts.{begun_len, line_then}
use Rattle.job_lines.specs.Line.{most_word, newline, most_line, most_fields}
use Rattle.job_lines.proofs.text.most_line.Goals as goal

pub end_line-requires : goal.end_line-requires
unfolding most_fields
end_line-requires c = omega (arith, begun_len c.begin_line.result most_word (most_fields c.args.found) (rw (c.from.ensures, c.from-2.ensures, c.from-3.ensures, c.from-4.ensures) at c.begin_line.ensures))

pub returns : goal.returns
unfolding most_line most_fields
returns c =
    let begun = c.begin_line in
    line_then c.end_line.result begun.result _ newline c.end_line.ensures (rw (c.from.ensures, c.from-2.ensures, c.from-3.ensures, c.from-4.ensures) at begun.ensures) (omega (arith, length_most c.args.found))
