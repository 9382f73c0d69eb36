-- A word, a number and the end.
use Rattle.std.proofs.Common.{[], ◌∷◌, arith}
use Rattle.job_lines.proofs.Lengths.{length_refused}
use Rattle.job_lines.proofs.Texts.{begun_len, line_then}
use Rattle.job_lines.specs.Line.{refused_word, newline, refused_line}
use Rattle.job_lines.proofs.text.refused_line.Goals as goal

pub end_line-requires : goal.end_line-requires
end_line-requires c = omega (arith, begun_len c.begin_line.result refused_word (c.args.number ∷ []) (rw c.from.ensures at c.begin_line.ensures))

pub returns : goal.returns
unfolding refused_line
returns c =
    let begun = c.begin_line in
    line_then c.end_line.result begun.result _ newline c.end_line.ensures (rw c.from.ensures at begun.ensures) (omega (arith, length_refused c.args.number))
