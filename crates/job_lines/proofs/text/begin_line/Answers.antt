-- A word, then fields.
use native.Mathlib.Omega.{arith}
use mathlib.Core.Path.{◌≡◌, ap}
use mathlib.Core.List.{[]}
use lib.ListN.{length-append}
use Rattle.job_lines.proofs.Lengths.{length_fields}
use Rattle.job_lines.proofs.Texts.{len_longer, line_then}
use Rattle.job_lines.specs.declared.Line.{Line}
use Rattle.job_lines.specs.Line.{fields}
use Rattle.job_lines.specs.State.{line_of}
use Rattle.job_lines.proofs.text.begin_line.Goals as goal

no_bytes : (l : Line) → l ≡ line_of [] → l.len ≡ 0
unfolding line_of
no_bytes l e = ap (λ (t : Line). t.len) e

pub append-requires : goal.append-requires
append-requires c = omega (arith, no_bytes c.blank.result c.blank.ensures)

pub add_fields-requires : goal.add_fields-requires
add_fields-requires c =
    let blank = c.blank in
    omega (arith, len_longer blank.result c.append.result _ c.append.ensures, no_bytes blank.result blank.ensures)

pub returns : goal.returns
returns c =
    let append = c.append in
    let blank = c.blank in
    let args = c.args in
    let word = args.word.now in
    let ns = args.numbers.now in
    let room = length_fields ns in
    line_then c.add_fields.result append.result word (fields ns) c.add_fields.ensures
    (line_then append.result blank.result [] word append.ensures blank.ensures (omega (arith, room)))
    (omega (arith, room, length-append word (fields ns)))
