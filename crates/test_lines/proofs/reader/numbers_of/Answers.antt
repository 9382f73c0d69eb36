-- The letter, then the bytes behind it in turn.
use Rattle.std.proofs.Common.{arith, get_or, ◌∙◌, ap}
use lib.Seq.{take_all}
use Rattle.lists.specs.Lists.{fold}
use Rattle.test_lines.specs.Lines.{Reading, read_byte, letter_of, line_read}
use Rattle.test_lines.proofs.Lines.{took_count, read_more}
use Rattle.test_lines.proofs.reader.numbers_of.Goals as goal

pub loop-b-init : goal.loop-b-init
unfolding fold
loop-b-init c = (omega arith, rw (c.copied.ensures, c.first.ensures.value))

pub loop-b-preserved : goal.loop-b-preserved
loop-b-preserved c =
    let loop = c.loop-b in
    let bytes = c.beyond-rest.result.now in
    rw (c.put_last.ensures, c.took-r.ensures)
    (omega (arith, loop.invariant, took_count loop.r (get_or bytes loop.b-index 0)), read_more _ bytes loop.b-index loop.r loop.words c.loop-b-test.true loop.invariant.1)

pub returns : goal.returns
unfolding line_read
returns c =
    let first : Reading = record { line = letter_of c.args.line.now; words = c.args.words.now } in
    c.loop-b.invariant.1 ∙ ap (fold read_byte first) (take_all _ _ c.loop-b-test.false ∙ c.beyond-rest.ensures)
