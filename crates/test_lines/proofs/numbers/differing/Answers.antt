-- The words in turn.
use Rattle.std.proofs.Common.{arith, rules}
use Rattle.test_lines.proofs.Words.{differing_none, differing_more}
use Rattle.test_lines.proofs.numbers.differing.Goals as goal

pub loop-k-init : goal.loop-k-init
loop-k-init c = (omega arith, differing_none _ _ _ _)

pub loop-k-preserved : goal.loop-k-preserved
loop-k-preserved c =
    let loop = c.loop-k in
    let a = c.args in (
      search rules,
      rw (c.from-count.ensures, c.word_at.ensures, c.word_at-in-loop-k.ensures, c.beyond-a.ensures, c.beyond-b.ensures)
          (differing_more a.a.now a.i a.b.now a.j loop.k loop.count loop.invariant.1),
    )
