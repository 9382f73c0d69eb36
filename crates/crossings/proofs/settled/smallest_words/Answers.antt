-- The nineteen words in order.
use Rattle.crossings.proofs.SmallestCrossings.{words_laid}
use Rattle.crossings.proofs.settled.smallest_words.Goals as goal

pub returns : goal.returns
returns c =
    rw (c.from.ensures, c.from-2.ensures, c.from-3.ensures, c.from-4.ensures, c.from-5.ensures)
    (words_laid _ _ _ c.short_words-short.ensures c.ambiguity_words-ambiguity.ensures)
