-- The ten words in order.
use Rattle.crossings.specs.Calls.{search_words}
use Rattle.crossings.proofs.searched.search_words.Goals as goal

pub returns : goal.returns
unfolding search_words
returns c = rw (c.from.ensures, c.from-2.ensures, c.from-3.ensures)
