-- By the flag.
use Rattle.crossings.specs.Crossing.{spacing_from}
use Rattle.crossings.proofs.searched.spacing_from.Goals as goal

pub returns-then-automatic : goal.returns-then-automatic
unfolding spacing_from
returns-then-automatic c = rw c.if-automatic.true

pub returns-else-automatic : goal.returns-else-automatic
unfolding spacing_from
returns-else-automatic c = rw c.if-automatic.false
