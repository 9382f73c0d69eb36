-- A survivor by the radii.
use lib.Ieee.{ne}
use Rattle.chunk_work.proofs.work.asks.Goals as goal

pub returns-then-survives : goal.returns-then-survives
unfolding ne
returns-then-survives c = rw c.if-survives.true
