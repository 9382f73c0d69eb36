-- Nothing is written of a block that does not survive.
use Rattle.lists.specs.Lists.{each}
use Rattle.sweep.proofs.Sweeps.{written_nothing}
use Rattle.sweep.proofs.sweep.write_children.Goals as goal

pub returns : goal.returns
unfolding each
returns c = rw c.if-survives.false (written_nothing c.args.following.now c.args.at)
