-- The six floats in order.
use mathlib.Core.Path.{refl}
use Rattle.crossings.specs.Smallest.{smallest_floats}
use Rattle.crossings.proofs.settled.smallest_floats.Goals as goal

pub returns : goal.returns
unfolding smallest_floats
returns c = refl
