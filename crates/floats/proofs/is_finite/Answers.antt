-- What the library's method ensures.
use mathlib.Core.Path.{◌∙◌}
use Rattle.floats.proofs.Finite.{finite_is}
use Rattle.floats.proofs.is_finite.Goals as goal

pub returns : goal.returns
returns c = c.is_finite.ensures.value ∙ finite_is c.args.x
