-- The offset at n is not within the angle, if it was tested.
use Rattle.std.proofs.Common.{◌≡◌, ◌<◌, false}
use Rattle.reach.specs.State.{passes}
use Rattle.reach.proofs.outward.shrunk.Given as goal

abbrev pub invariant-loop-n : goal.invariant-loop-n
invariant-loop-n l = l.n < l.from → passes l.angles l.first l.limit l.n ≡ false
