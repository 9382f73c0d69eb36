-- The offset before n is within the angle, if it was tested.
use Rattle.std.proofs.Common.{◌≡◌, ◌-◌, ◌<◌, true}
use Rattle.reach.specs.State.{passes}
use Rattle.reach.proofs.outward.grown.Given as goal

abbrev pub invariant-loop-n : goal.invariant-loop-n
invariant-loop-n l = l.from < l.n → passes l.angles l.first l.limit (l.n - 1) ≡ true
