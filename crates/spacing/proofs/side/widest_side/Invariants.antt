-- Invariant: what is left to halve gives the whole's answer.
use Prim.Native.Nat.{◌-◌, ◌≤◌}
use mathlib.Core.Path.{◌≡◌}
use Rattle.spacing.specs.Spacing.{widest_side}
use Rattle.spacing.proofs.Sides.{widest}
use Rattle.spacing.proofs.side.widest_side.Given as goal

abbrev pub invariant-loop-low : goal.invariant-loop-low
invariant-loop-low l = (widest l.grid l.km l.low l.high ≡ widest_side l.longest l.grid l.km 1 l.longest) × (l.high ≤ l.longest)

abbrev pub decreases-loop-low : goal.decreases-loop-low
decreases-loop-low l = l.high - l.low
