-- Invariant: the loop has found whether no angle before k is below the one before it.
use mathlib.Core.Path.{◌≡◌}
use mathlib.Core.Bool.{Bool}
use mathlib.Core.List.{List}
use Prim.Native.Nat.{ℕ, ◌+◌, ◌-◌, ◌≤◌}
use lib.ListN.{length, get_or}
use lib.Ieee.{Float, nan, le}
use Rattle.lists.specs.Counted.{all_below}
use Rattle.sheet.proofs.judge.not_falling.Given as goal

abbrev pub up : List Float → ℕ → Bool
up run k = le (get_or run k nan) (get_or run (k + 1) nan)

abbrev pub invariant-loop-k : goal.invariant-loop-k
invariant-loop-k l = (l.k - 1 ≤ length l.run - 1) × (l.rises ≡ all_below (l.k - 1) (up l.run))
