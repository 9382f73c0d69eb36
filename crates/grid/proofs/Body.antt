-- The ceiling is a kilometre above 1, up to the Earth's.
use Prim.Native.Nat.{◌≤◌}
use native.Mathlib.Omega.{arith}
use Rattle.grid.specs.declared.Grid.{Grid}
use Rattle.grid.specs.Numbers.{earth_ceiling}
use Rattle.grid.specs.Grid.{ceiling}

pub ceiling_least : (g : Grid) → 2 ≤ ceiling g
unfolding ceiling
ceiling_least g = omega arith

pub ceiling_most : (g : Grid) → ceiling g ≤ earth_ceiling
unfolding ceiling
ceiling_most g = omega arith
