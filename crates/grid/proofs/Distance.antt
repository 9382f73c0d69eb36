-- The column distance around the ring, for every width.
use Prim.Native.Nat.{ℕ, ◌/◌, ◌≤◌}
use native.Mathlib.Omega.{arith}
use Rattle.grid.specs.declared.Grid.{Grid}
use Rattle.grid.specs.Grid.{closing, column_distance}

-- at most half the width, rounded down
pub distance_half : (w a b : ℕ) → column_distance w a b ≤ w / 2
unfolding column_distance
distance_half w a b = omega arith

pub distance_closing : (g : Grid) (a b : ℕ) → column_distance g.width a b ≤ closing g
unfolding closing
distance_closing g a b = distance_half g.width a b
