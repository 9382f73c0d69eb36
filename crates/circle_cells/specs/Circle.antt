-- Circles: the cells that a circle holds, and its population.
use Rattle.std.specs.Prelude.{ℕ, Bool, false, cond, Float}
use Rattle.std.specs.Float.Ieee.{le, eq}
use Rattle.lists.specs.Counted.{sum_below, all_below}
use Rattle.floats.specs.Binary.{whole}
use Rattle.grid.specs.declared.Row.{Row}
use Rattle.grid.specs.declared.Cell.{Cell}
use Rattle.grid.specs.Grid.{angle_of, cell, column_distance}
use Rattle.grid.specs.Map.{Globe, Map, angle_at, count}

-- the sheet's angle from a centre to a cell, by their rows and their column distance
unfoldable pub angle_to : Globe → Cell → Cell → Float
angle_to s centre x = angle_at s centre.row x.row (column_distance s.grid.width centre.col.0 x.col.0)

-- a cell is in the circle of a radius around a centre; radius 0 holds nothing
unfoldable pub in_circle : Globe → Float → Cell → Cell → Bool
in_circle s km centre x = let within = le (angle_to s centre x) (angle_of s.grid km) in cond (eq km (whole 0)) false within

-- the people of a circle's cells
unfoldable pub population : Map → Float → Cell → ℕ
population m km centre =
    sum_below m.globe.grid.height (λ r. sum_below m.globe.grid.width (λ k. cond (in_circle m.globe km centre (cell r k)) (count m (cell r k)) 0))

-- every cell is in the circle around a cell of the row
unfoldable pub covers_whole_grid : Globe → Float → Row → Bool
covers_whole_grid s km row =
    all_below s.grid.height (λ r. all_below s.grid.width (λ k. in_circle s km (record { row = row; col = record { 0 = 0 } }) (cell r k)))

-- opens all of the above, for facts that are computed
unfoldable pub open_circles : Unit {0}
unfolding angle_to in_circle population covers_whole_grid
open_circles = tt
