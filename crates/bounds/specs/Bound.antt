-- The wide circle of a block, and the block's bound.
use Rattle.std.specs.Prelude.{ℕ, ◌-◌, Bool, cond, Float}
use Rattle.lists.specs.Counted.{max}
use Rattle.floats.specs.Binary.{whole, ◌⊕◌, ◌⊖◌, ◌⊗◌, finite, absolute, greater}
use Rattle.grid.specs.declared.Cell.{Cell}
use Rattle.grid.specs.Numbers.{radian, ε, largest}
use Rattle.grid.specs.Grid.{arc_km, centre_lat}
use Rattle.grid.specs.Map.{Globe, Map, cosine_at}
use Rattle.circle_cells.specs.Circle.{in_circle, population}
use Rattle.blocks.specs.declared.Block.{Block}
use Rattle.blocks.specs.Block.{probe}

-- 1.0 + 32.0 × EPSILON
unfoldable pub slack_margin : Float
slack_margin = whole 1 ⊕ whole 32 ⊗ ε

-- how far a block's cells may stand from its probe, in kilometres: the original's steps, with the sheet's cosine
unfoldable pub slack_km : Globe → Block → Float
slack_km s b =
    let g = s.grid in
    let p = probe b in
    let lat = centre_lat g p.row in
    let north = absolute (centre_lat g b.north ⊖ lat) in
    let south = absolute (centre_lat g b.south ⊖ lat) in
    let delta_lat = greater north south in
    let delta_lon = whole (max (p.col.0 - b.first.0) (b.last.0 - p.col.0)) ⊗ absolute g.lon_step in
    let hops = delta_lat ⊗ radian ⊕ delta_lon ⊗ radian ⊗ cosine_at s p.row in
    arc_km g hops ⊗ slack_margin

-- a radius widened by a slack: never below the radius, and the largest number where the sum is not finite
unfoldable pub widened_by : Float → Float → Float
widened_by km slack = let wide = km ⊕ slack in cond (finite wide) (greater wide km) largest

-- the radius of the wide circle of a block
unfoldable pub wide_km : Globe → Float → Block → Float
wide_km s km b = widened_by km (slack_km s b)

-- a cell is in the wide circle of a block
unfoldable pub in_wide_circle : Globe → Float → Block → Cell → Bool
in_wide_circle s km b x = in_circle s (wide_km s km b) (probe b) x

-- the population of the wide circle
unfoldable pub bound : Map → Float → Block → ℕ
bound m km b = population m (wide_km m.globe km b) (probe b)

-- opens all of the above, for facts that are computed
unfoldable pub open_bounds : Unit {0}
unfolding slack_margin slack_km widened_by wide_km in_wide_circle bound
open_bounds = tt
