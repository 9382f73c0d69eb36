-- Computed facts of the wide circle: a slack that another order of the same operations would round differently, and the cases of widening.
use mathlib.Core.Path.{◌≡◌, refl}
use mathlib.Core.Bool.{true, false}
use mathlib.Core.List.{[], ◌∷◌}
use lib.Ieee.{inf, binary64, neg, to_bits}
use Rattle.floats.specs.Binary.{open_floats, whole, decimal}
use Rattle.lists.specs.Counted.{open_counted}
use Rattle.grid.specs.Numbers.{largest}
use Rattle.grid.specs.Grid.{open_grids, cell}
use Rattle.grid.specs.Map.{Globe, open_maps}
use Rattle.circle_cells.specs.Circle.{open_circles, in_circle}
use Rattle.blocks.specs.declared.Block.{Block}
use Rattle.blocks.specs.Block.{range, block, open_blocks}
use Rattle.bounds.specs.Bound.{open_bounds, slack_km, widened_by, wide_km, in_wide_circle}

-- four rows and five columns, and the block of its first four columns, whose probe is cell (1, 1)
unfoldable pub small_globe : Globe
small_globe =
    record {
      grid = record { width = 5; height = 4; origin_lat = decimal 698 1; lon_step = whole 72; lat_step = neg (decimal 349 1) };
      angles = [];
      cosines = decimal 2 1 ∷ decimal 7 1 ∷ decimal 7 1 ∷ decimal 2 1 ∷ [];
    }

abbrev pub large_block : Block
large_block = block (range 0 3) (range 0 3)

-- one row of four columns, a quarter turn apart
unfoldable pub ring_of_four : Globe
ring_of_four =
    record {
      grid = record { width = 4; height = 1; origin_lat = whole 45; lon_step = whole 90; lat_step = neg (whole 90) };
      angles = whole 0 ∷ decimal 15707963267948966 16 ∷ decimal 3141592653589793 15 ∷ [];
      cosines = whole 1 ∷ [];
    }

pub record Computed : Type 0 where
  -- 18969.880687840843 km
  pub slack : to_bits binary64 (slack_km small_globe large_block) ≡ 0x40d286785d30889a
  pub wide : to_bits binary64 (wide_km small_globe (whole 100) large_block) ≡ 0x40d29f785d30889a
  -- never less than the radius, and never infinite
  pub wide_below : widened_by (whole 5) (neg (whole 3)) ≡ whole 5
  pub wide_above : widened_by (whole 5) (inf false) ≡ largest
  -- the circle around column 1 does not hold column 3 at 1 km; that of the whole row is widened to hold it
  pub circle : in_circle ring_of_four (whole 1) (cell 0 1) (cell 0 3) ≡ false
  pub wide_circle : in_wide_circle ring_of_four (whole 1) (block (range 0 0) (range 0 3)) (cell 0 3) ≡ true

pub computed : Computed
unfolding open_floats open_counted open_grids open_maps open_circles open_blocks open_bounds small_globe ring_of_four
computed = record { slack = refl; wide = refl; wide_below = refl; wide_above = refl; circle = refl; wide_circle = refl }
