-- What an accepted single-circle call knows at each of its steps.
use Prim.Native.Nat.{ℕ, ◌<◌, ◌^◌}
use mathlib.Core.Path.{◌≡◌}
use mathlib.Core.List.{List}
use lib.ListN.{get_or}
use Rattle.lists.proofs.Bools.{of_true}
use Rattle.floats.specs.Binary.{whole}
use Rattle.grid.specs.declared.Cell.{Cell}
use Rattle.grid.specs.Map.{Map}
use Rattle.grid.proofs.Answers.{PassedCall}
use Rattle.grid.proofs.CellOrder.{On, on_grid_lem}
use Rattle.sums.specs.Sums.{filled_sums}
use Rattle.sums.specs.State.{counts_map, table_map}
use Rattle.sums_fill.specs.Requires.{Fillable}
use Rattle.sums.specs.Requires.{Summed}
use Rattle.sums_fill.proofs.Tables.{fillable, table_map_lem, summed}
use Rattle.kernel.specs.declared.Kernel.{Kernel}
use Rattle.circle_rules.specs.Call.{circle_own}
use Rattle.circle_cells.specs.Circle.{population}
use Rattle.kernel.specs.Kernel.{kernel_of, kernel_population}
use Rattle.reach.specs.Requires.{OnSheet}
use Rattle.kernel.specs.Requires.{CanSum}
use Rattle.kernel.proofs.Placing.{on_sheet, placed, circle_people}

module _ (m : Map) (sums : List ℕ) (km : ℕ) (centre : Cell) (p : PassedCall m (circle_own m.globe.grid sums km centre)) where
  pub to_fill : Fillable m.globe.grid m.counts sums
  to_fill = fillable m sums p.map.grid.sizes p.map.counts (p.yes 7).0

  centre_on : On m.globe.grid centre
  centre_on = on_grid_lem m.globe.grid centre (of_true _ (p.yes 8).1.0)

  pub to_build : OnSheet m.globe.grid m.globe.angles centre.row
  to_build = on_sheet m p.map centre.row centre_on.row

  -- once the sums are filled they make a table
  module _ (last : List ℕ) (filled : last ≡ filled_sums (counts_map m.globe.grid m.counts) sums) where
    pub to_ask : ((i : ℕ) → get_or m.counts i 0 < 2 ^ 32) → Summed m.globe.grid last
    to_ask = summed m.globe.grid m.counts sums last to_fill filled

    table_is : table_map m.globe.grid last ≡ counts_map m.globe.grid m.counts
    table_is = table_map_lem m.globe.grid m.counts sums last to_fill filled

  -- once the kernel is built, at the radius that the questions left, it can be summed, to the circle's people
  module _ (r : ℕ) (same : km ≡ r) (k : Kernel) (built : k ≡ kernel_of m.globe centre.row (whole r)) where
    is : k ≡ kernel_of m.globe centre.row (whole km)
    is = rw same built

    pub to_sum : CanSum m.globe.grid k centre.col
    to_sum = placed m p.map centre.row centre_on.row (whole km) centre.col k is centre_on.col

    pub summed_up : (last : List ℕ) → last ≡ filled_sums (counts_map m.globe.grid m.counts) sums
        → kernel_population (table_map m.globe.grid last) k centre.col ≡ population m (whole km) centre
    summed_up last filled = circle_people m p.map centre.row centre_on.row (whole km) centre.col k is last (table_is last filled)
