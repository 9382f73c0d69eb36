-- The people of circles beside all people: how many they are at most.
use Prim.Native.Nat.{ℕ, ◌-◌, ◌*◌, ◌^◌, ◌≤◌, ◌<◌}
use mathlib.Core.Path.{◌≡◌}
use native.Mathlib.Nat.{le_trans}
use lib.Dec.{T, lit≤}
use lib.ListN.{get_or}
use lib.Ieee.{Float, le}
use Rattle.floats.specs.Binary.{whole}
use Rattle.grid.specs.declared.Cell.{Cell}
use Rattle.grid.specs.Grid.{most_columns, most_rows, ceiling}
use Rattle.grid.specs.Map.{Map}
use Rattle.grid.proofs.Sizes.{Sizes}
use Rattle.grid.proofs.SheetOrder.{InOrder}
use Rattle.sums.specs.Sums.{corner, total}
use Rattle.sums.proofs.Laws as table
use Rattle.circle_cells.specs.Circle.{population}
use Rattle.circle_cells.proofs.Populations.{population_most, population_whole}

module _ (m : Map) where
  pub population_total : (km : Float) (c : Cell) → population m km c ≤ total m
  unfolding total corner
  population_total km c = population_most m km c

  -- from the ceiling on, all people
  pub population_all : InOrder m.globe → (km : Float) → T (le (whole (ceiling m.globe.grid)) km) → (c : Cell) → c.row.0 < m.globe.grid.height → population m km c ≡ total m
  unfolding total corner
  population_all q km h c C = population_whole m q km h c C

  -- ---- how large they are

  module _ (sizes : Sizes m.globe.grid) (counted : (i : ℕ) → get_or m.counts i 0 < 2 ^ 32) where
    pub total_small : total m ≤ most_rows * most_columns * (2 ^ 32 - 1)
    total_small = table.total_small m counted sizes.rows sizes.columns

    -- so whole numbers of people are exact as binary64
    pub total_exact : total m ≤ 2 ^ 53
    total_exact = le_trans total_small (lit≤ tt)

    pub population_exact : (km : Float) (c : Cell) → population m km c ≤ 2 ^ 53
    population_exact km c = le_trans (population_total km c) total_exact
