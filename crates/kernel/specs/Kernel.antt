-- Kernels: the circles of a radius around the cells of one row, by how many columns each row gives on either side. A kernel is a set of
-- cells around each column.
use Rattle.std.specs.Prelude.{ℕ, zero, suc, ◌+◌, ◌-◌, Bool, cond, ◌||◌, leb, ltb, eqb, get_or, Float}
use Rattle.std.specs.Float.Ieee.{eq}
use Rattle.lists.specs.Counted.{sum_below, all_below, one}
use Rattle.lists.specs.Front.{tabulate}
use Rattle.floats.specs.Binary.{whole}
use Rattle.grid.specs.declared.Row.{Row}
use Rattle.grid.specs.declared.Col.{Col}
use Rattle.grid.specs.declared.Cell.{Cell}
use Rattle.grid.specs.declared.Grid.{Grid}
use Rattle.grid.specs.Grid.{angle_of, cell, column_distance}
use Rattle.grid.specs.Map.{Globe, Map, count}
use Rattle.reach.specs.Reach.{reach, row_places}
use Rattle.kernel.specs.declared.Kernel.{Kernel}

-- ---- the rows of a circle

-- the reach of the circle of a radius in a row; radius 0 reaches no row, and no circle reaches a row off the grid
unfoldable pub row_reach : Globe → Row → Float → ℕ → ℕ
row_reach s centre km row =
    let within = reach s centre (record { 0 = row }) (angle_of s.grid km) in
    cond (leb s.grid.height row || eq km (whole 0)) 0 within

-- where the run of one value that a place is in ends, looked for among the n places after it
unfoldable pub run_end : (ℕ → ℕ) → ℕ → ℕ → ℕ
run_end f zero i = i + 1
run_end f (suc n) i = let longer = run_end f n (i + 1) in cond (eqb (f (i + 1)) (f i)) longer (i + 1)

-- where the run of rows of one reach ends, for a row that is touched
unfoldable pub row_run : Globe → Row → Float → ℕ → ℕ
row_run s centre km row = let end = run_end (row_reach s centre km) (row_places - row) row in cond (ltb 0 (row_reach s centre km row)) end 0

-- ---- kernels

-- the kernel of a centre row and a radius: the rows touched are those from north up to end
unfoldable pub kernel_of : Globe → Row → Float → Kernel
kernel_of s row km =
    record {
      row = row;
      km = km;
      north = record { 0 = sum_below row.0 (λ r. one (eqb (row_reach s row km r) 0)) };
      end = row.0 + sum_below (s.grid.height - row.0) (λ i. one (ltb 0 (row_reach s row km (row.0 + i))));
      reach = tabulate (row_reach s row km) row_places;
      run = tabulate (row_run s row km) row_places;
    }

-- the set of cells that a kernel holds around a column of its row
unfoldable pub in_kernel : Grid → Kernel → Col → Cell → Bool
in_kernel g k col x = ltb (column_distance g.width col.0 x.col.0) (get_or k.reach x.row.0 0)

-- the people of the cells that a kernel holds around a column
unfoldable pub kernel_population : Map → Kernel → Col → ℕ
kernel_population m k col =
    let g = m.globe.grid in
    sum_below g.height (λ r. sum_below g.width (λ i. cond (in_kernel g k col (cell r i)) (count m (cell r i)) 0))

-- a kernel holds every cell of the grid, around column 0 and so around any other
unfoldable pub kernel_covers : Grid → Kernel → Bool
kernel_covers g k = all_below g.height (λ r. all_below g.width (λ i. in_kernel g k (record { 0 = 0 }) (cell r i)))
