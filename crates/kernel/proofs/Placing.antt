-- What the kernel's functions ask and give: a kernel by its rows, one at hand with its row, its radius and its people, and from an accepted map
-- its sheet, a kernel placed on its table and the circle's people.
use Prim.Native.Nat.{ℕ, ◌≤◌, ◌<◌}
use mathlib.Core.Path.{◌≡◌, refl, sym, ap, ◌∙◌}
use mathlib.Core.Bool.{true}
use mathlib.Core.List.{List}
use native.Mathlib.Omega.{arith}
use lib.Ieee.{Float}
use Rattle.grid.specs.declared.Row.{Row}
use Rattle.grid.specs.declared.Col.{Col}
use Rattle.grid.specs.declared.Grid.{Grid}
use Rattle.grid.specs.Map.{Globe, Map, count}
use Rattle.grid.specs.Questions.{sizes_in_range, sheet_in_order}
use Rattle.grid.proofs.Answers.{Passed}
use Rattle.grid.proofs.Sizes.{grid_sizes}
use Rattle.grid.proofs.SheetOrder.{in_order}
use Rattle.sums.specs.State.{table_map, counts_map}
use Rattle.kernel.specs.declared.Kernel.{Kernel}
use Rattle.circle_cells.specs.Circle.{population}
use Rattle.kernel.specs.Kernel.{kernel_of, in_kernel, kernel_population}
use Rattle.reach.specs.Reach.{row_places}
use Rattle.reach.specs.Requires.{OnSheet}
use Rattle.kernel.specs.Requires.{CanSum}
use Rattle.kernel.specs.State.{KernelAt, rows_only}
use Rattle.kernel.proofs.Kernels.{kernel_banded, kernel_joined}
use Rattle.kernel.proofs.Cells.{kernel_people}

-- the people of kernels read no sheet
pub people_sheet : (m : Map) (k : Kernel) (col : Col) → kernel_population (counts_map m.globe.grid m.counts) k col ≡ kernel_population m k col
unfolding kernel_population in_kernel count
people_sheet m k col = refl

-- ---- a kernel by its rows alone

-- whatever row and radius it is of
pub rows_alone : (k : Kernel) (row : Row) (km : Float)
    → rows_only (record { row = row; km = km; north = k.north; end = k.end; reach = k.reach; run = k.run }) ≡ rows_only k
rows_alone k row km = refl

pub rows_placed : {g : Grid} {k : Kernel} {col : Col} → CanSum g k col → CanSum g (rows_only k) col
rows_placed p =
    let b = p.band in
    record {
      band = record { north_on = omega arith; end_on = omega (arith, b.north_on, b.end_on); on = b.on; touched = b.touched; missed = b.missed };
      runs = record { onward = p.runs.onward; within = p.runs.within; alike = p.runs.alike };
      on = p.on;
    }

pub rows_people : (m : Map) (k : Kernel) (col : Col) → kernel_population m (rows_only k) col ≡ kernel_population m k col
unfolding kernel_population in_kernel
rows_people m k col = refl

-- ---- a kernel at hand

module _ (s : Globe) (row : Row) (km : Float) (k : Kernel) (is : KernelAt s row km k) where
  pub kernel_row : k.row ≡ row
  unfolding kernel_of
  kernel_row = ap (λ (x : Kernel). x.row) is

  pub kernel_km : k.km ≡ km
  unfolding kernel_of
  kernel_km = ap (λ (x : Kernel). x.km) is

  -- kept for a row of the same number it is the kernel of that row, and so of its own
  pub kernel_kept : (next : Row) → row.0 ≡ next.0 → KernelAt s next km k
  kernel_kept next e = is ∙ (λ i. kernel_of s (record { 0 = e i }) km)

  pub kernel_own : KernelAt s k.row km k
  kernel_own = kernel_kept k.row (sym (ap (λ (r : Row). r.0) kernel_row))

  -- of a row of a sheet that has passed questions 1 and 6
  module _ (sizes : sizes_in_range s.grid ≡ true) (rules : sheet_in_order s ≡ true) (on : row.0 < s.grid.height) (col : Col) where
    high : s.grid.height ≤ row_places
    high = (grid_sizes s.grid sizes).rows

    -- it can be summed on a table
    pub lent_placed : col.0 < s.grid.width → CanSum s.grid k col
    lent_placed c =
        record {
          band = rw is (kernel_banded s row km high on (in_order s rules));
          runs = rw is (kernel_joined s row km high on (in_order s rules));
          on = c;
        }

    -- to the people of its circle, on the map that the sheet and the table's counts make
    pub lent_people : (counts : List ℕ) → kernel_population (counts_map s.grid counts) k col
        ≡ population (record { globe = s; counts = counts }) km (record { row = row; col = col })
    lent_people counts =
        let m : Map = record { globe = s; counts = counts } in
        people_sheet m k col ∙ ap (λ (x : Kernel). kernel_population m x col) is ∙ kernel_people m (in_order s rules) high row on km col

-- ---- on a map that is accepted

module _ (m : Map) (p : Passed m) (row : Row) (on : row.0 < m.globe.grid.height) where
  pub on_sheet : OnSheet m.globe.grid m.globe.angles row
  on_sheet = record { sheet = record { cosines = m.globe.cosines; sizes = p.grid.sizes; complete = p.sheet; order = p.order }; on = on }

  -- the kernel of the row and a radius, around a column, on a table of the map's counts
  module _ (km : Float) (col : Col) (k : Kernel) (is : KernelAt m.globe row km k) where
    pub placed : col.0 < m.globe.grid.width → CanSum m.globe.grid k col
    placed = lent_placed m.globe row km k is p.grid.sizes p.order on col

    pub circle_people : (sums : List ℕ) → table_map m.globe.grid sums ≡ counts_map m.globe.grid m.counts
        → kernel_population (table_map m.globe.grid sums) k col ≡ population m km (record { row = row; col = col })
    circle_people sums e =
        ap (λ (t : Map). kernel_population t k col) e
        ∙ lent_people m.globe row km k is p.grid.sizes p.order on col m.counts
