-- A kernel's cells are its circle's, and so are their people.
use Prim.Native.Nat.{◌≤◌, ◌<◌, zero-le}
use mathlib.Core.Path.{◌≡◌, sym}
use native.Mathlib.Omega.{arith}
use borrow.Author.Tests.{le-ltb}
use lib.Ieee.{Float, eq}
use Rattle.floats.specs.Binary.{whole}
use Rattle.lists.proofs.Bools.{cases}
use Rattle.grid.specs.declared.Row.{Row}
use Rattle.grid.specs.declared.Col.{Col}
use Rattle.grid.specs.declared.Cell.{Cell}
use Rattle.grid.specs.Grid.{angle_of, column_distance, cell}
use Rattle.grid.specs.Map.{Globe, Map}
use Rattle.grid.proofs.Distance.{distance_closing}
use Rattle.grid.proofs.SheetOrder.{InOrder}
use Rattle.circle_cells.specs.Circle.{in_circle, population}
use Rattle.circle_cells.proofs.Circles.{circle_none, circle_some}
use Rattle.circle_cells.proofs.Populations.{population_of}
use Rattle.kernel.specs.Kernel.{kernel_of, in_kernel, kernel_population}
use Rattle.reach.specs.Reach.{row_places}
use Rattle.reach.proofs.Reaches.{reach_tests}
use Rattle.kernel.proofs.Kernels.{kernel_reach, reach_none, reach_on}

module _ (s : Globe) (q : InOrder s) (high : s.grid.height ≤ row_places) (row : Row) (on : row.0 < s.grid.height) (km : Float) (col : Col) where
  -- on a sheet in order the kernel around a column is the circle around its cell
  pub kernel_cells : (x : Cell) → x.row.0 < s.grid.height → in_kernel s.grid (kernel_of s row km) col x ≡ in_circle s km (record { row = row; col = col }) x
  unfolding in_kernel
  kernel_cells x X =
      let d = column_distance s.grid.width col.0 x.col.0 in
      let c : Cell = record { row = row; col = col } in
      rw (kernel_reach s row km high on x.row.0 (omega arith))
      (cases (eq km (whole 0))
      (λ z. rw (reach_none s row km x.row.0 z, circle_none s km c x z) (le-ltb d 0 zero-le))
      (λ z.
      rw (reach_on s row km x.row.0 X z, circle_some s km c x z)
      (sym (reach_tests s q row.0 on (angle_of s.grid km) x.row.0 X d (distance_closing s.grid col.0 x.col.0)))))

-- the people of the kernel's cells are those of the circle
pub kernel_people : (m : Map) → InOrder m.globe → m.globe.grid.height ≤ row_places → (row : Row) → row.0 < m.globe.grid.height → (km : Float) (col : Col)
    → kernel_population m (kernel_of m.globe row km) col ≡ population m km (record { row = row; col = col })
unfolding kernel_population
kernel_people m q high row on km col =
    population_of m (in_kernel m.globe.grid (kernel_of m.globe row km) col) km (record { row = row; col = col })
    (λ r k R K. kernel_cells m.globe q high row on km col (cell r k) R)
