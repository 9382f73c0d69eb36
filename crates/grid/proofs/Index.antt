-- Laws of the sheet's places: each is in the sheet.
use Prim.Native.Nat.{ℕ, ◌+◌, ◌*◌, ◌<◌}
use native.Mathlib.Omega.{arith}
use lib.Arith.{digits_lt}
use Rattle.grid.specs.declared.Row.{Row}
use Rattle.grid.specs.declared.Grid.{Grid}
use Rattle.grid.specs.Grid.{angle_count}
use Rattle.grid.specs.Map.{sheet_index}
use Rattle.grid.specs.Requires.{InSheet}

module _ (g : Grid) (centre row : Row) (offset : ℕ) (i : InSheet g centre row offset) where
  pub pair_in : centre.0 * g.height + row.0 < g.height * g.height
  pair_in = digits_lt i.centre_on i.row_on

  pub place_in : sheet_index g centre row offset < angle_count g
  unfolding sheet_index
  place_in = digits_lt pair_in (omega (arith, i.offset_on))
