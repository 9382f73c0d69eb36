-- Laws of a sheet's places: the pair of rows, its first place and the place are small.
use Prim.Native.Nat.{ℕ, ◌+◌, ◌*◌, ◌/◌, ◌≤◌, ◌<◌}
use native.Mathlib.Omega.{arith}
use native.Mathlib.Nat.{mul-le-mul_left}
use Rattle.lists.proofs.Sums.{times_le}
use Rattle.grid.specs.declared.Row.{Row}
use Rattle.grid.specs.declared.Grid.{Grid}
use Rattle.grid.specs.Grid.{most_columns, most_rows, closing}
use Rattle.grid.specs.Map.{sheet_index}
use Rattle.grid.specs.Requires.{InSheet}
use Rattle.grid.proofs.Index.{place_in}

-- how many angles a sheet has at most
abbrev pub most_angles : ℕ
most_angles = 737100

pub sheet_small : (width height : ℕ) → width ≤ most_columns → height ≤ most_rows → height * height * (width / 2 + 1) ≤ most_angles
sheet_small width height w h = times_le (height * height) (width / 2 + 1) (most_rows * most_rows) (most_columns / 2 + 1) (times_le height height most_rows most_rows h h) (omega arith)

module _ (g : Grid) (centre row : Row) (offset : ℕ) (i : InSheet g centre row offset) where
  -- the pair of rows, its first place, and the place
  pub place_parts :
      (centre.0 * g.height + row.0 < most_angles) × ((centre.0 * g.height + row.0) * (g.width / 2 + 1) < most_angles)
      × ((centre.0 * g.height + row.0) * (g.width / 2 + 1) + offset < most_angles)
  unfolding closing sheet_index
  place_parts =
      let small = sheet_small g.width g.height i.wide i.high in
      let inside = place_in g centre row offset i in
      let one : (centre.0 * g.height + row.0) * 1 ≤ (centre.0 * g.height + row.0) * (g.width / 2 + 1) =
      mul-le-mul_left (centre.0 * g.height + row.0) (omega arith) in
      (omega (arith, small, one, inside), omega (arith, small, inside), omega (arith, small, inside))
