-- Indices on the grid: what the grid's constructors gave makes C's cell and A's rows, and what was made is the command's own.
use Rattle.std.proofs.Common.{ℕ, ◌≤◌, ◌<◌, Some, None, arith}
use Rattle.std.proofs.lemmas.Option.{cond_some}
use mathlib.Core.Path.{◌≡◌, sym, ap}
use mathlib.Core.Bool.{Bool, true, false, cond}
use borrow.Author.Tests.{le-leb, lt-leb}
use lib.Dec.{ltb}
use Rattle.grid.specs.declared.Cell.{Cell}
use Rattle.grid.specs.declared.Col.{Col}
use Rattle.grid.specs.declared.Grid.{Grid}
use Rattle.grid.specs.declared.Row.{Row}
use Rattle.grid.specs.Grid.{on_grid, closing, row_found, col_found}
use Rattle.grid.proofs.CellOrder.{cell_path}
use Rattle.grid.proofs.Found.{row_on, row_off, col_on, col_off}
use Rattle.job_sizes.specs.declared.AngleIndices.{AngleIndices}
use Rattle.job_sizes.specs.Sizes.{row_on_grid, angle_on, cell_found, angle_found}

-- ---- K's row

row_path : {r s : Row} → r.0 ≡ s.0 → r ≡ s
row_path p = λ i. record { 0 = p i }

module _ (g : Grid) (row : Row) where
  pub row_is : (r : Row) → row_found g row.0 ≡ Some r → (row_on_grid g row ≡ true) × (row ≡ r)
  unfolding row_on_grid
  row_is r e = let on = row_on g row.0 r e in (on.0, row_path on.1)

  pub row_none : row_found g row.0 ≡ None → row_on_grid g row ≡ false
  unfolding row_on_grid
  row_none e = row_off g row.0 e

-- ---- C's cell, and A's rows and offset

-- nothing by a test: it said no
cond_none : {A : Type 0} (b : Bool) (x : A) → cond b (Some x) None ≡ None → b ≡ false
cond_none b x e = grind arith

module _ (g : Grid) (x : Cell) where
  pub cell_is : (y : Cell) → cell_found g x ≡ Some y → (on_grid g x ≡ true) × (x ≡ y)
  unfolding cell_found
  cell_is y e = cond_some _ _ _ e

  pub cell_none : cell_found g x ≡ None → on_grid g x ≡ false
  unfolding cell_found
  cell_none e = cond_none _ _ e

module _ (g : Grid) (centre row : Row) (offset : ℕ) where
  abbrev asked : AngleIndices
  asked = record { centre = centre; row = row; offset = offset }

  pub angle_is : (y : AngleIndices) → angle_found g centre row offset ≡ Some y → (angle_on g centre row offset ≡ true) × (asked ≡ y)
  unfolding angle_found
  angle_is y e = cond_some _ _ _ e

  pub angle_none : angle_found g centre row offset ≡ None → angle_on g centre row offset ≡ false
  unfolding angle_found
  angle_none e = cond_none _ _ e

-- ---- C's cell and A's rows and offset, by what the grid has of each

module _ (g : Grid) (x : Cell) where
  pub no_row : row_found g x.row.0 ≡ None → None ≡ cell_found g x
  unfolding cell_found on_grid
  no_row p = rw (row_off g x.row.0 p)

  -- with its row
  module _ (r : Row) (p : row_found g x.row.0 ≡ Some r) where
    pub no_column : col_found g x.col.0 ≡ None → None ≡ cell_found g x
    unfolding cell_found on_grid
    no_column q = rw ((row_on g x.row.0 r p).0, col_off g x.col.0 q)

    pub cell_made : (c : Col) → col_found g x.col.0 ≡ Some c → Some (record { row = r; col = c }) ≡ cell_found g x
    unfolding cell_found on_grid
    cell_made c q =
        let there = row_on g x.row.0 r p in
        let across = col_on g x.col.0 c q in
        let same : x ≡ record { row = r; col = c } = cell_path there.1 across.1 in
        rw (there.0, across.0) (ap Some (sym same))

module _ (g : Grid) (centre row : Row) (offset : ℕ) where
  pub no_centre : row_found g centre.0 ≡ None → None ≡ angle_found g centre row offset
  unfolding angle_found angle_on
  no_centre p = rw (row_none g centre p)

  -- with its centre row, and with both rows
  module _ (r : Row) (p : row_found g centre.0 ≡ Some r) where
    pub no_other_row : row_found g row.0 ≡ None → None ≡ angle_found g centre row offset
    unfolding angle_found angle_on
    no_other_row q = rw ((row_is g centre r p).0, row_none g row q)

    module _ (s : Row) (q : row_found g row.0 ≡ Some s) (n : ℕ) (ends : n ≡ closing g) where
      pub past_closing : n < offset → None ≡ angle_found g centre row offset
      unfolding angle_found angle_on
      past_closing h = rw ((row_is g centre r p).0, (row_is g row s q).0, ← ends, lt-leb _ _ h)

      pub angle_made : offset ≤ n → Some (record { centre = r; row = s; offset = offset }) ≡ angle_found g centre row offset
      unfolding angle_found angle_on
      angle_made h =
          rw ((row_is g centre r p).0, (row_is g row s q).0, ← ends, le-leb _ _ h, (row_is g centre r p).1, (row_is g row s q).1)
