-- What a function that finds a place in the sheet asks of its arguments.
use Rattle.std.specs.Prelude.{ℕ, ◌≤◌, ◌<◌}
use Rattle.grid.specs.declared.Row.{Row}
use Rattle.grid.specs.declared.Grid.{Grid}
use Rattle.grid.specs.Grid.{most_columns, most_rows, closing}

-- two rows and an offset of a grid whose sizes question 1 admits
pub record InSheet (g : Grid) (centre row : Row) (offset : ℕ) : Type 0 where
  pub wide : g.width ≤ most_columns
  pub high : g.height ≤ most_rows
  pub centre_on : centre.0 < g.height
  pub row_on : row.0 < g.height
  pub offset_on : offset ≤ closing g
