-- What looking for a row's reach asks: a sheet that a call has tested, and rows of its grid.
use Rattle.std.specs.Prelude.{◌<◌, ◌≡◌, true, List, Float}
use Rattle.grid.specs.declared.Row.{Row}
use Rattle.grid.specs.declared.Grid.{Grid}
use Rattle.grid.specs.Map.{globe_of}
use Rattle.grid.specs.Questions.{sizes_in_range, sheet_complete, sheet_in_order}

-- with some cosines the grid and the angles have passed questions 1, 5 and 6
pub record Sheet (g : Grid) (angles : List Float) : Type 0 where
  pub cosines : List Float
  pub sizes : sizes_in_range g ≡ true
  pub complete : sheet_complete (globe_of g angles cosines) ≡ true
  pub order : sheet_in_order (globe_of g angles cosines) ≡ true

-- such a sheet, and a row of the grid
pub record OnSheet (g : Grid) (angles : List Float) (row : Row) : Type 0 where
  pub sheet : Sheet g angles
  pub on : row.0 < g.height

-- such a sheet, a centre row and a row of the grid
pub record PairOnSheet (g : Grid) (angles : List Float) (centre row : Row) : Type 0 where
  pub sheet : Sheet g angles
  pub centre_on : centre.0 < g.height
  pub row_on : row.0 < g.height
