-- The largest grid that a job takes, what its map has, and the indices that are on a grid.
use Rattle.std.specs.Prelude.{ℕ, ◌+◌, ◌*◌, ◌/◌, min, Option, Some, None, Bool, cond, ◌&&◌, leb, ltb}
use Rattle.grid.specs.declared.Cell.{Cell}
use Rattle.grid.specs.declared.Grid.{Grid}
use Rattle.grid.specs.declared.Row.{Row}
use Rattle.grid.specs.Grid.{on_grid, cells, closing, angle_count}
use Rattle.job_sizes.specs.declared.Places.{Places}
use Rattle.job_sizes.specs.declared.AngleIndices.{AngleIndices}

-- ---- the largest grid that a job takes

abbrev pub job_columns : ℕ
job_columns = 24

abbrev pub job_rows : ℕ
job_rows = 12

-- and what its map has: counts, angles, and words of its sums
abbrev pub job_cells : ℕ
job_cells = job_columns * job_rows

abbrev pub job_angles : ℕ
job_angles = job_rows * job_rows * (job_columns / 2 + 1)

abbrev pub job_sums : ℕ
job_sums = (job_columns + 1) * (job_rows + 1)

-- a grid that a job takes
unfoldable pub size_taken : Grid → Bool
size_taken g = leb g.width job_columns && leb g.height job_rows

-- how many places of each array a map takes: as many as its grid has, at most all
unfoldable pub places_of : Grid → Places
places_of g = record { counts = min (cells g) job_cells; angles = min (angle_count g) job_angles; cosines = min g.height job_rows }

-- ---- the indices of C, K and A

-- the indices that are on the grid: of K a row, of A two rows and an offset up to closing
unfoldable pub row_on_grid : Grid → Row → Bool
row_on_grid g row = ltb row.0 g.height

unfoldable pub angle_on : Grid → Row → Row → ℕ → Bool
angle_on g centre row offset = row_on_grid g centre && row_on_grid g row && leb offset (closing g)

-- the cell of C, and the rows and the offset of A, where they are
unfoldable pub cell_found : Grid → Cell → Option Cell
cell_found g x = cond (on_grid g x) (Some x) None

unfoldable pub angle_found : Grid → Row → Row → ℕ → Option AngleIndices
angle_found g centre row offset = cond (angle_on g centre row offset) (Some (record { centre = centre; row = row; offset = offset })) None

-- opens all of the above, for facts that are computed
unfoldable pub open_sizes : Unit {0}
unfolding size_taken places_of row_on_grid angle_on cell_found angle_found
open_sizes = tt
