-- The grid: its cells, their places and the distances on it.
use Rattle.std.specs.Prelude.{Option, Some, None, ℕ, ◌+◌, ◌-◌, ◌*◌, ◌/◌, min, Bool, cond, ◌&&◌, ◌||◌, Float, leb, ltb, eqb}
use Rattle.floats.specs.Binary.{whole, lesser, ◌⊕◌, ◌⊗◌, ◌⊘◌}
use Rattle.grid.specs.declared.Row.{Row}
use Rattle.grid.specs.declared.Col.{Col}
use Rattle.grid.specs.declared.RadiusKm.{RadiusKm}
use Rattle.grid.specs.declared.Cell.{Cell}
use Rattle.grid.specs.declared.Grid.{Grid}
use Rattle.grid.specs.Numbers.{earth, earth_ceiling, π, ½}

-- ---- the body: what every angle, arc and limit reads of the planet

-- its radius in kilometres
unfoldable pub body_radius : Grid → Float
body_radius g = earth

-- the first whole kilometre at which every circle is the whole grid
unfoldable pub ceiling : Grid → ℕ
ceiling g = earth_ceiling

-- the angle of a radius: km / 6371.0088, but half a turn where that is larger
unfoldable pub angle_of : Grid → Float → Float
angle_of g km = lesser (km ⊘ body_radius g) π

-- the length of an arc
unfoldable pub arc_km : Grid → Float → Float
arc_km g angle = body_radius g ⊗ angle

-- ---- sizes and cells

-- the most columns and the most rows that question 1 admits
abbrev pub most_columns : ℕ
most_columns = 180

abbrev pub most_rows : ℕ
most_rows = 90

-- the cell of a row and a column
abbrev pub cell : ℕ → ℕ → Cell
cell row col = record { row = record { 0 = row }; col = record { 0 = col } }

-- the grid has its row and its column
unfoldable pub on_grid : Grid → Cell → Bool
on_grid g x = ltb x.row.0 g.height && ltb x.col.0 g.width

-- how many there are
unfoldable pub cells : Grid → ℕ
cells g = g.width * g.height

-- a cell stands before another by row, then column
unfoldable pub before : Cell → Cell → Bool
before x y = ltb x.row.0 y.row.0 || (eqb x.row.0 y.row.0 && ltb x.col.0 y.col.0)

-- the row and the column of a number, and the radius of a number of kilometres
unfoldable pub row_found : Grid → ℕ → Option Row
row_found g i = cond (ltb i g.height) (Some (record { 0 = i })) None

unfoldable pub col_found : Grid → ℕ → Option Col
col_found g i = cond (ltb i g.width) (Some (record { 0 = i })) None

unfoldable pub radius_found : Grid → ℕ → Option RadiusKm
radius_found g km = cond (leb km (ceiling g)) (Some (record { 0 = km })) None

-- ---- places and distances

-- the latitude of a row's centre: origin + (row + 0.5) × step
unfoldable pub centre_lat : Grid → Row → Float
centre_lat g row = g.origin_lat ⊕ (whole row.0 ⊕ ½) ⊗ g.lat_step

-- the largest column distance around the ring
unfoldable pub closing : Grid → ℕ
closing g = g.width / 2

-- how many angles a sheet has: one for each centre row, row and column distance
abbrev pub angle_count : Grid → ℕ
angle_count g = g.height * g.height * (closing g + 1)

-- the column distance around a ring of that width
unfoldable pub column_distance : ℕ → ℕ → ℕ → ℕ
column_distance width a b = let d = (a - b) + (b - a) in min d (width - d)

-- opens all of the above, for facts that are computed
unfoldable pub open_grids : Unit {0}
unfolding body_radius ceiling angle_of arc_km on_grid cells before row_found col_found radius_found centre_lat closing column_distance
open_grids = tt
