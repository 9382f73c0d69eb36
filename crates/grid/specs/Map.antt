-- A map: a grid with its counts and its sheet of angles and cosines, and how these are read.
use Rattle.std.specs.Prelude.{ℕ, ◌+◌, ◌*◌, List, [], Float, get_or}
use Rattle.std.specs.Float.{nan}
use Rattle.grid.specs.declared.Row.{Row}
use Rattle.grid.specs.declared.Cell.{Cell}
use Rattle.grid.specs.declared.Grid.{Grid}
use Rattle.grid.specs.declared.Globe as lent
use Rattle.grid.specs.declared.Map as lent-map
use Rattle.grid.specs.Grid.{closing}

-- a grid with its sheet
pub record Globe : Type 0 where
  pub grid : Grid
  pub angles : List Float
  pub cosines : List Float

-- with its counts
pub record Map : Type 0 where
  pub globe : Globe
  pub counts : List ℕ

-- a globe and a map by what a call is lent
abbrev pub globe_of : Grid → List Float → List Float → Globe
globe_of g angles cosines = record { grid = g; angles = angles; cosines = cosines }

abbrev pub lent_map : Grid → List ℕ → List Float → List Float → Map
lent_map g counts angles cosines = record { globe = globe_of g angles cosines; counts = counts }

-- and by the structs in which it is lent
abbrev pub globe_lent : lent.Globe → Globe
globe_lent g = globe_of g.grid g.angles.now g.cosines.now

abbrev pub map_lent : lent-map.Map → Map
map_lent m = record { globe = globe_lent m.globe; counts = m.counts.now }

-- a grid and its angles: circles read no cosine
abbrev pub sheet_of : Grid → List Float → Globe
sheet_of g angles = globe_of g angles []

-- the place of an angle in the sheet: centre row, row, offset
unfoldable pub sheet_index : Grid → Row → Row → ℕ → ℕ
sheet_index g centre row offset = (centre.0 * g.height + row.0) * (closing g + 1) + offset

-- the sheet's angle from a centre row to a row at a column distance
unfoldable pub angle_at : Globe → Row → Row → ℕ → Float
angle_at s centre row offset = get_or s.angles (sheet_index s.grid centre row offset) nan

-- the sheet's cosine of a row
unfoldable pub cosine_at : Globe → Row → Float
cosine_at s row = get_or s.cosines row.0 nan

-- the count of a cell: counts go row by row from row 0
unfoldable pub count : Map → Cell → ℕ
count m x = get_or m.counts (x.row.0 * m.globe.grid.width + x.col.0) 0

-- opens all of the above, for facts that are computed
unfoldable pub open_maps : Unit {0}
unfolding sheet_index angle_at cosine_at count
open_maps = tt
