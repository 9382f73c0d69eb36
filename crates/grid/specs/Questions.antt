-- Questions 1 to 6, the ones that a map is asked, and question 8 of a radius.
use Rattle.std.specs.Prelude.{ℕ, ◌+◌, ◌-◌, Bool, cond, ◌&&◌, not, List, [], ◌∷◌, ◌++◌, Float, leb, ltb, eqb, length}
use Rattle.std.specs.Float.Ieee.{le, lt, eq}
use Rattle.lists.specs.Counted.{all_below}
use Rattle.floats.specs.Binary.{whole, ◌⊕◌, ◌⊗◌, ◌⊖◌, finite, absolute}
use Rattle.grid.specs.declared.Grid.{Grid}
use Rattle.grid.specs.Numbers.{π, nano}
use Rattle.grid.specs.Grid.{most_columns, most_rows, cells, closing, angle_count, ceiling}
use Rattle.grid.specs.Map.{Globe, Map, angle_at, cosine_at}
use Rattle.grid.specs.Answer.{Question, question}

-- ---- 1 to 3: the grid

-- question 1: from 1 to 180 columns and from 1 to 90 rows
unfoldable pub sizes_in_range : Grid → Bool
sizes_in_range g = leb 1 g.width && leb g.width most_columns && leb 1 g.height && leb g.height most_rows

-- within 90 + 1e-9 of zero
unfoldable pub latitude_in_range : Float → Bool
latitude_in_range x = le (absolute x) (whole 90 ⊕ nano)

-- question 2: origin and steps finite, the latitude step not zero, and both edges in range
unfoldable pub latitudes_in_range : Grid → Bool
latitudes_in_range g =
    finite g.origin_lat && finite g.lon_step && finite g.lat_step && not (eq g.lat_step (whole 0))
    && latitude_in_range g.origin_lat && latitude_in_range (g.origin_lat ⊕ whole g.height ⊗ g.lat_step)

-- question 3: the columns make one turn: | width × |longitude step| − 360 | ≤ 1e-9
unfoldable pub columns_close : Grid → Bool
columns_close g = le (absolute (whole g.width ⊗ absolute g.lon_step ⊖ whole 360)) nano

-- what a grid is asked, in this order
unfoldable pub grid_questions : Grid → List Question
grid_questions g = question 1 (sizes_in_range g) ∷ question 2 (latitudes_in_range g) ∷ question 3 (columns_close g) ∷ []

-- ---- 4 and 5: how many counts, angles and cosines

-- question 4: a count for every cell
unfoldable pub counts_complete : Map → Bool
counts_complete m = eqb (length m.counts) (cells m.globe.grid)

-- question 5: an angle for every centre row, row and column distance, and a cosine for every row
unfoldable pub sheet_complete : Globe → Bool
sheet_complete s =
    eqb (length s.angles) (angle_count s.grid) && eqb (length s.cosines) s.grid.height

-- ---- 6: the sheet's values

-- for every row, and for every pair of a centre row and a row
unfoldable pub every_row : Globe → (ℕ → Bool) → Bool
every_row s f = all_below s.grid.height f

unfoldable pub every_pair : Globe → (ℕ → ℕ → Bool) → Bool
every_pair s f = every_row s (λ c. every_row s (f c))

module _ (s : Globe) where
  -- the angle by numbers
  abbrev pub angle : ℕ → ℕ → ℕ → Float
  angle c r k = angle_at s (record { 0 = c }) (record { 0 = r }) k

  -- 0 < cosine ≤ 1, of each row
  unfoldable pub cosine_in_range : ℕ → Bool
  cosine_in_range r = let x = cosine_at s (record { 0 = r }) in lt (whole 0) x && le x (whole 1)

  unfoldable pub cosines_in_range : Bool
  cosines_in_range = every_row s cosine_in_range

  -- every angle from 0 to half a turn
  unfoldable pub angle_in_range : ℕ → ℕ → ℕ → Bool
  angle_in_range c r k = le (whole 0) (angle c r k) && le (angle c r k) π

  unfoldable pub angles_in_range : Bool
  angles_in_range = every_pair s (λ c r. all_below (closing s.grid + 1) (angle_in_range c r))

  -- at offset 0 each row is at angle 0 from itself
  unfoldable pub own_angle_zero : Bool
  own_angle_zero = every_row s (λ c. eq (angle c c 0) (whole 0))

  -- along a row no angle is below the one at the offset before
  unfoldable pub angle_rises : ℕ → ℕ → ℕ → Bool
  angle_rises c r k = le (angle c r k) (angle c r (k + 1))

  unfoldable pub angles_rise : Bool
  angles_rise = every_pair s (λ c r. all_below (closing s.grid) (angle_rises c r))

  -- at offset 0, of a row and the next one south: the one nearer to the centre row has no larger angle
  unfoldable pub row_rises : ℕ → ℕ → Bool
  row_rises c r = cond (ltb r c) (le (angle c (r + 1) 0) (angle c r 0)) (le (angle c r 0) (angle c (r + 1) 0))

  unfoldable pub rows_rise : Bool
  rows_rise = every_row s (λ c. all_below (s.grid.height - 1) (row_rises c))

  -- question 6
  unfoldable pub sheet_in_order : Bool
  sheet_in_order = cosines_in_range && angles_in_range && own_angle_zero && angles_rise && rows_rise

-- what a sheet is asked
unfoldable pub sheet_questions : Globe → List Question
sheet_questions s = question 5 (sheet_complete s) ∷ question 6 (sheet_in_order s) ∷ []

-- ---- 1 to 6: what a map is asked, before the questions of a call's own

unfoldable pub map_questions : Map → List Question
map_questions m = grid_questions m.globe.grid ++ question 4 (counts_complete m) ∷ sheet_questions m.globe

-- ---- 8: a radius

-- question 8, for a radius
unfoldable pub radius_in_range : Grid → ℕ → Bool
radius_in_range g km = leb km (ceiling g)

-- opens all of the above, for facts that are computed
unfoldable pub open_questions : Unit {0}
unfolding sizes_in_range latitude_in_range latitudes_in_range columns_close grid_questions counts_complete sheet_complete every_row every_pair cosine_in_range cosines_in_range angle_in_range angles_in_range own_angle_zero angle_rises angles_rise row_rises rows_rise sheet_in_order sheet_questions map_questions radius_in_range
open_questions = tt
