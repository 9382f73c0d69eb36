-- The rows of a circle: how many offsets of each lie within an angle.
use Rattle.std.specs.Prelude.{ℕ, ◌+◌, Float}
use Rattle.std.specs.Float.Ieee.{le}
use Rattle.lists.specs.Counted.{sum_below, one}
use Rattle.grid.specs.declared.Row.{Row}
use Rattle.grid.specs.Grid.{most_rows, closing}
use Rattle.grid.specs.Map.{Globe, angle_at}

-- how many offsets of a row lie within an angle: 0 where the row is missed, closing + 1 for the full turn
unfoldable pub reach : Globe → Row → Row → Float → ℕ
reach s centre row limit = sum_below (closing s.grid + 1) (λ k. one (le (angle_at s centre row k) limit))

-- the rows that a kernel has a place for: as many as a grid may have
abbrev pub row_places : ℕ
row_places = most_rows
