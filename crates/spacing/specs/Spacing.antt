-- The spacing of the first level, given or automatic.
use Rattle.std.specs.Prelude.{ℕ, zero, suc, ◌+◌, ◌-◌, ◌/◌, ◌%◌, min, Bool, cond, true, ◌&&◌, ◌||◌, leb, ltb, eqb, Float}
use Rattle.std.specs.Float.Ieee.{le, lt}
use Rattle.lists.specs.Counted.{max}
use Rattle.floats.specs.Binary.{whole, ◌⊕◌, ◌⊗◌, absolute, next_up}
use Rattle.grid.specs.declared.Grid.{Grid}
use Rattle.grid.specs.Numbers.{radian, ε, π}
use Rattle.grid.specs.Grid.{arc_km}
use Rattle.spacing.specs.declared.Spacing.{Spacing}
use Rattle.spacing.specs.declared.Spacing.TheVariants.{Automatic, Cells}
use Rattle.bounds.specs.Bound.{slack_margin, widened_by}

-- degrees that so many rows may span, rounded outward
unfoldable pub latitude_extent : Grid → ℕ → Float
latitude_extent g rows =
    let step = absolute g.lat_step in
    let scale = next_up (absolute g.origin_lat ⊕ next_up (whole g.height ⊗ step)) in
    let headroom = next_up (whole 8 ⊗ ε ⊗ scale) in
    let extent = next_up (next_up (whole rows ⊗ step) ⊕ headroom) in
    cond (eqb rows 0) (whole 0) extent

-- degrees that so many columns may span, rounded outward
unfoldable pub longitude_extent : Grid → ℕ → Float
longitude_extent g cols = let extent = next_up (whole cols ⊗ absolute g.lon_step) in cond (eqb cols 0) (whole 0) extent

-- the radius widened by those extents stays below half the circumference
unfoldable pub extent_fits : Grid → Float → ℕ → ℕ → Bool
extent_fits g km rows cols =
    let angle = next_up (next_up (latitude_extent g rows ⊗ radian) ⊕ next_up (longitude_extent g cols ⊗ radian)) in
    let slack = next_up (next_up (arc_km g angle) ⊗ slack_margin) in
    lt (next_up (widened_by km slack)) (arc_km g π)

-- blocks of a side fit: single cells always do
unfoldable pub side_fits : Grid → Float → ℕ → Bool
side_fits g km side =
    let rows = min side g.height / 2 in
    let cols = min side g.width / 2 in
    (eqb rows 0 && eqb cols 0) || extent_fits g km rows cols

-- a side from low to high found by halves: up where the middle, rounded up, fits, and down where it does not
unfoldable pub widest_side : ℕ → Grid → Float → ℕ → ℕ → ℕ
widest_side zero g km low high = low
widest_side (suc fuel) g km low high =
    let distance = high - low in
    let mid = low + distance / 2 + distance % 2 in
    let wider = widest_side fuel g km mid high in
    let narrower = widest_side fuel g km low (mid - 1) in
    let next = cond (side_fits g km mid) wider narrower in
    cond (ltb low high) next low

-- the automatic spacing: the longer side of the grid from half the circumference on
unfoldable pub initial_spacing : Grid → Float → ℕ
initial_spacing g km =
    let longest = max g.width g.height in
    let found = widest_side longest g km 1 longest in
    cond (le (arc_km g π) km) longest found

-- the spacing at a radius: found, or so many cells
unfoldable pub spacing_of : Grid → Float → Spacing → ℕ
spacing_of g km Automatic = initial_spacing g km
spacing_of g km (Cells n) = n

-- question 10
unfoldable pub spacing_given : Spacing → Bool
spacing_given Automatic = true
spacing_given (Cells n) = leb 1 n

-- opens all of the above, for facts that are computed
unfoldable pub open_spacings : Unit {0}
unfolding latitude_extent longitude_extent extent_fits side_fits widest_side initial_spacing spacing_of spacing_given
open_spacings = tt
