-- The map that lines set.
use Rattle.std.specs.Prelude.{ℕ, cond, List, eqb, Float, length}
use Rattle.std.specs.Float.{binary64}
use Rattle.std.specs.Float.Ieee.{of_bits}
use Rattle.lists.specs.Front.{over}
use Rattle.grid.specs.declared.Grid.{Grid}
use Rattle.crossings.specs.Crossing.{grid_from}
use Rattle.test_cases.specs.declared.map.Map.{Map}
use Rattle.test_cases.specs.declared.map.Board as held
use Rattle.test_lines.specs.Numbers.{short_of, short_number_at, float_at, or_last}

-- width, height, origin latitude, longitude step, latitude step
abbrev pub grid_of : List ℕ → Grid
grid_of line = grid_from (short_number_at line 0) (short_number_at line 1) (float_at line 2) (float_at line 3) (float_at line 4)

-- so much of each array and buffer lent on a grid
abbrev pub map_of : Grid → ℕ → ℕ → ℕ → ℕ → ℕ → ℕ → ℕ → Map
map_of g counts angles cosines sums current following filled =
    record { grid = g; counts = counts; angles = angles; cosines = cosines; sums = sums; current = current; following = following; filled = filled }

-- no cells, and so many words of each buffer
abbrev pub no_map : ℕ → ℕ → ℕ → Map
no_map sums current following =
    let zero = of_bits binary64 0 in
    map_of (grid_from 0 0 zero zero zero) 0 0 0 sums current following 0

-- a map and its arrays
pub record Board : Type 0 where
  pub map : Map
  pub counts : List ℕ
  pub angles : List Float
  pub cosines : List Float

abbrev pub board : Map → List ℕ → List Float → List Float → Board
board m counts angles cosines = record { map = m; counts = counts; angles = angles; cosines = cosines }

-- as the program holds them
abbrev pub board_of : held.Board → Board
board_of b = board b.map b.counts.items b.angles.items b.cosines.items

-- every place overwritten, by the line's last number where the line has none
abbrev pub shorts_of : List ℕ → List ℕ → List ℕ
shorts_of line shorts = over (λ i. short_of (or_last line i)) (length shorts) shorts

abbrev pub floats_of : List ℕ → List Float → List Float
floats_of line floats = over (λ i. of_bits binary64 (or_last line i)) (length floats) floats

-- the letter G sets the grid, C the counts, A the angles, K the cosines; any other nothing
unfoldable pub board_set : Board → ℕ → List ℕ → Board
board_set x tag line =
    let m = x.map in
    let n = length line in
    let sized : Grid → ℕ → ℕ → ℕ → Map =
    λ g counts angles cosines. map_of g counts angles cosines m.sums m.current m.following m.filled in
    let grid = sized (grid_of line) m.counts m.angles m.cosines in
    let counts = sized m.grid n m.angles m.cosines in
    let angles = sized m.grid m.counts n m.cosines in
    let cosines = sized m.grid m.counts m.angles n in
    cond (eqb tag 71) (board grid x.counts x.angles x.cosines)
    (cond (eqb tag 67) (board counts (shorts_of line x.counts) x.angles x.cosines)
    (cond (eqb tag 65) (board angles x.counts (floats_of line x.angles) x.cosines)
    (cond (eqb tag 75) (board cosines x.counts x.angles (floats_of line x.cosines)) x)))
