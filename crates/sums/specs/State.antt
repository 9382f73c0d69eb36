-- The map that a buffer's words are the prefix sums of: a function that is lent the words alone speaks of it.
use Rattle.std.specs.Prelude.{ℕ, ◌+◌, ◌*◌, ◌-◌, ◌/◌, ◌%◌, List, [], get_or}
use Rattle.lists.specs.Front.{tabulate}
use Rattle.grid.specs.declared.Grid.{Grid}
use Rattle.grid.specs.Grid.{cells}
use Rattle.grid.specs.Map.{Map, Globe, lent_map}

-- a map by its grid and counts alone: prefix sums read no angle
abbrev pub counts_map : Grid → List ℕ → Map
counts_map g counts = lent_map g counts [] []

-- the word at a row and a column of the sums
unfoldable pub sums_at : Grid → List ℕ → ℕ → ℕ → ℕ
sums_at g sums row col = get_or sums (row * (g.width + 1) + col) 0

-- the count of a cell, by the words at its four corners
unfoldable pub count_at : Grid → List ℕ → ℕ → ℕ → ℕ
count_at g sums row col = sums_at g sums (row + 1) (col + 1) + sums_at g sums row col - (sums_at g sums row (col + 1) + sums_at g sums (row + 1) col)

-- the counts that the sums are of
unfoldable pub counts_of : Grid → List ℕ → List ℕ
counts_of g sums = tabulate (λ i. count_at g sums (i / g.width) (i % g.width)) (cells g)

-- the map of a table
abbrev pub table_map : Grid → List ℕ → Map
table_map g sums = counts_map g (counts_of g sums)

-- the map of a table with a sheet
abbrev pub globe_map : Globe → List ℕ → Map
globe_map globe sums = record { globe = globe; counts = counts_of globe.grid sums }
