-- The table: prefix sums of the counts in a lent buffer, and the people of a rectangle.
use Rattle.std.specs.Prelude.{ℕ, ◌+◌, ◌*◌, ◌-◌, ◌/◌, ◌%◌, Bool, cond, ◌&&◌, ◌||◌, List, leb, length}
use Rattle.lists.specs.Counted.{sum_below}
use Rattle.lists.specs.Front.{over}
use Rattle.grid.specs.declared.Row.{Row}
use Rattle.grid.specs.declared.Col.{Col}
use Rattle.grid.specs.declared.Grid.{Grid}
use Rattle.grid.specs.Grid.{cell, column_distance}
use Rattle.grid.specs.Map.{Map, count}
use Rattle.sums.specs.declared.RowBand.{RowBand}
use Rattle.sums.specs.declared.ColSpan.{ColSpan}
use Rattle.sums.specs.declared.Rows.{Rows}

-- the people of the cells above a row and west of a column
unfoldable pub corner : Map → ℕ → ℕ → ℕ
corner m row col = sum_below row (λ r. sum_below col (λ k. count m (cell r k)))

-- the words that the prefix sums take
unfoldable pub sums_words : Grid → ℕ
sums_words g = (g.height + 1) * (g.width + 1)

-- word row × (width + 1) + column is the corner at that row and column
unfoldable pub sums_word : Map → ℕ → ℕ
sums_word m i = let stride = m.globe.grid.width + 1 in corner m (i / stride) (i % stride)

-- a sums buffer with the prefix sums over its front; its tail is as it was
unfoldable pub filled_sums : Map → List ℕ → List ℕ
filled_sums m sums = over (sums_word m) (sums_words m.globe.grid) sums

-- question 7, for the sums buffer
unfoldable pub sums_fit : Grid → List ℕ → Bool
sums_fit g sums = leb (sums_words g) (length sums)

-- the people of all cells
unfoldable pub total : Map → ℕ
total m = corner m m.globe.grid.height m.globe.grid.width

-- the people of some rows and the columns from west to before end
unfoldable pub rectangle_population : Map → Rows → ℕ → ℕ → ℕ
rectangle_population m rows west end = sum_below (rows.end - rows.north) (λ i. sum_below (end - west) (λ k. count m (cell (rows.north + i) (west + k))))

-- a band by its rows and a span by its columns, as a call gives them
abbrev pub band_of : Row → Row → RowBand
band_of north south = record { north = north; south = south }

abbrev pub span_of : Col → Col → ColSpan
span_of west east = record { west = west; east = east }

-- a row is in a band
unfoldable pub in_band : RowBand → ℕ → Bool
in_band b row = leb b.north.0 row && leb row b.south.0

-- a column is in a span; one with west > east goes across the seam, in two pieces
unfoldable pub in_span : ColSpan → ℕ → Bool
in_span s col =
    cond (leb s.west.0 s.east.0) (leb s.west.0 col && leb col s.east.0) (leb s.west.0 col || leb col s.east.0)

-- the people of the rows of a band and the columns of a span
unfoldable pub band_population : Map → RowBand → ColSpan → ℕ
band_population m b s =
    sum_below m.globe.grid.height (λ r. sum_below m.globe.grid.width (λ k. cond (in_band b r && in_span s k) (count m (cell r k)) 0))

-- the people of a row's columns at a distance of at most half from a centre column, around the ring
unfoldable pub row_span : Map → Row → Col → ℕ → ℕ
row_span m row centre half =
    let width = m.globe.grid.width in
    sum_below width (λ k. cond (leb (column_distance width centre.0 k) half) (count m (cell row.0 k)) 0)

-- the same of the rows of a band
unfoldable pub band_span : Map → RowBand → Col → ℕ → ℕ
band_span m band centre half = sum_below m.globe.grid.height (λ r. cond (in_band band r) (row_span m (record { 0 = r }) centre half) 0)

-- opens all of the above, for facts that are computed
unfoldable pub open_sums : Unit {0}
unfolding corner sums_words sums_word filled_sums sums_fit total rectangle_population in_band in_span band_population
open_sums = tt
