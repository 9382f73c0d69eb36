-- What reading the sums asks: words that a call has filled, and places on the grid.
use Rattle.std.specs.Prelude.{ℕ, ◌≤◌, ◌<◌, ◌^◌, ◌≡◌, List, length}
use Rattle.grid.specs.declared.Col.{Col}
use Rattle.grid.specs.declared.Grid.{Grid}
use Rattle.grid.specs.Grid.{most_columns, most_rows}
use Rattle.sums.specs.declared.RowBand.{RowBand}
use Rattle.sums.specs.declared.ColSpan.{ColSpan}
use Rattle.sums.specs.declared.Rows.{Rows}
use Rattle.sums.specs.Sums.{sums_words, filled_sums, total}
use Rattle.sums.specs.State.{table_map}

-- the sums start with the prefix sums of the table's map, whose people a binary64 counts exactly
pub record Summed (g : Grid) (sums : List ℕ) : Type 0 where
  pub columns : g.width ≤ most_columns
  pub rows : g.height ≤ most_rows
  pub room : sums_words g ≤ length sums
  pub words : sums ≡ filled_sums (table_map g sums) sums
  pub exact : total (table_map g sums) < 2 ^ 53

-- a corner of the grid's cells, the last ones included
pub record AtCorner (g : Grid) (r c : ℕ) : Type 0 where
  pub row : r ≤ g.height
  pub col : c ≤ g.width

-- rows in order and the columns west of one, all on the grid
pub record StripOnTable (g : Grid) (rows : Rows) (c : ℕ) : Type 0 where
  pub ordered : rows.north ≤ rows.end
  pub south : rows.end ≤ g.height
  pub col : c ≤ g.width

-- such rows and the columns from a west one to before an end
pub record InlandOnTable (g : Grid) (rows : Rows) (w e : ℕ) : Type 0 where
  pub ordered : rows.north ≤ rows.end
  pub south : rows.end ≤ g.height
  pub west : w ≤ e
  pub end : e ≤ g.width

-- a band of rows in order and a span of columns, all on the grid
pub record OnTable (g : Grid) (band : RowBand) (span : ColSpan) : Type 0 where
  pub ordered : band.north.0 ≤ band.south.0
  pub south : band.south.0 < g.height
  pub west : span.west.0 < g.width
  pub east : span.east.0 < g.width

-- such a band, a centre column, and a half width that fits 32 bits twice, with one more
pub record InTable (g : Grid) (band : RowBand) (c : Col) (h : ℕ) : Type 0 where
  pub ordered : band.north.0 ≤ band.south.0
  pub south : band.south.0 < g.height
  pub col : c.0 < g.width
  pub half : h < 2 ^ 31
