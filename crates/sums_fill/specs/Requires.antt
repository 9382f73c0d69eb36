-- What filling the sums asks: sizes and counts that a call has tested, and room in what is lent.
use Rattle.std.specs.Prelude.{ℕ, ◌+◌, ◌*◌, ◌≤◌, ◌<◌, ◌≡◌, List, length}
use Rattle.lists.specs.Front.{over}
use Rattle.grid.specs.declared.Grid.{Grid}
use Rattle.grid.specs.Grid.{most_columns, most_rows}
use Rattle.sums.specs.Sums.{sums_words, sums_word}
use Rattle.sums.specs.State.{counts_map}
use Rattle.sums_fill.specs.State.{words_through}

-- what fill_sums is told: questions 1, 4 and 7
pub record Fillable (g : Grid) (counts sums : List ℕ) : Type 0 where
  pub columns : g.width ≤ most_columns
  pub rows : g.height ≤ most_rows
  pub complete : length counts ≡ g.width * g.height
  pub room : sums_words g ≤ length sums

-- the same when the words of rows 0 to row are there and those of row + 1 are next
pub record RowReady (g : Grid) (row : ℕ) (counts sums : List ℕ) : Type 0 where
  pub columns : g.width ≤ most_columns
  pub rows : row < most_rows
  pub complete : row * g.width + g.width ≤ length counts
  pub room : words_through g row + (g.width + 1) ≤ length sums
  pub above : sums ≡ over (sums_word (counts_map g counts)) (words_through g row) sums
