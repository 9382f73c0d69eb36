-- What a level and its chunks ask: a map that has passed its questions, and room for the children.
use Rattle.std.specs.Prelude.{ℕ, ◌+◌, ◌*◌, ◌≤◌, ◌≡◌, true, List, Float, length}
use Rattle.lists.specs.Elements.{AllOf, total_of}
use Rattle.grid.specs.declared.Grid.{Grid}
use Rattle.grid.specs.Grid.{most_columns, most_rows}
use Rattle.grid.specs.Map.{globe_of}
use Rattle.grid.specs.Questions.{sizes_in_range, sheet_complete, sheet_in_order}
use Rattle.sums.specs.Requires.{Summed}
use Rattle.blocks.specs.declared.Block.{Block}
use Rattle.blocks.specs.Block.{area, Rectangle}

-- the cells of the largest grid that question 1 lets pass
abbrev pub most_cells : ℕ
most_cells = most_columns * most_rows

-- questions 1, 5 and 6 passed, and the sums filled
pub record Ready (g : Grid) (angles cosines : List Float) (sums : List ℕ) : Type 0 where
  pub sizes : sizes_in_range g ≡ true
  pub complete : sheet_complete (globe_of g angles cosines) ≡ true
  pub order : sheet_in_order (globe_of g angles cosines) ≡ true
  pub table : Summed g sums

-- blocks on the grid, at most as many cells as it has, and room for their children from place live on
pub record CanSweep (g : Grid) (bs : List Block) (following : List ℕ) (live : ℕ) : Type 0 where
  pub rectangles : AllOf (Rectangle g) bs
  pub narrow : total_of area bs ≤ most_cells
  pub room : live + total_of area bs ≤ length following
