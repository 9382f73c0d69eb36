-- What a search asks beside its map: room in two buffers.
use Rattle.std.specs.Prelude.{ℕ, ◌≤◌, ◌≡◌, true, List, length}
use Rattle.grid.specs.declared.Grid.{Grid}
use Rattle.grid.specs.Grid.{cells}
use Rattle.grid.specs.Questions.{sizes_in_range}

-- a grid that question 1 lets pass, and two buffers with a word for each of its cells
pub record TwoBuffers (g : Grid) (current following : List ℕ) : Type 0 where
  pub sizes : sizes_in_range g ≡ true
  pub current_room : cells g ≤ length current
  pub following_room : cells g ≤ length following
