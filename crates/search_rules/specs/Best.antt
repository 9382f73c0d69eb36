-- The best of all cells by a number of people.
use Rattle.std.specs.Prelude.{ℕ, ◌≤◌, ◌≡◌, ◌⊎◌, T}
use Rattle.grid.specs.declared.Cell.{Cell}
use Rattle.grid.specs.declared.Grid.{Grid}
use Rattle.grid.specs.Grid.{on_grid, before}

-- a cell is on the grid; every other has at most as many people, and any that has as many comes later by row, then column
pub record BestOf (g : Grid) (people : Cell → ℕ) (c : Cell) : Type 0 where
  pub on : T (on_grid g c)
  pub fullest : (x : Cell) → T (on_grid g x) → people x ≤ people c
  pub first : (x : Cell) → T (on_grid g x) → people x ≡ people c → (x ≡ c) ⊎ T (before c x)
