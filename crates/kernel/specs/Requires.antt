-- What building a kernel and summing it ask: rows that fit together.
use Rattle.std.specs.Prelude.{ℕ, ◌≤◌, ◌<◌, ◌≡◌, List, ◌⊎◌, get_or, length}
use Rattle.grid.specs.declared.Col.{Col}
use Rattle.grid.specs.declared.Grid.{Grid}
use Rattle.reach.specs.Reach.{row_places}
use Rattle.kernel.specs.declared.Kernel.{Kernel}

-- ---- building

-- the rows from north up to end are touched, and the next one south is missed
pub record Outlined (reaches : List ℕ) (north end : ℕ) : Type 0 where
  pub places : length reaches ≡ row_places
  pub ordered : north ≤ end
  pub on : end ≤ row_places
  pub touched : (r : ℕ) → north ≤ r → r < end → 0 < get_or reaches r 0
  pub missed : get_or reaches end 0 ≡ 0

-- ---- summing

-- the rows of a kernel's band are on the grid and touched, and no others are
pub record Banded (g : Grid) (k : Kernel) : Type 0 where
  pub north_on : k.north.0 ≤ k.row.0
  pub end_on : k.row.0 ≤ k.end
  pub on : k.end ≤ g.height
  pub touched : (r : ℕ) → k.north.0 ≤ r → r < k.end → 0 < get_or k.reach r 0
  pub missed : (r : ℕ) → (r < k.north.0) ⊎ (k.end ≤ r) → get_or k.reach r 0 ≡ 0

-- a kernel's runs: each ends within the band, after its row, and has the reach of its row
pub record RunsJoined (k : Kernel) : Type 0 where
  pub onward : (r : ℕ) → k.north.0 ≤ r → r < k.end → r < get_or k.run r 0
  pub within : (r : ℕ) → k.north.0 ≤ r → r < k.end → get_or k.run r 0 ≤ k.end
  pub alike : (r : ℕ) → k.north.0 ≤ r → r < k.end → (i : ℕ) → r ≤ i → i < get_or k.run r 0 → get_or k.reach i 0 ≡ get_or k.reach r 0

-- a kernel and a column of one grid
pub record CanSum (g : Grid) (k : Kernel) (col : Col) : Type 0 where
  pub band : Banded g k
  pub runs : RunsJoined k
  pub on : col.0 < g.width
