-- A fair sheet: circles inside the wide circles of the rectangles that hold their centres, whatever the counts.
use Rattle.std.specs.Prelude.{ℕ, ◌≤◌, ◌<◌, T}
use Rattle.floats.specs.Binary.{whole}
use Rattle.grid.specs.declared.Cell.{Cell}
use Rattle.grid.specs.Grid.{ceiling, on_grid}
use Rattle.grid.specs.Map.{Globe}
use Rattle.circle_cells.specs.Circle.{in_circle}
use Rattle.blocks.specs.declared.Block.{Block}
use Rattle.blocks.specs.Block.{Rectangle, Holds}
use Rattle.bounds.specs.Bound.{in_wide_circle}

-- each cell's circle lies inside the wide circle of every rectangle holding that cell: sets of cells, whatever the counts
abbrev pub FairAt : Globe → ℕ → Type 0
FairAt s km =
    (b : Block) → Rectangle s.grid b → (c : Cell) → Holds b c → (x : Cell) → T (on_grid s.grid x)
    → T (in_circle s (whole km) c x) → T (in_wide_circle s (whole km) b x)

-- at each whole radius from 1 to the kilometre below the ceiling
abbrev pub Fair : Globe → Type 0
Fair s = (km : ℕ) → 1 ≤ km → km < ceiling s.grid → FairAt s km
