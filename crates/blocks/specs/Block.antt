-- Blocks: rectangles of centres, their probe, how they tile the grid and split.
use Rattle.std.specs.Prelude.{ℕ, zero, suc, ◌+◌, ◌-◌, ◌*◌, ◌/◌, ◌≤◌, ◌<◌, min, Bool, cond, not, ◌&&◌, List, [], ◌∷◌, leb, eqb}
use Rattle.lists.specs.Lists.{each, concat_each}
use Rattle.grid.specs.declared.Cell.{Cell}
use Rattle.grid.specs.declared.Grid.{Grid}
use Rattle.grid.specs.Grid.{cell, before}
use Rattle.blocks.specs.declared.Block.{Block}

-- the numbers from low to high, both included
pub record Range : Type 0 where
  pub low : ℕ
  pub high : ℕ

-- a range by its two ends
abbrev pub range : ℕ → ℕ → Range
range a b = record { low = a; high = b }

-- the block of a range of rows and a range of columns
abbrev pub block : Range → Range → Block
block rows cols =
    record { north = record { 0 = rows.low }; south = record { 0 = rows.high }; first = record { 0 = cols.low }; last = record { 0 = cols.high } }

-- how many cells a block has
unfoldable pub area : Block → ℕ
area b = (b.last.0 + 1 - b.first.0) * (b.south.0 + 1 - b.north.0)

-- a single cell: one row and one column
unfoldable pub is_cell : Block → Bool
is_cell b = eqb b.north.0 b.south.0 && eqb b.first.0 b.last.0

-- low + (high − low) / 2, rounded down
unfoldable pub middle : ℕ → ℕ → ℕ
middle low high = low + (high - low) / 2

-- the cell whose circles stand for the block
unfoldable pub probe : Block → Cell
probe b = cell (middle b.north.0 b.south.0) (middle b.first.0 b.last.0)

-- the same rows and as many columns (sums, since a difference would hide a last column that stands before the first)
unfoldable pub same_shape : Block → Block → Bool
same_shape a b = eqb a.north.0 b.north.0 && eqb a.south.0 b.south.0 && eqb (a.last.0 + b.first.0) (b.last.0 + a.first.0)

-- at or before, by probe: row, then column
unfoldable pub by_probe : Block → Block → Bool
by_probe a b = not (before (probe b) (probe a))

-- from low to high in steps, the last one short; at most fuel of them
unfoldable pub steps : ℕ → ℕ → ℕ → ℕ → List Range
steps zero step low high = []
steps (suc fuel) step low high =
    let end = min (low + (step - 1)) high in
    let first : List Range = range low end ∷ steps fuel step (end + 1) high in
    cond (leb low high) first []

-- every range of rows with every range of columns, row by row
unfoldable pub cross : List Range → List Range → List Block
cross rows cols = concat_each (λ r. each (block r) cols) rows

-- the grid in blocks of a side, from the north-west
unfoldable pub tile : Grid → ℕ → List Block
tile g spacing = cross (steps g.height spacing 0 (g.height - 1)) (steps g.width spacing 0 (g.width - 1))

-- a range halved: itself where it is one number, otherwise up to the middle and from the next number on
unfoldable pub halves : ℕ → ℕ → List Range
halves low high =
    let two : List Range = range low (middle low high) ∷ range (middle low high + 1) high ∷ [] in
    cond (eqb low high) (range low high ∷ []) two

-- rows and columns halved where the probe stands, the north-west child first; none of a single cell
unfoldable pub split : Block → List Block
split b = cond (is_cell b) [] (cross (halves b.north.0 b.south.0) (halves b.first.0 b.last.0))

-- a rectangle on the grid: all cells from row north to row south and from column first to column last, so that it does not cross the seam
pub record Rectangle (g : Grid) (b : Block) : Type 0 where
  pub rows : b.north.0 ≤ b.south.0
  pub south : b.south.0 < g.height
  pub columns : b.first.0 ≤ b.last.0
  pub east : b.last.0 < g.width

-- a rectangle holds a cell
pub record Holds (b : Block) (x : Cell) : Type 0 where
  pub north : b.north.0 ≤ x.row.0
  pub south : x.row.0 ≤ b.south.0
  pub first : b.first.0 ≤ x.col.0
  pub last : x.col.0 ≤ b.last.0

-- opens all of the above, for facts that are computed
unfoldable pub open_blocks : Unit {0}
unfolding area is_cell middle probe same_shape by_probe steps cross tile halves split
open_blocks = tt
