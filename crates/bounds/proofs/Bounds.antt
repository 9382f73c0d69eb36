-- Bounds: where wide circles hold the circles of a block's cells, the block's bound is at least their populations.
use Prim.Native.Nat.{◌≤◌}
use lib.Dec.{T}
use lib.Ieee.{Float}
use Rattle.grid.specs.declared.Cell.{Cell}
use Rattle.grid.specs.Grid.{cell, on_grid}
use Rattle.grid.specs.Map.{Globe, Map}
use Rattle.circle_cells.specs.Circle.{in_circle, population}
use Rattle.circle_cells.proofs.Populations.{population_le}
use Rattle.blocks.specs.declared.Block.{Block}
use Rattle.blocks.specs.Block.{probe, Rectangle, Holds}
use Rattle.bounds.specs.Bound.{wide_km, in_wide_circle, bound}
use Rattle.grid.proofs.CellOrder.{of_on_grid}

-- each cell's circle lies inside the wide circle of every rectangle holding that cell
abbrev pub Inside : Globe → Float → Type 0
Inside s km =
    (b : Block) → Rectangle s.grid b → (c : Cell) → Holds b c → (x : Cell) → T (on_grid s.grid x)
    → T (in_circle s km c x) → T (in_wide_circle s km b x)

-- a block's bound is at least the population of each circle whose centre it holds
abbrev pub Bounded : Map → Float → Type 0
Bounded m km = (b : Block) → Rectangle m.globe.grid b → (x : Cell) → Holds b x → population m km x ≤ bound m km b

-- sets of cells give bounds, whatever the counts
pub inside_bounded : (m : Map) (km : Float) → Inside m.globe km → Bounded m km
unfolding bound in_wide_circle
inside_bounded m km inside b r c h =
    population_le m km (wide_km m.globe km b) c (probe b)
    (λ i k R K t. inside b r c h (cell i k) (of_on_grid m.globe.grid (cell i k) (record { row = R; col = K })) t)
