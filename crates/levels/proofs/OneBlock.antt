-- One block examined, over plain values: the people that a kernel holds on the table, and the definition's work on each of its two ways.
use Prim.Native.Nat.{ℕ, ◌+◌, ◌-◌, ◌*◌, ◌≤◌, ◌<◌, ◌^◌}
use mathlib.Core.Path.{◌≡◌, refl, sym, ap, subst, ◌∙◌}
use mathlib.Core.Bool.{Bool, true, false, cond, not, ◌&&◌, true≢false}
use mathlib.Core.List.{List, [], ◌∷◌, ◌++◌}
use native.Mathlib.Omega.{arith}
use borrow.Author.Tests.{eqb-true}
use lib.Dec.{eqb}
use lib.Ieee.{Float}
use lib.ListN.{length}
use Rattle.lists.proofs.Bools.{and_right}
use Rattle.lists.proofs.Sums.{times_le}
use Rattle.grid.specs.declared.Cell.{Cell}
use Rattle.grid.specs.declared.Grid.{Grid}
use Rattle.grid.specs.Grid.{most_columns, most_rows, closing}
use Rattle.grid.specs.Map.{Map, globe_of}
use Rattle.grid.specs.Questions.{sheet_complete}
use Rattle.grid.proofs.Sizes.{Sizes, grid_sizes}
use Rattle.sums.specs.State.{table_map, counts_of}
use Rattle.kernel.specs.declared.Kernel.{Kernel}
use Rattle.circle_cells.specs.Circle.{population}
use Rattle.kernel.specs.Kernel.{kernel_population}
use Rattle.kernel.specs.State.{KernelAt}
use Rattle.reach.specs.Requires.{Sheet}
use Rattle.kernel.specs.Requires.{CanSum}
use Rattle.kernel.proofs.Placing.{lent_placed, lent_people}
use Rattle.blocks.specs.declared.Block.{Block}
use Rattle.blocks.specs.Block.{area, probe, Rectangle}
use Rattle.blocks.specs.Requires.{Small}
use Rattle.blocks.proofs.Tiles.{probe_held}
use Rattle.blocks.proofs.Words.{rectangle_small}
use Rattle.bounds.specs.Bound.{wide_km, bound}
use Rattle.candidates.specs.Candidate.{candidate, prunes}
use Rattle.chunk_work.specs.declared.ChunkWork.{ChunkWork}
use Rattle.chunk_work.specs.Work.{wide_built, exact_built}
use Rattle.levels.specs.Level.{pruned, evaluated, examine}
use Rattle.tally.specs.State.{weight}
use Rattle.chunk_work.specs.State.{work_of, pruned_work, evaluated_work}
use Rattle.levels.specs.State.{summed_map}
use Rattle.chunk_work.specs.Requires.{CanCount}
use Rattle.levels.specs.Requires.{most_cells, Ready}

-- ---- a map that is ready

module _ (g : Grid) (angles cosines : List Float) (sums : List ℕ) (t : Ready g angles cosines sums) where
  abbrev m : Map
  m = summed_map g angles cosines sums

  pub ready_sizes : Sizes g
  ready_sizes = grid_sizes g t.sizes

  pub ready_sheet : Sheet g angles
  ready_sheet = record { cosines = cosines; sizes = t.sizes; complete = t.complete; order = t.order }

  pub ready_cosines : length cosines ≡ g.height
  unfolding sheet_complete
  ready_cosines = eqb-true _ _ (and_right (eqb (length angles) (g.height * g.height * (closing g + 1))) (eqb (length cosines) g.height) t.complete)

  -- ---- a block

  module _ (b : Block) (r : Rectangle g b) where
    pub probe_row_lem : (probe b).row.0 < g.height
    probe_row_lem = omega (arith, (probe_held g b r).south, r.south)

    pub probe_column : (probe b).col.0 < g.width
    probe_column = omega (arith, (probe_held g b r).last, r.east)

    pub block_small : Small b
    block_small = rectangle_small g (omega (arith, ready_sizes.columns)) (omega (arith, ready_sizes.rows)) b r

    block_narrow : area b ≤ most_cells
    unfolding area
    block_narrow =
        times_le (b.last.0 + 1 - b.first.0) (b.south.0 + 1 - b.north.0) most_columns most_rows (omega (arith, r.east, ready_sizes.columns)) (omega (arith, r.south, ready_sizes.rows))

    -- a kernel of the probe's row around the probe's column
    module _ (p : Cell) (p-is : p ≡ probe b) (km : Float) (k : Kernel) (is : KernelAt (globe_of g angles cosines) (probe b).row km k) where
      pub probe_placed : CanSum g k p.col
      probe_placed =
          subst (λ (x : Cell). CanSum g k x.col) (sym p-is)
          (lent_placed (globe_of g angles cosines) (probe b).row km k is t.sizes t.order probe_row_lem (probe b).col probe_column)

      pub probe_people : kernel_population (table_map g sums) k p.col ≡ population m km (probe b)
      probe_people =
          ap (λ (x : Cell). kernel_population (table_map g sums) k x.col) p-is
          ∙ lent_people (globe_of g angles cosines) (probe b).row km k is t.sizes t.order probe_row_lem (probe b).col (counts_of g sums)

    pub can_count : (w : ChunkWork) → weight w.tally ≤ 2 ^ 30 → CanCount w b
    can_count w light = record { light = light; small = block_small; narrow = omega (arith, block_narrow) }

-- ---- the two ways

turned : (a b : Bool) → a ≡ not b → b ≡ not a
turned a true e = sym (ap not e)
turned a false e = sym (ap not e)

-- a survivor that asks for no exact circle has the plain radius as its wide one
pub not_asked : (survives plain asks : Bool) → asks ≡ (survives && not plain) → asks ≡ false → survives ≡ true → plain ≡ true
not_asked true true asks e f s = refl
not_asked true false asks e f s = absurd (true≢false (sym e ∙ f))
not_asked false plain asks e f s = absurd (true≢false (sym s))

-- a block's work is the definition's, whatever the survivors before
pub examined_is : (m : Map) (km : Float) (w : ChunkWork) (b : Block) (wide : Float) → wide ≡ wide_km m.globe km b → (most : ℕ) → most ≡ population m wide (probe b)
    → (survives : Bool) → survives ≡ not (prunes most w.held) → (people : ℕ) → (survives ≡ true → people ≡ population m km (probe b)) → (bs : List Block)
    → work_of (cond survives (evaluated_work w b wide people) (pruned_work w b wide)) (cond survives (bs ++ b ∷ []) bs) ≡ examine m km (work_of w bs) b
unfolding examine bound evaluated pruned evaluated_work pruned_work wide_built exact_built candidate
examined_is m km w b wide wide_is most most-is true s people known bs =
    rw (← wide_is, ← most-is, turned true (prunes most w.held) s, known refl)
examined_is m km w b wide wide_is most most-is false s people known bs =
    rw (← wide_is, ← most-is, turned false (prunes most w.held) s)
