-- The counts of a search stay far below their types' limits, for any sheet.
use Prim.Native.Nat.{ℕ, ◌+◌, ◌*◌, ◌≤◌}
use mathlib.Core.Path.{◌≡◌}
use mathlib.Core.List.{List}
use native.Mathlib.Omega.{arith}
use Rattle.lists.proofs.Sums.{times_le}
use Rattle.grid.specs.declared.Grid.{Grid}
use Rattle.grid.specs.Grid.{most_columns, most_rows, cells}
use Rattle.grid.proofs.Sizes.{Sizes}
use Rattle.blocks.specs.declared.Block.{Block}
use Rattle.tally.specs.declared.Tally.{Tally}
use Rattle.levels.specs.Requires.{most_cells}
use Rattle.levels.proofs.Counts.{ended, decided}
use Rattle.search_rules.proofs.Levels.{Counted, Tallied}

pub cells_few : (g : Grid) → Sizes g → cells g ≤ most_cells
unfolding cells
cells_few g s = times_le g.width g.height most_columns most_rows s.columns s.rows

-- the levels of a search of the largest grid: its columns and rows together
abbrev pub most_levels : ℕ
most_levels = most_columns + most_rows

-- the counts of a search on a grid that question 1 lets pass
pub record Few (t : Tally) : Type 0 where
  pub levels : t.stats.levels ≤ most_levels
  pub examined : t.stats.blocks_examined ≤ most_levels * most_cells
  pub pruned : t.stats.blocks_pruned ≤ most_levels * most_cells
  pub evaluated : t.stats.circles_evaluated ≤ most_levels * most_cells
  pub kernels : t.stats.kernels_built ≤ most_levels * (2 * most_cells + 8)
  pub cells_ended : ended t ≤ most_cells

module _ (g : Grid) (s : Sizes g) (t : Tally) where
  -- as every count is within the levels times the cells
  all_few : t.stats.levels ≤ g.width + g.height → ended t ≤ cells g → decided t ≡ t.stats.blocks_examined
      → t.stats.blocks_examined ≤ t.stats.levels * cells g → t.stats.kernels_built ≤ t.stats.levels * (2 * cells g + 8) → Few t
  all_few few-levels end either some built =
      let area_few = cells_few g s in
      let levels : t.stats.levels ≤ most_levels = omega (arith, few-levels, s.columns, s.rows) in
      let examined : t.stats.blocks_examined ≤ most_levels * most_cells =
      omega (arith, some, times_le t.stats.levels (cells g) most_levels most_cells levels area_few) in
      let per-level : 2 * cells g + 8 ≤ 2 * most_cells + 8 = omega arith in
      record {
        levels = levels;
        examined = examined;
        pruned = omega (arith, either);
        evaluated = omega (arith, either);
        kernels = omega (arith, built, times_le t.stats.levels (2 * cells g + 8) most_levels (2 * most_cells + 8) levels per-level);
        cells_ended = omega (arith, end);
      }

  -- between two levels, and of a whole search
  pub counted_few : (n : ℕ) (bs : List Block) → Counted g n t bs → Few t
  counted_few n bs i = all_few (omega (arith, i.levels_all)) (omega (arith, i.cells_all)) i.either i.examined i.kernels

  pub tallied_few : Tallied g t → Few t
  tallied_few k = all_few k.levels_few (omega (arith, k.cells_all)) k.either k.examined k.kernels
