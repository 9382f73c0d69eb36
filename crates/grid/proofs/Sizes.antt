-- What questions 1 and 5 give: the grid's sizes, and how many angles and cosines its sheet has.
use Prim.Native.Nat.{◌≤◌}
use mathlib.Core.Path.{◌≡◌}
use mathlib.Core.Bool.{true, ◌&&◌}
use lib.Dec.{leb, eqb}
use lib.ListN.{length}
use borrow.Author.Tests.{leb-true, eqb-true}
use Rattle.lists.proofs.Bools.{and_left, and_right}
use Rattle.grid.specs.declared.Grid.{Grid}
use Rattle.grid.specs.Grid.{most_columns, most_rows, angle_count}
use Rattle.grid.specs.Map.{Globe}
use Rattle.grid.specs.Questions.{sizes_in_range, sheet_complete}

pub record Sizes (g : Grid) : Type 0 where
  pub some_columns : 1 ≤ g.width
  pub columns : g.width ≤ most_columns
  pub some_rows : 1 ≤ g.height
  pub rows : g.height ≤ most_rows

pub grid_sizes : (g : Grid) → sizes_in_range g ≡ true → Sizes g
unfolding sizes_in_range
grid_sizes g e =
    let a = leb 1 g.width in
    let b = leb g.width most_columns in
    let c = leb 1 g.height in
    let d = leb g.height most_rows in
    let three = and_left (a && b && c) d e in
    let two = and_left (a && b) c three in
    record {
      some_columns = leb-true 1 g.width (and_left a b two);
      columns = leb-true g.width most_columns (and_right a b two);
      some_rows = leb-true 1 g.height (and_right (a && b) c three);
      rows = leb-true g.height most_rows (and_right (a && b && c) d e);
    }

module _ (s : Globe) (e : sheet_complete s ≡ true) where
  pub sheet_angles : length s.angles ≡ angle_count s.grid
  unfolding sheet_complete
  sheet_angles = eqb-true _ _ (and_left (eqb (length s.angles) (angle_count s.grid)) (eqb (length s.cosines) s.grid.height) e)

  pub sheet_cosines : length s.cosines ≡ s.grid.height
  unfolding sheet_complete
  sheet_cosines = eqb-true _ _ (and_right (eqb (length s.angles) (angle_count s.grid)) (eqb (length s.cosines) s.grid.height) e)
