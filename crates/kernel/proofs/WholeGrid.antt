-- A kernel is the whole grid where its reach in every row is beyond half a turn, and then its circle is.
use Prim.Native.Nat.{ℕ, ◌/◌, ◌≤◌, ◌<◌, zero-le}
use mathlib.Core.Path.{◌≡◌, sym, ap, ◌∙◌}
use mathlib.Core.Bool.{Bool, true, false}
use mathlib.Core.List.{List}
use native.Mathlib.Omega.{arith}
use lib.Dec.{ltb}
use lib.ListN.{get_or, length, take}
use Rattle.std.specs.Bool.{MatchBool}
use Rattle.std.specs.List.{AllWithin, HoldsAt}
use Rattle.std.proofs.lemmas.Grind.{common_steps}
use lib.Ieee.{Float}
use borrow.Author.Tests.{ltb-true, ltb-false, lt-ltb, le-ltb}
use Rattle.lists.specs.Counted.{all_below}
use Rattle.lists.proofs.All.{all_of, all_fails, all_ext}
use Rattle.lists.proofs.Bools.{cases}
use Rattle.grid.specs.declared.Grid.{Grid}
use Rattle.grid.specs.declared.Row.{Row}
use Rattle.grid.specs.declared.Cell.{Cell}
use Rattle.grid.specs.Grid.{cell, closing, column_distance}
use Rattle.grid.specs.Map.{Globe, globe_of}
use Rattle.grid.specs.Questions.{sizes_in_range}
use Rattle.grid.proofs.Distance.{distance_half}
use Rattle.grid.proofs.SheetOrder.{in_order}
use Rattle.grid.proofs.Sizes.{grid_sizes}
use Rattle.kernel.specs.declared.Kernel.{Kernel}
use Rattle.circle_cells.specs.Circle.{in_circle, covers_whole_grid}
use Rattle.circle_cells.proofs.Circles.{circle_sheet, covers_of}
use Rattle.reach.specs.Requires.{OnSheet}
use Rattle.kernel.specs.Kernel.{kernel_of, in_kernel, kernel_covers}
use Rattle.kernel.proofs.Kernels.{kernel_sheet}
use Rattle.kernel.proofs.Cells.{kernel_cells}

-- ---- a row

-- the farthest column is half a turn away
far_column : (w : ℕ) → column_distance w 0 (w / 2) ≡ w / 2
unfolding column_distance
far_column w = omega arith

row_covered : (w n : ℕ) → 1 ≤ w → all_below w (λ k. ltb (column_distance w 0 k) n) ≡ ltb (w / 2) n
row_covered w n h =
    cases (ltb (w / 2) n)
    (λ t. all_of w (λ k. ltb (column_distance w 0 k) n) (λ k l. lt-ltb (column_distance w 0 k) n (omega (arith, distance_half w 0 k, ltb-true (w / 2) n t))) ∙ sym t)
    (λ t.
    all_fails w (λ k. ltb (column_distance w 0 k) n) (w / 2) (omega arith) (le-ltb (column_distance w 0 (w / 2)) n (omega (arith, far_column w, ltb-false (w / 2) n t)))
    ∙ sym t)

-- ---- a kernel

module _ (g : Grid) (sizes : sizes_in_range g ≡ true) (k : Kernel) where
  covers_by_reach : kernel_covers g k ≡ all_below g.height (λ r. ltb (closing g) (get_or k.reach r 0))
  unfolding kernel_covers in_kernel closing
  covers_by_reach = all_ext g.height _ _ (λ r h. row_covered g.width (get_or k.reach r 0) (grid_sizes g sizes).some_columns)

  module _ (n : ℕ) (e : n ≡ closing g) where
    pub covers_yes : all_below g.height (λ r. ltb n (get_or k.reach r 0)) ≡ true → true ≡ kernel_covers g k
    covers_yes a = sym (covers_by_reach ∙ (rw e at a))

    pub covers_no : (r : ℕ) → r < g.height → ltb n (get_or k.reach r 0) ≡ false → false ≡ kernel_covers g k
    covers_no r h a = sym (covers_by_reach ∙ all_fails g.height (λ i. ltb (closing g) (get_or k.reach i 0)) r h (rw e at a))

  -- as the reaches of the grid's rows are tested in turn
  abbrev pub rows_of : List ℕ
  rows_of = take g.height k.reach

  pub covers_tested : (n : ℕ) → n ≡ closing g → g.height ≤ length k.reach → (b : Bool)
      → MatchBool b (AllWithin (λ x. n < x) rows_of 0 (length rows_of)) ((r : ℕ) × (r < length rows_of) × HoldsAt (λ x. x ≤ n) rows_of r) → b ≡ kernel_covers g k
  covers_tested n e l true all =
      sym (covers_by_reach ∙ all_of g.height _ (λ r h.
      let f : n < get_or rows_of r 0 = all r 0 zero-le (grind (arith, common_steps)) in lt-ltb _ _ (grind (arith, common_steps))))
  covers_tested n e l false (r, h, fell) =
      let f : get_or rows_of r 0 ≤ n = fell 0 in
      sym (covers_by_reach ∙ all_fails g.height _ r (grind (arith, common_steps)) (le-ltb _ _ (grind (arith, common_steps))))

-- ---- a circle

module _ (s : Globe) (row : Row) (on : OnSheet s.grid s.angles row) (km : Float) where
  -- circles and kernels read no cosine
  cell_covered : (r k : ℕ) → r < s.grid.height
      → in_kernel s.grid (kernel_of s row km) (record { 0 = 0 }) (cell r k) ≡ in_circle s km (record { row = row; col = record { 0 = 0 } }) (cell r k)
  cell_covered r k h =
      let g = s.grid in
      let t = globe_of g s.angles on.sheet.cosines in
      let c : Cell = record { row = row; col = record { 0 = 0 } } in
      ap (λ (x : Kernel). in_kernel g x (record { 0 = 0 }) (cell r k)) (kernel_sheet g s.angles s.cosines on.sheet.cosines row km)
      ∙ kernel_cells t (in_order t on.sheet.order) (grid_sizes g on.sheet.sizes).rows row on.on km (record { 0 = 0 }) (cell r k) h
      ∙ sym (circle_sheet t km c (cell r k)) ∙ circle_sheet s km c (cell r k)

  -- THE KERNEL IS THE WHOLE GRID WHERE ITS CIRCLE IS
  pub kernel_covers_lem : kernel_covers s.grid (kernel_of s row km) ≡ covers_whole_grid s km row
  unfolding kernel_covers
  kernel_covers_lem = covers_of s km row (in_kernel s.grid (kernel_of s row km) (record { 0 = 0 })) (λ r k h l. cell_covered r k h)
