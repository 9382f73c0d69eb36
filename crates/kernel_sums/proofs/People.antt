-- The people of a kernel's cells, row by row.
use Prim.Native.Nat.{ℕ, ◌+◌, ◌-◌, ◌≤◌, ◌<◌, zero-le}
use mathlib.Core.Path.{◌≡◌, sym, ap, ◌∙◌}
use mathlib.Core.Bool.{cond}
use mathlib.Core.List.{List}
use mathlib.Core.Logic.{inl, inr}
use native.Mathlib.Nat.{le_refl, le_trans}
use native.Mathlib.Decide.{dec_lt}
use native.Mathlib.Omega.{arith}
use borrow.Author.Tests.{lt-ltb, le-ltb, le-leb, lt-leb}
use lib.Dec.{ltb, leb}
use lib.ListN.{get_or}
use Rattle.lists.specs.Counted.{sum_below}
use Rattle.lists.proofs.Bools.{cond_case}
use Rattle.lists.proofs.Sums.{sum_ext, sum_zeros, sum_le, sum_grows, sum_seg, seg_same, seg_zeros}
use Rattle.grid.specs.declared.Col.{Col}
use Rattle.grid.specs.Grid.{column_distance, cell}
use Rattle.grid.specs.Map.{Map, count}
use Rattle.sums.specs.Sums.{corner, total, row_span, band_span}
use Rattle.sums.specs.declared.RowBand.{RowBand}
use Rattle.sums.proofs.Bands.{band_span_rows}
use Rattle.kernel.specs.declared.Kernel.{Kernel}
use Rattle.kernel.specs.Kernel.{in_kernel, kernel_population}
use Rattle.kernel.specs.Requires.{Banded}
use Rattle.kernel.specs.State.{rows_only}

-- fewer than n is at most n - 1
below_pred : (d n : ℕ) → 0 < n → ltb d n ≡ leb d (n - 1)
below_pred d n h = elim (dec_lt d n) [
  | yes p ↦ lt-ltb d n p ∙ sym (le-leb d (n - 1) (omega arith))
  | no p ↦ le-ltb d n (omega arith) ∙ sym (lt-leb d (n - 1) (omega arith))
]

-- the rows from one up to another
abbrev pub rows_to : ℕ → ℕ → RowBand
rows_to r e = record { north = record { 0 = r }; south = record { 0 = e - 1 } }

module _ (m : Map) (col : Col) (reaches : List ℕ) where
  -- the people of a row within its reach
  unfoldable pub reach_people : ℕ → ℕ
  reach_people r =
      let width = m.globe.grid.width in
      sum_below width (λ i. cond (ltb (column_distance width col.0 i) (get_or reaches r 0)) (count m (cell r i)) 0)

  pub people_missed : (r : ℕ) → get_or reaches r 0 ≡ 0 → reach_people r ≡ 0
  unfolding reach_people
  people_missed r e =
      sum_zeros m.globe.grid.width _ (λ i I. rw (e, le-ltb (column_distance m.globe.grid.width col.0 i) 0 zero-le))

  pub people_touched : (r : ℕ) → 0 < get_or reaches r 0 → reach_people r ≡ row_span m (record { 0 = r }) col (get_or reaches r 0 - 1)
  unfolding reach_people row_span
  people_touched r h =
      sum_ext m.globe.grid.width _ _ (λ i I. rw (below_pred (column_distance m.globe.grid.width col.0 i) (get_or reaches r 0) h))

  -- the people of the rows of a run
  pub people_run : (r e n : ℕ) → r < e → e ≤ m.globe.grid.height → 0 < n → ((i : ℕ) → r ≤ i → i < e → get_or reaches i 0 ≡ n)
      → sum_below e reach_people ≡ sum_below r reach_people + band_span m (rows_to r e) col (n - 1)
  people_run r e n l h t same =
      let half = n - 1 in
      let each = seg_same r e reach_people (λ i. row_span m (record { 0 = i }) col half)
      (λ i p q. people_touched i (omega (arith, same i p q)) ∙ ap (λ (k : ℕ). row_span m (record { 0 = i }) col (k - 1)) (same i p q)) in
      let last : e - 1 + 1 ≡ e = omega arith in
      let band = rw last at (band_span_rows m (rows_to r e) col half (omega arith) (omega arith)) in
      omega (arith, sum_seg r e reach_people (omega arith), each, band)

  pub people_total : (n : ℕ) → n ≤ m.globe.grid.height → sum_below n reach_people ≤ total m
  unfolding total corner reach_people
  people_total n h =
      le_trans
      (sum_grows n m.globe.grid.height reach_people h)
      (sum_le m.globe.grid.height reach_people (λ r. sum_below m.globe.grid.width (λ k. count m (cell r k))) (λ r R.
      sum_le m.globe.grid.width _ _ (λ i I.
      let n = count m (cell r i) in
      cond_case (λ (x : ℕ). x ≤ n) (ltb (column_distance m.globe.grid.width col.0 i) (get_or reaches r 0)) n 0 (λ e. le_refl n) (λ e. zero-le))))

-- nobody north of the band, and all within it, wherever the kernel's own row lies
module _ (m : Map) (col : Col) (k : Kernel) (b : Banded m.globe.grid (rows_only k)) where
  pub people_north : sum_below k.north.0 (reach_people m col k.reach) ≡ 0
  people_north = sum_zeros k.north.0 (reach_people m col k.reach) (λ r h. people_missed m col k.reach r (b.missed r (inl h)))

  pub people_all : (e : ℕ) → e ≡ k.end → sum_below e (reach_people m col k.reach) ≡ kernel_population m k col
  unfolding kernel_population in_kernel reach_people
  people_all e is =
      let south = seg_zeros k.end m.globe.grid.height (reach_people m col k.reach) (λ r h l. people_missed m col k.reach r (b.missed r (inr h))) in
      rw is (omega (arith, sum_seg k.end m.globe.grid.height (reach_people m col k.reach) b.on, south))
