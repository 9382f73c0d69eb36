-- Circles as sets of cells: they grow with the radius, are the whole grid from the ceiling on, and depend on the radius's value alone.
use Prim.Native.Nat.{ℕ, zero, suc, ◌^◌, ◌≤◌, ◌<◌}
use mathlib.Core.Path.{◌≡◌, refl}
use mathlib.Core.Bool.{Bool, true, false, cond}
use native.Mathlib.Nat.{le_refl}
use native.Mathlib.Omega.{arith}
use lib.Dec.{T}
use lib.Ieee.{Float, le, eq}
use Rattle.floats.specs.Binary.{open_floats, whole}
use Rattle.floats.proofs.Order.{le_trans}
use Rattle.floats.proofs.Total.{lt_not_le, le_of_eq, eq_le, le_same_right}
use Rattle.floats.proofs.Whole.{whole_le, whole_lt}
use Rattle.lists.specs.Counted.{all_below}
use Rattle.lists.proofs.All.{all_ext}
use Rattle.lists.proofs.Bools.{is_true}
use Rattle.grid.specs.declared.Row.{Row}
use Rattle.grid.specs.declared.Cell.{Cell}
use Rattle.grid.specs.declared.Grid.{Grid}
use Rattle.grid.specs.Numbers.{π}
use Rattle.grid.specs.Grid.{ceiling, angle_of, cell, column_distance}
use Rattle.grid.specs.Map.{Globe, angle_at, sheet_of}
use Rattle.grid.proofs.Body.{ceiling_least, ceiling_most}
use Rattle.grid.proofs.Distance.{distance_closing}
use Rattle.grid.proofs.SheetOrder.{InOrder, angle_most}
use Rattle.circle_cells.specs.Circle.{angle_to, in_circle, covers_whole_grid}
use Rattle.circle_cells.proofs.General.{eq_same}
use Rattle.circle_cells.proofs.Angle.{angle_mono, angle_ceiling}

-- ---- which radii are 0

zero_zero : T (eq (whole 0) (whole 0))
unfolding open_floats
zero_zero = tt

-- what is at least a whole number above 0 is not 0
pub not_zero : (km : ℕ) → 1 ≤ km → km ≤ 2 ^ 53 → (x : Float) → T (le (whole km) x) → T (eq x (whole 0)) → ⊥
not_zero km h l x g t = lt_not_le (whole 0) (whole km) (whole_lt 0 km h l) (le_trans (whole km) x (whole 0) g (le_of_eq x (whole 0) t))

pub whole_not_zero : (km : ℕ) → 1 ≤ km → km ≤ 2 ^ 53 → T (eq (whole km) (whole 0)) → ⊥
whole_not_zero km h l = not_zero km h l (whole km) (whole_le km km (le_refl km))

ceiling_not_zero : (g : Grid) (x : Float) → T (le (whole (ceiling g)) x) → T (eq x (whole 0)) → ⊥
ceiling_not_zero g x h = not_zero (ceiling g) (omega (arith, ceiling_least g)) (omega (arith, ceiling_most g)) x h

-- ---- a cell in a circle

open_test : (z within : Bool) → T (cond z false within) → (T z → ⊥) × T within
open_test true within t = absurd t
open_test false within t = (λ n. n, t)

shut_test : (z within : Bool) → (T z → ⊥) → T within → T (cond z false within)
shut_test true within n t = absurd (n tt)
shut_test false within n t = t

module _ (s : Globe) where
  -- the radius is not 0, and the cell's angle is at most the radius's
  pub circle_out : (km : Float) (c x : Cell) → T (in_circle s km c x) → (T (eq km (whole 0)) → ⊥) × T (le (angle_to s c x) (angle_of s.grid km))
  unfolding in_circle
  circle_out km c x t = open_test (eq km (whole 0)) (le (angle_to s c x) (angle_of s.grid km)) t

  pub circle_in : (km : Float) (c x : Cell) → (T (eq km (whole 0)) → ⊥) → T (le (angle_to s c x) (angle_of s.grid km)) → T (in_circle s km c x)
  unfolding in_circle
  circle_in km c x n t = shut_test (eq km (whole 0)) (le (angle_to s c x) (angle_of s.grid km)) n t

  -- radius 0 holds nothing, and any other the cells whose angle is at most the radius's
  pub circle_none : (km : Float) (c x : Cell) → eq km (whole 0) ≡ true → in_circle s km c x ≡ false
  unfolding in_circle
  circle_none km c x z = rw z

  pub circle_some : (km : Float) (c x : Cell) → eq km (whole 0) ≡ false
      → in_circle s km c x ≡ le (angle_at s c.row x.row (column_distance s.grid.width c.col.0 x.col.0)) (angle_of s.grid km)
  unfolding in_circle angle_to
  circle_some km c x z = rw z

  pub circle_zero : (c x : Cell) → in_circle s (whole 0) c x ≡ false
  circle_zero c x = circle_none (whole 0) c x (is_true (eq (whole 0) (whole 0)) zero_zero)

  -- circles read no cosine
  pub circle_sheet : (km : Float) (c x : Cell) → in_circle (sheet_of s.grid s.angles) km c x ≡ in_circle s km c x
  unfolding in_circle angle_to angle_at
  circle_sheet km c x = refl

  -- a radius no less, and not 0, holds no less
  pub circle_wider : (n km : Float) → T (le n km) → (T (eq km (whole 0)) → ⊥) → (c x : Cell) → T (in_circle s n c x) → T (in_circle s km c x)
  circle_wider n km h z c x t =
      circle_in km c x z (le_trans (angle_to s c x) (angle_of s.grid n) (angle_of s.grid km) (circle_out n c x t).1 (angle_mono s.grid n km h))

  pub circle_grows : (n km : ℕ) → n ≤ km → km ≤ 2 ^ 53 → (c x : Cell) → T (in_circle s (whole n) c x) → T (in_circle s (whole km) c x)
  circle_grows zero km h l c x t = absurd ((circle_out (whole 0) c x t).0 zero_zero)
  circle_grows (suc n) km h l c x t = circle_wider (whole (suc n)) (whole km) (whole_le (suc n) km h) (whole_not_zero km (omega arith) l) c x t

  -- radii that compare equal have the same circles
  pub same_radius : (x y : Float) → T (eq x y) → (c z : Cell) → in_circle s x c z ≡ in_circle s y c z
  unfolding in_circle
  same_radius x y e c z =
      let both = eq_le x y e in
      let g = s.grid in
      rw (eq_same x y (whole 0) e, le_same_right (angle_of g x) (angle_of g y) (angle_mono g x y both.0) (angle_mono g y x both.1) (angle_to s c z))

-- ---- on a sheet in order

module _ (s : Globe) (q : InOrder s) (c : Cell) (C : c.row.0 < s.grid.height) where
  -- from the ceiling on every circle is the whole grid
  pub circle_all : (km : Float) → T (le (whole (ceiling s.grid)) km) → (x : Cell) → x.row.0 < s.grid.height → T (in_circle s km c x)
  unfolding angle_to
  circle_all km h x X =
      let g = s.grid in
      let offset = column_distance g.width c.col.0 x.col.0 in
      circle_in s km c x (ceiling_not_zero g km h)
      (le_trans (angle_to s c x) π (angle_of g km) (angle_most s q c.row.0 C x.row.0 X offset (distance_closing g c.col.0 x.col.0))
      (rw (angle_ceiling g) at (angle_mono g (whole (ceiling g)) km h)))

-- ---- the whole grid

-- a set that has the circle's cells is the whole grid where the circle is
pub covers_of : (s : Globe) (km : Float) (row : Row) (among : Cell → Bool)
    → ((r k : ℕ) → r < s.grid.height → k < s.grid.width → among (cell r k) ≡ in_circle s km (record { row = row; col = record { 0 = 0 } }) (cell r k))
    → all_below s.grid.height (λ r. all_below s.grid.width (λ k. among (cell r k))) ≡ covers_whole_grid s km row
unfolding covers_whole_grid
covers_of s km row among h = all_ext s.grid.height _ _ (λ r R. all_ext s.grid.width _ _ (λ k K. h r k R K))
