-- What question 6 gives of a sheet: the offsets of a row within an angle are its first ones, and the rows whose nearest cell is within it are
-- one band around the centre row. For every size.
use Prim.Native.Nat.{ℕ, zero, suc, ◌+◌, ◌-◌, ◌≤◌, ◌<◌}
use mathlib.Core.Path.{◌≡◌}
use mathlib.Core.Logic.{◌⊎◌, inl, inr}
use mathlib.Core.Bool.{true, ◌&&◌}
use native.Mathlib.Nat.{add-zero, add_assoc}
use native.Mathlib.Omega.{arith}
use lib.Dec.{T}
use lib.Ieee.{Float, le}
use borrow.Author.Tests.{lt-ltb, le-ltb}
use Rattle.floats.specs.Binary.{whole}
use Rattle.floats.proofs.Order.{le_trans}
use Rattle.floats.proofs.Total.{number, le_number, le_refl}
use Rattle.lists.specs.Counted.{all_below}
use Rattle.lists.proofs.Bools.{is_true, of_true, and_left, and_right}
use Rattle.lists.proofs.All.{all_at, all_rows_at}
use Rattle.grid.specs.Numbers.{π}
use Rattle.grid.specs.Grid.{closing}
use Rattle.grid.specs.Map.{Globe}
use Rattle.grid.specs.Questions.{every_row, every_pair, angle, cosines_in_range, angle_in_range, angles_in_range, own_angle_zero, angle_rises, angles_rise, row_rises, rows_rise, sheet_in_order}

-- from each value to the next, to any two
rises : (f : ℕ → Float) (n : ℕ) → ((i : ℕ) → i ≤ n → T (number (f i))) → ((i : ℕ) → i < n → T (le (f i) (f (i + 1))))
    → (j d : ℕ) → j + d ≤ n → T (le (f j) (f (j + d)))
rises f n N up j zero l = rw (add-zero j) (le_refl (f j) (N j (omega arith)))
rises f n N up j (suc d) l =
    let e : j + d + 1 ≡ j + suc d = omega arith in
    le_trans (f j) (f (j + d)) (f (j + suc d)) (rises f n N up j d (omega arith)) (rw e at (up (j + d) (omega arith)))

carried : (x y a : Float) → T (le x y) → le y a ≡ true → le x a ≡ true
carried x y a h e = is_true (le x a) (le_trans x y a h (of_true (le y a) e))

-- the parts of question 6
pub record InOrder (s : Globe) : Type 0 where
  pub cosines : cosines_in_range s ≡ true
  pub range : angles_in_range s ≡ true
  pub own : own_angle_zero s ≡ true
  pub offsets : angles_rise s ≡ true
  pub rows : rows_rise s ≡ true

pub in_order : (s : Globe) → sheet_in_order s ≡ true → InOrder s
unfolding sheet_in_order
in_order s e =
    let a = cosines_in_range s in
    let b = angles_in_range s in
    let c = own_angle_zero s in
    let d = angles_rise s in
    let four = and_left (a && b && c && d) (rows_rise s) e in
    let three = and_left (a && b && c) d four in
    let two = and_left (a && b) c three in
    record {
      cosines = and_left a b two;
      range = and_right a b two;
      own = and_right (a && b) c three;
      offsets = and_right (a && b && c) d four;
      rows = and_right (a && b && c && d) (rows_rise s) e;
    }

module _ (s : Globe) (q : InOrder s) (c : ℕ) (C : c < s.grid.height) where
  module _ (r : ℕ) (R : r < s.grid.height) where
    in_range : (k : ℕ) → k ≤ closing s.grid → angle_in_range s c r k ≡ true
    unfolding angles_in_range every_pair every_row
    in_range k l =
        let h = s.grid.height in
        let n = closing s.grid + 1 in
        all_rows_at h (λ r. n) (angle_in_range s c) r k (all_at h (λ c. all_below h (λ r. all_below n (angle_in_range s c r))) c q.range C) R (omega arith)

    pub angle_least : (k : ℕ) → k ≤ closing s.grid → T (le (whole 0) (angle s c r k))
    unfolding angle_in_range
    angle_least k l = of_true (le (whole 0) (angle s c r k)) (and_left (le (whole 0) (angle s c r k)) (le (angle s c r k) π) (in_range k l))

    pub angle_most : (k : ℕ) → k ≤ closing s.grid → T (le (angle s c r k) π)
    unfolding angle_in_range
    angle_most k l = of_true (le (angle s c r k) π) (and_right (le (whole 0) (angle s c r k)) (le (angle s c r k) π) (in_range k l))

    pub angle_number : (k : ℕ) → k ≤ closing s.grid → T (number (angle s c r k))
    angle_number k l = (le_number (whole 0) (angle s c r k) (angle_least k l)).1

    next_offset : (k : ℕ) → k < closing s.grid → T (le (angle s c r k) (angle s c r (k + 1)))
    unfolding angles_rise every_pair every_row angle_rises
    next_offset k l =
        let h = s.grid.height in
        let n = closing s.grid in
        of_true (le (angle s c r k) (angle s c r (k + 1)))
        (all_rows_at h (λ r. n) (angle_rises s c) r k (all_at h (λ c. all_below h (λ r. all_below n (angle_rises s c r))) c q.offsets C) R l)

    -- angles do not fall from an offset to any later one
    pub offsets_rise : (j k : ℕ) → j ≤ k → k ≤ closing s.grid → T (le (angle s c r j) (angle s c r k))
    offsets_rise j k h l =
        let e : j + (k - j) ≡ k = omega arith in
        rw e at (rises (angle s c r) (closing s.grid) angle_number next_offset j (k - j) (omega arith))

    -- so the offsets within an angle are the first ones of the row
    pub offsets_first : (a : Float) (j k : ℕ) → j ≤ k → k ≤ closing s.grid → le (angle s c r k) a ≡ true → le (angle s c r j) a ≡ true
    offsets_first a j k h l t = carried (angle s c r j) (angle s c r k) a (offsets_rise j k h l) t

  next_row : (r : ℕ) → r + 1 < s.grid.height → row_rises s c r ≡ true
  unfolding rows_rise every_row
  next_row r l =
      let h = s.grid.height in
      all_rows_at h (λ c. h - 1) (row_rises s) c r q.rows C (omega arith)

  next_south : (r : ℕ) → c ≤ r → r + 1 < s.grid.height → T (le (angle s c r 0) (angle s c (r + 1) 0))
  unfolding row_rises
  next_south r l h = of_true (le (angle s c r 0) (angle s c (r + 1) 0)) (rw (le-ltb r c l) at (next_row r h))

  next_north : (r : ℕ) → r < c → T (le (angle s c (r + 1) 0) (angle s c r 0))
  unfolding row_rises
  next_north r l = of_true (le (angle s c (r + 1) 0) (angle s c r 0)) (rw (lt-ltb r c l) at (next_row r (omega arith)))

  -- offset-0 angles do not fall from a row to any other further from the centre row, on either side
  pub rows_south : (r t : ℕ) → c ≤ r → r ≤ t → t < s.grid.height → T (le (angle s c r 0) (angle s c t 0))
  rows_south r t l m h =
      let e : c + (r - c) ≡ r = omega arith in
      let d : c + (r - c + (t - r)) ≡ t = omega arith in
      let up : (i : ℕ) → i < t - c → T (le (angle s c (c + i) 0) (angle s c (c + (i + 1)) 0)) =
      λ i p. rw (← add_assoc c i 1) (next_south (c + i) (omega arith) (omega arith)) in
      rw (e, d) at (rises (λ i. angle s c (c + i) 0) (t - c) (λ i p. angle_number (c + i) (omega arith) 0 (omega arith)) up (r - c) (t - r) (omega arith))

  step_north : (i : ℕ) → i < c → T (le (angle s c (c - i) 0) (angle s c (c - (i + 1)) 0))
  step_north i l = let e : c - (i + 1) + 1 ≡ c - i = omega arith in rw e at (next_north (c - (i + 1)) (omega arith))

  number_north : (i : ℕ) → T (number (angle s c (c - i) 0))
  number_north i = angle_number (c - i) (omega arith) 0 (omega arith)

  pub rows_north : (r t : ℕ) → t ≤ r → r ≤ c → T (le (angle s c r 0) (angle s c t 0))
  rows_north r t l m =
      let e : c - (c - r) ≡ r = omega arith in
      let d : c - (c - r + (r - t)) ≡ t = omega arith in
      rw (e, d) at (rises (λ i. angle s c (c - i) 0) c (λ i p. number_north i) step_north (c - r) (r - t) (omega arith))

  -- so the rows whose offset-0 angle is within an angle are one band around the centre row
  pub rows_band : (a : Float) (r t : ℕ) → t < s.grid.height → (c ≤ r × r ≤ t) ⊎ (t ≤ r × r ≤ c) → le (angle s c t 0) a ≡ true → le (angle s c r 0) a ≡ true
  rows_band a r t h (inl p) i = carried (angle s c r 0) (angle s c t 0) a (rows_south r t p.0 p.1 h) i
  rows_band a r t h (inr p) i = carried (angle s c r 0) (angle s c t 0) a (rows_north r t p.0 p.1) i
