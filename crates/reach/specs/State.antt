-- A circle's rows on the way: where the offsets within an angle end, and the rows that a walk has filled in.
use Rattle.std.specs.Prelude.{ℕ, ◌+◌, ◌-◌, ◌≤◌, ◌<◌, ◌≡◌, Bool, false, true, List, ◌⊎◌, get_or, Float}
use Rattle.std.specs.Float.Ieee.{le}
use Rattle.std.specs.Float.{nan}
use Rattle.grid.specs.declared.Row.{Row}
use Rattle.grid.specs.Map.{Globe}
use Rattle.reach.specs.Reach.{reach}

-- ---- in a row

-- whether the angle at an offset of the row that starts at a place is within the limit
abbrev pub passes : List Float → ℕ → Float → ℕ → Bool
passes angles first limit k = le (get_or angles (first + k) nan) limit

-- where, from low up to high, a test stops passing: it passes just before n, unless n is low, and fails at n, unless n is high
pub record Edge (p : ℕ → Bool) (low high n : ℕ) : Type 0 where
  pub from : low ≤ n
  pub to : n ≤ high
  pub passed : low < n → p (n - 1) ≡ true
  pub failed : n < high → p n ≡ false

-- ---- from row to row

-- the values of f, none of them 0, have come into the places from start up to end, and the other places are as they were
pub record Filled (f : ℕ → ℕ) (start end : ℕ) (was is : List ℕ) : Type 0 where
  pub ordered : start ≤ end
  pub filled : (i : ℕ) → start ≤ i → i < end → get_or is i 0 ≡ f i
  pub touched : (i : ℕ) → start ≤ i → i < end → 0 < f i
  pub kept : (i : ℕ) → (i < start) ⊎ (end ≤ i) → get_or is i 0 ≡ get_or was i 0

-- the reach in a row
abbrev pub reach_in : Globe → Row → Float → ℕ → ℕ
reach_in s centre limit row = reach s centre (record { 0 = row }) limit

-- the rows from north up to the centre row are filled in, and the next one north is missed
pub record NorthWalked (s : Globe) (centre : Row) (limit : Float) (was is : List ℕ) (north : ℕ) : Type 0 where
  pub rows : Filled (reach_in s centre limit) north centre.0 was is
  pub missed : 0 < north → reach_in s centre limit (north - 1) ≡ 0

-- the rows from the centre row up to end are filled in, and the next one south is missed
pub record SouthWalked (s : Globe) (centre : Row) (limit : Float) (was is : List ℕ) (end : ℕ) : Type 0 where
  pub rows : Filled (reach_in s centre limit) centre.0 end was is
  pub on : end ≤ s.grid.height
  pub missed : end < s.grid.height → reach_in s centre limit end ≡ 0
