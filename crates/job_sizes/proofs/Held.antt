-- Places in arrays of fixed length: how many angles a grid has, and the place of an angle, at most the length of the array.
use Prim.Native.Nat.{ℕ, ◌+◌, ◌*◌, ◌≤◌, ◌<◌, min}
use mathlib.Core.Path.{◌≡◌, ap}
use native.Mathlib.Omega.{arith}
use Rattle.lists.proofs.Sums.{times_le}
use Rattle.grid.specs.declared.Grid.{Grid}
use Rattle.grid.specs.declared.Row.{Row}
use Rattle.grid.specs.Grid.{cells, closing, angle_count}
use Rattle.grid.specs.Map.{sheet_index}
use Rattle.job_sizes.specs.declared.Places.{Places}
use Rattle.job_sizes.specs.Sizes.{job_rows, job_cells, job_angles, places_of}

-- ---- a number, at most the length of an array

module _ (n m most : ℕ) (e : n ≡ m) where
  pub held_within : n < most → n ≡ min m most
  held_within h = omega arith

  pub held_beyond : most ≤ n → most ≡ min m most
  held_beyond h = omega arith

-- ---- how many places a map takes

module _ (g : Grid) (p : Places) (e : p ≡ places_of g) where
  pub counts_taken : p.counts ≡ min (cells g) job_cells
  unfolding places_of
  counts_taken = ap (λ (q : Places). q.counts) e

  pub angles_taken : p.angles ≡ min (angle_count g) job_angles
  unfolding places_of
  angles_taken = ap (λ (q : Places). q.angles) e

  pub cosines_taken : p.cosines ≡ min g.height job_rows
  unfolding places_of
  cosines_taken = ap (λ (q : Places). q.cosines) e

-- ---- how many angles

module _ (g : Grid) where
  pub pairs_beyond : job_angles ≤ g.height * g.height → job_angles ≡ min (angle_count g) job_angles
  pairs_beyond h = large (g.height * g.height) (closing g) h
    where
      large : (p q : ℕ) → job_angles ≤ p → job_angles ≡ min (p * (q + 1)) job_angles
      large p q h = omega (arith, times_le job_angles 1 p (q + 1) h (omega arith))

  module _ (q : ℕ) (e : q ≡ closing g) where
    is_count : g.height * g.height * (q + 1) ≡ angle_count g
    is_count = rw e

    pub angles_within : g.height * g.height * (q + 1) < job_angles → g.height * g.height * (q + 1) ≡ min (angle_count g) job_angles
    angles_within h = held_within (g.height * g.height * (q + 1)) (angle_count g) job_angles is_count h

    pub angles_beyond : job_angles ≤ g.height * g.height * (q + 1) → job_angles ≡ min (angle_count g) job_angles
    angles_beyond h = held_beyond (g.height * g.height * (q + 1)) (angle_count g) job_angles is_count h

-- ---- the place of an angle, at most job_angles

pub beyond : (p q k : ℕ) → job_angles ≤ p → job_angles ≡ min (p * (q + 1) + k) job_angles
beyond p q k h = omega (arith, times_le 1 (q + 1) 1 (q + 1) (omega arith) (omega arith), times_le job_angles 1 p (q + 1) h (omega arith))

module _ (g : Grid) (centre row : Row) (offset : ℕ) where
  pub pair_beyond : job_angles ≤ centre.0 * g.height + row.0 → job_angles ≡ min (sheet_index g centre row offset) job_angles
  unfolding sheet_index
  pair_beyond h = beyond (centre.0 * g.height + row.0) (closing g) offset h

  module _ (q : ℕ) (e : q ≡ closing g) where
    unfoldable place : ℕ
    place = (centre.0 * g.height + row.0) * (q + 1) + offset

    is_place : place ≡ sheet_index g centre row offset
    unfolding sheet_index place
    is_place = rw e

    pub angle_within : (centre.0 * g.height + row.0) * (q + 1) + offset < job_angles
        → (centre.0 * g.height + row.0) * (q + 1) + offset ≡ min (sheet_index g centre row offset) job_angles
    unfolding place
    angle_within h = held_within place (sheet_index g centre row offset) job_angles is_place h

    pub angle_beyond : job_angles ≤ (centre.0 * g.height + row.0) * (q + 1) + offset → job_angles ≡ min (sheet_index g centre row offset) job_angles
    unfolding place
    angle_beyond h = held_beyond place (sheet_index g centre row offset) job_angles is_place h
