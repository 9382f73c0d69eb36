-- The map under way in the state's arrays: a change of an array is that change of the map.
use Prim.Native.Nat.{ℕ, zero, suc, ◌+◌, ◌*◌, ◌/◌, ◌≤◌, ◌<◌, min}
use mathlib.Core.Path.{◌≡◌, refl, sym, ◌∙◌, ap}
use mathlib.Core.Bool.{true}
use mathlib.Core.List.{List, [], ◌∷◌}
use native.Mathlib.Omega.{arith}
use borrow.Author.Tests.{ltb-true, ltb-false, leb-true}
use lib.Dec.{leb, ltb}
use lib.ListN.{length, take, set}
use lib.Seq.{set_out}
use Rattle.std.proofs.lemmas.List.{take-replicate}
use Rattle.floats.specs.Binary.{whole}
use Rattle.lists.proofs.Bools.{cases, and_left, and_right}
use Rattle.lists.proofs.Sums.{times_le}
use Rattle.grid.specs.declared.Grid.{Grid}
use Rattle.grid.specs.Grid.{cells, closing, angle_count}
use Rattle.grid.specs.Map.{sheet_index}
use Rattle.job_sizes.specs.Sizes.{job_columns, job_rows, job_cells, job_angles, size_taken}
use Rattle.job_world.specs.World.{empty_map, with_map, with_count, with_cosine, with_angle}
use Rattle.job_world.specs.State.{job_map, world_of, state_of, start_state, grid_state, count_state, cosine_state, angle_state, ledger_state, StatesSeen}

module _ {A : Type 0} where
  -- a place beyond the front is beyond the front of the changed list
  take_set : (n : ℕ) (l : List A) (i : ℕ) (a : A) → take n (set l i a) ≡ set (take n l) i a
  take_set zero l i a = refl
  take_set (suc n) [] i a = refl
  take_set (suc n) (x ∷ l) zero a = refl
  take_set (suc n) (x ∷ l) (suc i) a = ap (λ (t : List A). x ∷ t) (take_set n l i a)

  pub set_min : (l : List A) (k i : ℕ) (a : A) → length l ≡ k → set l (min i k) a ≡ set l i a
  set_min l k i a e =
      cases (ltb i k) (λ t. let h : i < k = ltb-true i k t in ap (λ (j : ℕ). set l j a) (omega arith))
      (λ t. let h : k ≤ i = ltb-false i k t in set_out l (min i k) a (omega arith) ∙ sym (set_out l i a (omega arith)))

-- ---- a map with nothing set

module _ (g : Grid) (taken : size_taken g ≡ true) where
  width_taken : g.width ≤ job_columns
  unfolding size_taken
  width_taken = leb-true g.width job_columns (and_left (leb g.width job_columns) (leb g.height job_rows) taken)

  height_taken : g.height ≤ job_rows
  unfolding size_taken
  height_taken = leb-true g.height job_rows (and_right (leb g.width job_columns) (leb g.height job_rows) taken)

  cells_taken : cells g ≤ job_cells
  unfolding cells
  cells_taken = omega (arith, times_le g.width g.height job_columns job_rows width_taken height_taken)

  angles_taken : angle_count g ≤ job_angles
  unfolding closing
  angles_taken =
      let pairs : g.height * g.height ≤ job_rows * job_rows = omega (arith, times_le g.height g.height job_rows job_rows height_taken height_taken) in
      let offsets : g.width / 2 + 1 ≤ job_columns / 2 + 1 = omega (arith, width_taken) in
      omega (arith, times_le (g.height * g.height) (g.width / 2 + 1) (job_rows * job_rows) (job_columns / 2 + 1) pairs offsets)

-- ---- what is seen of a state: a change of one place is that change of the map

pub states_seen : StatesSeen
unfolding state_of world_of job_map empty_map with_map with_count with_cosine with_angle start_state grid_state count_state cosine_state angle_state ledger_state
states_seen =
    record {
      start = refl;
      grid = λ l g taken.
          rw (
            take-replicate {X = ℕ} (cells g) job_cells 0 (cells_taken g taken),
            take-replicate (angle_count g) job_angles (whole 0) (angles_taken g taken),
            take-replicate g.height job_rows (whole 1) (height_taken g taken),
          );
      count = λ s x n. rw (take_set (cells s.grid) s.counts (x.row.0 * s.grid.width + x.col.0) n);
      cosine = λ s row x. rw (take_set s.grid.height s.cosines row.0 x);
      angle = λ s centre row offset x. rw (take_set (angle_count s.grid) s.angles (sheet_index s.grid centre row offset) x);
      ledger = λ s l. refl;
    }
