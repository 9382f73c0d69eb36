-- The map's part of each array: its front, of as many places as the grid has.
use Rattle.std.proofs.Common.{ℕ, ◌≡◌, ◌≤◌, ◌<◌, List, length, take, min, sym, ◌∙◌, ap, arith}
use borrow.Author.Tests.{ltb-true, ltb-false}
use lib.Dec.{ltb}
use lib.Seq.{take_all, length-take-le}
use mir.Val.{Val}
use denote.Laws.{Is}
use Rattle.lists.proofs.Bools.{cases}
use Rattle.grid.specs.Map.{lent_map}
use Rattle.job_sizes.specs.Sizes.{job_rows, job_cells, job_angles, places_of}
use Rattle.job_sizes.specs.declared.Places.{Places}
use Rattle.job_sizes.proofs.Held.{counts_taken, angles_taken, cosines_taken}
use Rattle.job_world.specs.declared.JobState.{JobState}
use Rattle.job_world.specs.State.{job_map}
use Rattle.job_world.specs.contracts.JobState as S
use Rattle.job_world.proofs.Whole.{counts_whole, angles_whole, cosines_whole}

-- the front of an array, of as many places as the map takes
front_same : {A : Type 0} (l : List A) (most wanted n : ℕ) → length l ≡ most → n ≡ min wanted most → take n l ≡ take wanted l
front_same l most wanted n sized is =
    cases (ltb wanted most) (λ t. let h : wanted < most = ltb-true wanted most t in let e : n ≡ wanted = omega arith in ap (λ (k : ℕ). take k l) e)
    (λ t. let h : most ≤ wanted = ltb-false wanted most t in take_all n l (omega arith) ∙ sym (take_all wanted l (omega arith)))

-- the map, lent by its fronts
pub fronts : (s : JobState) → length s.counts ≡ job_cells → length s.angles ≡ job_angles → length s.cosines ≡ job_rows → (p : Places) → p ≡ places_of s.grid
    → lent_map s.grid (take p.counts s.counts) (take p.angles s.angles) (take p.cosines s.cosines) ≡ job_map s
unfolding job_map
fronts s counts angles cosines p e =
    rw (
      front_same s.counts job_cells _ p.counts counts (counts_taken s.grid p e),
      front_same s.angles job_angles _ p.angles angles (angles_taken s.grid p e),
      front_same s.cosines job_rows _ p.cosines cosines (cosines_taken s.grid p e),
    )

-- ---- all that is known of the fronts of a state

module _ {A : Type 0} (l : List A) (most wanted n : ℕ) (sized : length l ≡ most) (is : n ≡ min wanted most) where
  front_fits : n ≤ length l
  front_fits = omega arith

  front_counted : n ≡ length (take n l)
  front_counted = sym (length-take-le n l front_fits)

-- the fronts are within the arrays, as long as they say, and together the map
pub record Fronts (s : JobState) (p : Places) : Type 0 where
  pub counts : p.counts ≤ length s.counts
  pub angles : p.angles ≤ length s.angles
  pub cosines : p.cosines ≤ length s.cosines
  pub counts_long : p.counts ≡ length (take p.counts s.counts)
  pub angles_long : p.angles ≡ length (take p.angles s.angles)
  pub cosines_long : p.cosines ≡ length (take p.cosines s.cosines)
  pub map : lent_map s.grid (take p.counts s.counts) (take p.angles s.angles) (take p.cosines s.cosines) ≡ job_map s

pub fronts_whole : (s : JobState) (vs : List Val) → Is S.the_row s vs → (p : Places) → p ≡ places_of s.grid → Fronts s p
fronts_whole s vs is p e =
    let cs = counts_taken s.grid p e in
    let bs = angles_taken s.grid p e in
    let ks = cosines_taken s.grid p e in
    let counts = counts_whole s vs is in
    let angles = angles_whole s vs is in
    let cosines = cosines_whole s vs is in
    record {
      counts = front_fits s.counts job_cells _ p.counts counts cs;
      angles = front_fits s.angles job_angles _ p.angles angles bs;
      cosines = front_fits s.cosines job_rows _ p.cosines cosines ks;
      counts_long = front_counted s.counts job_cells _ p.counts counts cs;
      angles_long = front_counted s.angles job_angles _ p.angles angles bs;
      cosines_long = front_counted s.cosines job_rows _ p.cosines cosines ks;
      map = fronts s counts angles cosines p e;
    }
