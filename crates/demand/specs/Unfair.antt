-- Fairness matters: an accepted map whose sheet is not fair, and a search on it that misses the best circle.
use Rattle.std.specs.Prelude.{◌≡◌, false, [], ◌∷◌, negsuc}
use Rattle.std.specs.Float.{fin}
use Rattle.floats.specs.Binary.{whole}
use Rattle.grid.specs.Map.{Map}
use Rattle.grid.specs.Answer.{answered}
use Rattle.grid.specs.Grid.{cell}
use Rattle.circle_cells.specs.Circle.{population}
use Rattle.spacing.specs.declared.Spacing.TheVariants.{Cells}
use Rattle.bounds.specs.Fair.{Fair}
use Rattle.candidates.specs.Candidate.{candidate_of}
use Rattle.tally.specs.Counts.{stats, tally}
use Rattle.most_populous.specs.Call.{search_call}
use Rattle.search_rules.specs.Search.{most_populous}
use Rattle.ring.specs.Ring.{ring_globe}
use Rattle.ring.specs.Searches.{ring_buffers}
use Rattle.demand.specs.Demand3.{Accepted, Best}

-- the ring of four cells with the cosine 2 ^ -30, as if its one row stood at a pole: wide circles are hardly wider
unfoldable pub thin_ring : Map
unfolding ring_globe
thin_ring =
    record {
      globe = record { grid = ring_globe.grid; angles = ring_globe.angles; cosines = fin false 1 (negsuc 29) ∷ [] };
      counts = 5 ∷ 3 ∷ 2 ∷ 7 ∷ [];
    }

-- at 1 km the search names column 0 with 5 people, and the best circle is that of column 3 with 7: its block was pruned by a bound of 2
pub record Missed : Type 0 where
  pub accepted : Accepted thin_ring
  pub unfair : Fair thin_ring.globe → ⊥
  pub named : (search_call thin_ring (Cells 4) 1 ring_buffers).answer ≡ answered (most_populous 1 (candidate_of (cell 0 0) 5) (tally (stats 3 5 2 3 13) 3 1))
  pub named_people : population thin_ring (whole 1) (cell 0 0) ≡ 5
  pub best : Best thin_ring 1 (cell 0 3)
  pub best_people : population thin_ring (whole 1) (cell 0 3) ≡ 7
