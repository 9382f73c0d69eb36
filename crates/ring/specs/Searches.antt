-- The marked facts of SPECIFICATION, section 9, about searches of its ring of four cells.
use Rattle.std.specs.Prelude.{ℕ, ◌≡◌, replicate}
use Rattle.floats.specs.Binary.{whole}
use Rattle.grid.specs.Answer.{first_no, Answer, answered}
use Rattle.grid.specs.Grid.{cell}
use Rattle.grid.specs.Questions.{map_questions}
use Rattle.spacing.specs.declared.Spacing.TheVariants.{Cells}
use Rattle.spacing.specs.Spacing.{initial_spacing}
use Rattle.candidates.specs.Candidate.{north_west, candidate_of}
use Rattle.tally.specs.Counts.{no_tally, stats, tally}
use Rattle.search_rules.specs.declared.MostPopulous.{MostPopulous}
use Rattle.search_rules.specs.Search.{most_populous}
use Rattle.most_populous.specs.Call.{Buffers, buffers, search_call}
use Rattle.ring.specs.Ring.{ring_globe, ring}

-- lent buffers of just the sizes that question 7 asks for
unfoldable pub ring_buffers : Buffers
ring_buffers = buffers (replicate 10 0) (replicate 4 0) (replicate 4 0)

-- a search of the ring with spacing 4
unfoldable pub ring_search : ℕ → Answer MostPopulous
ring_search km = (search_call ring (Cells 4) km ring_buffers).answer

-- what is marked of searches of the ring
pub record RingSearches : Type 0 where
  pub accepted : first_no (map_questions ring) ≡ 0
  -- the line `most`: 10,008 km, cell (0, 3), 15 people, 3 levels, 7 examined, 2 pruned, 5 evaluated, 17 kernels, 2 cells pruned, 2 settled
  pub most_line_lem : ring_search 10008 ≡ answered (most_populous 10008 (candidate_of (cell 0 3) 15) (tally (stats 3 7 2 5 17) 2 2))
  -- at 10,007 km column 2 with 7 people
  pub at_10007 : ring_search 10007 ≡ answered (most_populous 10007 (candidate_of (cell 0 2) 7) (tally (stats 3 7 3 4 17) 3 1))
  -- at 0 km cell (0, 0) with nobody, and nothing counted
  pub at_0 : ring_search 0 ≡ answered (most_populous 0 (north_west 0) no_tally)
  -- at 20,016 km column 0 with all 16 people, no block pruned
  pub at_20016 : ring_search 20016 ≡ answered (most_populous 20016 (candidate_of (cell 0 0) 16) (tally (stats 3 7 0 7 17) 0 4))
  -- automatic spacing
  pub spacing_10007 : initial_spacing ring_globe.grid (whole 10007) ≡ 3
  pub spacing_10008 : initial_spacing ring_globe.grid (whole 10008) ≡ 1
  pub spacing_20016 : initial_spacing ring_globe.grid (whole 20016) ≡ 4

-- opens all of the above, for facts that are computed
unfoldable pub open_ring_searches : Unit {0}
unfolding ring_buffers ring_search
open_ring_searches = tt
