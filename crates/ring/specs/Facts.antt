-- The nine marked facts about the ring of four cells: SPECIFICATION, section 9.4.
use Rattle.std.specs.Prelude.{List, ◌≡◌, Float, Option, None, Some}
use Rattle.floats.specs.Binary.{whole}
use Rattle.grid.specs.Map.{Map}
use Rattle.grid.specs.Answer.{Answer, answered, refused}
use Rattle.grid.specs.Grid.{cell}
use Rattle.spacing.specs.declared.Spacing.TheVariants.{Cells}
use Rattle.candidates.specs.Candidate.{candidate_of}
use Rattle.ledger.specs.declared.Entry.{Entry}
use Rattle.ledger.specs.Ledger.{no_entries}
use Rattle.probes.specs.declared.Smallest.{Smallest}
use Rattle.probes.specs.declared.Ambiguity.{Ambiguity}
use Rattle.smallest_rules.specs.Call.{smallest_call}
use Rattle.ring.specs.Ring.{ring, empty_ring}
use Rattle.ring.specs.Searches.{ring_buffers, RingSearches}
use Rattle.ring.specs.Radii.{LeastValues, values_of, half, short_at}
use Rattle.probes.specs.Smallest.{spread}

-- a smallest-radius call with spacing 4 from a fresh ledger, whose places may hold anything
unfoldable pub ring_smallest : Map → Float → List Entry → Answer Smallest
ring_smallest m share places = (smallest_call m (Cells 4) share (no_entries places) ring_buffers).answer

-- the values of the line `least`, of an answer
unfoldable pub least_values : Answer Smallest → Answer LeastValues
least_values (refused n) = refused n
least_values (answered s) = answered (values_of s)

-- the ambiguity of an answer
unfoldable pub ambiguity_of : Answer Smallest → Answer (Option Ambiguity)
ambiguity_of (refused n) = refused n
ambiguity_of (answered s) = answered s.ambiguity

-- the marked facts, by their numbers
pub record MarkedFacts : Type 0 where
  -- (1) the line `most`, (2) to (4) at 10,007, 0 and 20,016 km, (5) to (7) automatic spacing
  pub searches : RingSearches
  -- (1) the line `least`
  pub least_line_lem : (places : List Entry)
      → least_values (ring_smallest ring half places)
      ≡ answered (record { km = 10008; centre = candidate_of (cell 0 3) 15; short = short_at 10007 7; evaluated = 28; reused = 0 })
  -- (8) share 1: the ceiling, short at 20,015 with 15 people, 16 evaluated
  pub share_1 : (places : List Entry)
      → least_values (ring_smallest ring (whole 1) places)
      ≡ answered (record { km = 20016; centre = candidate_of (cell 0 0) 16; short = short_at 20015 15; evaluated = 16; reused = 0 })
  -- (9) share 0.5 of nobody: 0 km without a witness, after 2 searches; both radii, 0 and 1, are within the slack
  pub nobody_line : (places : List Entry)
      → least_values (ring_smallest empty_ring half places)
      ≡ answered (record { km = 0; centre = candidate_of (cell 0 0) 0; short = None; evaluated = 2; reused = 0 })
  pub nobody_ambiguity : (places : List Entry)
      → ambiguity_of (ring_smallest empty_ring half places) ≡ answered (Some (spread 0 1 2))

-- opens all of the above, for facts that are computed
unfoldable pub open_ring_calls : Unit {0}
unfolding ring_smallest least_values ambiguity_of
open_ring_calls = tt
