-- The marked facts about searches of the ring, computed from the definitions.
use mathlib.Core.Path.{refl}
use Rattle.most_populous.specs.Call.{open_search_calls}
use Rattle.ring.specs.Searches.{RingSearches, open_ring_searches}
use Rattle.ring.proofs.Ring.{ring_open}

-- all that a search call on the ring is made of, for facts that are computed
unfoldable pub ring_call_open : Unit {0}
unfolding ring_open open_search_calls open_ring_searches
ring_call_open = tt

pub ring_searches : RingSearches
unfolding ring_call_open
ring_searches =
    record {
      accepted = refl;
      most_line_lem = refl;
      at_10007 = refl;
      at_0 = refl;
      at_20016 = refl;
      spacing_10007 = refl;
      spacing_10008 = refl;
      spacing_20016 = refl;
    }
