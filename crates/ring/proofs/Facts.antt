-- The nine marked facts: the ring's questions are all answered, so each call gives what is computed of its search or its run.
use mathlib.Core.Path.{ap}
use Rattle.grid.specs.Answer.{answered}
use Rattle.ledger.specs.Ledger.{open_ledgers}
use Rattle.share.specs.Target.{open_shares}
use Rattle.smallest_rules.specs.Call.{open_smallest_calls}
use Rattle.ring.specs.Radii.{values_of}
use Rattle.ring.specs.Facts.{MarkedFacts, open_ring_calls}
use Rattle.ring.proofs.Searches.{ring_call_open, ring_searches}
use Rattle.ring.proofs.Radii.{run_open, ring_radii}

-- all that a smallest-radius call is made of beside a search, for facts that are computed
unfoldable pub smallest_open : Unit {0}
unfolding run_open values_of open_smallest_calls open_ring_calls
smallest_open = tt

pub marked_facts : MarkedFacts
unfolding ring_call_open open_ledgers open_shares open_smallest_calls open_ring_calls
marked_facts =
    record {
      searches = ring_searches;
      least_line_lem = λ places. ap answered (ring_radii.share_half places);
      share_1 = λ places. ap answered (ring_radii.share_1 places);
      nobody_line = λ places. ap answered (ring_radii.nobody places);
      nobody_ambiguity = λ places. ap answered (ring_radii.nobody_ambiguity places);
    }
