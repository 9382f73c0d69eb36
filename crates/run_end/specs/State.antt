-- How the loop sees the end of its run.
use Rattle.climb.specs.declared.Bracket.{Bracket}
use Rattle.probes.specs.declared.RunState.{RunState}
use Rattle.probes.specs.declared.RunEnd.{RunEnd}

-- the end of a run, from a bracket that is closed and the state beside it
unfoldable pub end_from : Bracket → RunState → RunEnd
end_from c s =
    record {
      radius_km = c.low;
      reached = c.reached;
      centre = s.found;
      short_below = s.short;
      ambiguity = s.ambiguity;
      stats = s.stats;
    }
