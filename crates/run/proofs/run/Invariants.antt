-- Invariant: what is left from the bracket is the whole run, and state and ledger track the probes made; each probe is one of the most radii;
-- the level buffers are as long as at the start.
use Prim.Native.Nat.{◌-◌}
use Rattle.levels.specs.State.{summed_lent}
use Rattle.search_rules.specs.State.{SameLengths}
use Rattle.climb.specs.Climb.{most_radii}
use Rattle.probes.specs.State.{probe_count}
use Rattle.run.proofs.RunLoop.{Running}
use Rattle.run.proofs.run.Given as goal

abbrev pub invariant-loop-spacing : goal.invariant-loop-spacing
invariant-loop-spacing l =
    Running (summed_lent l.map) l.spacing l.aim.target.persons l.aim.slack l.aim.total l.initial.ledger l.ledger l.state l.bracket
    × SameLengths l.initial.buffers l.buffers

abbrev pub decreases-loop-spacing : goal.decreases-loop-spacing
decreases-loop-spacing l = most_radii - probe_count l.state
