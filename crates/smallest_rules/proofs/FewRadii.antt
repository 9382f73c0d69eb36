-- At most 28 radii an answered call: its counts are those of its run's probes, and the climb and the bisection have no more, whatever a probe finds.
use Prim.Native.Nat.{◌+◌, ◌≤◌}
use mathlib.Core.Path.{◌≡◌, sym}
use native.Mathlib.Omega.{arith}
use lib.Ieee.{Float}
use Rattle.grid.specs.Map.{Map}
use Rattle.grid.proofs.Answers.{decided_yes}
use Rattle.spacing.specs.declared.Spacing.{Spacing}
use Rattle.candidates.specs.declared.Candidate.{Candidate}
use Rattle.ledger.specs.declared.Ledger.{Ledger}
use Rattle.climb.specs.Climb.{most_radii, Ended, all_short, reached_at}
use Rattle.probes.specs.Probes.{Run, smallest_run}
use Rattle.probes.specs.Smallest.{smallest_at, concluded, smallest}
use Rattle.probes.proofs.States.{counted_once}
use Rattle.probes.proofs.Traces.{walked_few, RunEnds, smallest_ends}
use Rattle.smallest_rules.specs.Call.{smallest_call}
use Rattle.smallest_rules.specs.FewRadii.{FewRadii}

concluded_few : (m : Map) (spacing : Spacing) (share : Float) (l : Ledger) (e : Ended Run Candidate) → RunEnds m spacing l share e
    → (concluded m share e).answer.stats.radii_evaluated + (concluded m share e).answer.stats.radii_reused ≤ most_radii
unfolding concluded smallest_at
concluded_few m spacing share l (all_short r) e = omega (arith, counted_once r.trace, walked_few m spacing l r e.trail e.walked)
concluded_few m spacing share l (reached_at r km c) e = omega (arith, counted_once r.trace, walked_few m spacing l r e.trail e.walked)

-- AT MOST 28 RADII
pub few_radii : FewRadii
unfolding smallest_call smallest
few_radii m spacing share l lent a e =
    let is : (smallest m spacing share l).answer ≡ a = (decided_yes _ _ a (sym e)).1 in
    rw (← is) (concluded_few m spacing share l (smallest_run m spacing share l) (smallest_ends m spacing l share))
