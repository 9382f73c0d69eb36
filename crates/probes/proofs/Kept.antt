-- What every probe keeps of a run's state and ledger: the ledger in order with room, and counts that stay small.
use Rattle.std.proofs.Common.{Option, None, Some}
use Prim.Native.Nat.{ℕ, ◌+◌, ◌≤◌, ◌<◌}
use mathlib.Core.Path.{◌≡◌, refl}
use mathlib.Core.Bool.{Bool, true, false}
use native.Mathlib.Omega.{arith}
use lib.Ieee.{Float}
use Rattle.std.proofs.Common.{Option, Some, None}
use Rattle.grid.specs.declared.Grid.{Grid}
use Rattle.grid.specs.Grid.{ceiling}
use Rattle.grid.specs.Map.{Map}
use Rattle.spacing.specs.declared.Spacing.{Spacing}
use Rattle.candidates.specs.declared.Candidate.{Candidate}
use Rattle.tally.specs.declared.SearchStats.{SearchStats}
use Rattle.tally.specs.Counts.{plus_stats}
use Rattle.tally.specs.State.{stats_weight}
use Rattle.search_rules.specs.declared.MostPopulous.{MostPopulous}
use Rattle.search_rules.specs.Search.{search}
use Rattle.ledger.specs.declared.Ledger.{Ledger}
use Rattle.ledger.specs.Ledger.{capacity, entry, get, put, ledger_in_order}
use Rattle.ledger.specs.Requires.{InBounds}
use Rattle.ledger.proofs.Order.{len_put_most, put_in_order}
use Rattle.climb.specs.Climb.{most_radii}
use Rattle.share.specs.Target.{within_slack}
use Rattle.probes.specs.declared.Ambiguity.{Ambiguity}
use Rattle.probes.specs.declared.RunState.{RunState}
use Rattle.probes.specs.declared.SmallestStats.{SmallestStats}
use Rattle.probes.specs.Smallest.{widened}
use Rattle.probes.specs.State.{reused_more, evaluated_more, ambiguity_after, noted, state_with, state_after, ledger_with, ledger_probed, probe_count, radii_of, search_weight, InOrder}

-- ---- the counts

plus_weight : (s t : SearchStats) → stats_weight (plus_stats s t) ≡ stats_weight s + stats_weight t
unfolding stats_weight plus_stats
plus_weight s t = omega arith

radii_after : (within : Bool) (a : Option Ambiguity) (km : ℕ) → radii_of (ambiguity_after within a km) ≤ radii_of a + 1
unfolding ambiguity_after widened radii_of
radii_after false a km = omega arith
radii_after true None km = omega arith
radii_after true (Some a) km = omega arith

-- ---- the state

-- what a search gives on any map of the sizes admitted
pub record SearchSound (g : Grid) (f : MostPopulous) : Type 0 where
  pub centre : InBounds g f.centre
  pub light : stats_weight f.tally.stats ≤ search_weight

module _ (g : Grid) (persons slack : Float) (l : Ledger) (s : RunState) (km : ℕ) (i : InOrder g l s) where
  noted_in_order : (c : Candidate) (l' : Ledger) → ledger_in_order g l' ≡ true → l'.len ≤ l.len + 1 → (t : SmallestStats)
      → t.radii_evaluated + t.radii_reused ≡ probe_count s + 1 → stats_weight t.searched ≤ stats_weight s.stats.searched + search_weight
      → InOrder g l' (noted persons slack s km c t)
  unfolding noted
  noted_in_order c l' o r t n w =
      record {
        ledger = o;
        room = omega (arith, i.room);
        light = omega (arith, i.light);
        radii = omega (arith, i.radii, radii_after (within_slack persons slack c) s.ambiguity km);
      }

  -- WHAT EVERY PROBE KEEPS
  pub in_order_next : (m : Map) (spacing : Spacing) → probe_count s < most_radii → km < ceiling g → SearchSound g (search m spacing km)
      → InOrder g (ledger_probed m spacing l km) (state_after m spacing persons slack s l km) × (probe_count (state_after m spacing persons slack s l km) ≡ probe_count s + 1)
  unfolding state_after state_with ledger_probed ledger_with noted reused_more evaluated_more
  in_order_next m spacing few h f = by (get l km) refl
    where
      by : (q : Option Candidate) → get l km ≡ q
          → InOrder g (ledger_with m spacing l km q) (state_with m spacing persons slack s km q) × (probe_count (state_with m spacing persons slack s km q) ≡ probe_count s + 1)
      by (Some c) e =
          let more : s.stats.radii_evaluated + (s.stats.radii_reused + 1) ≡ probe_count s + 1 = omega arith in
          (noted_in_order c l i.ledger (omega arith) (reused_more s.stats) more (omega arith), more)
      by None e =
          let c = (search m spacing km).centre in
          let room : l.len + 1 ≤ capacity = omega (arith, i.room) in
          let more : s.stats.radii_evaluated + 1 + s.stats.radii_reused ≡ probe_count s + 1 = omega arith in
          let light : stats_weight (plus_stats s.stats.searched (search m spacing km).tally.stats) ≤ stats_weight s.stats.searched + search_weight
          = omega (arith, plus_weight s.stats.searched (search m spacing km).tally.stats, f.light)
          in (
            noted_in_order c (put l (entry km c)) (put_in_order g l km c i.ledger room h f.centre) (len_put_most l (entry km c))
                (evaluated_more s.stats (search m spacing km).tally.stats) more light,
            more,
          )
