-- What a probe, a run and its end ask: room in two buffers, a ledger in order with room, and counts that are still small.
use Rattle.std.specs.Prelude.{ℕ, ◌+◌, ◌^◌, ◌≤◌, ◌<◌, true, List, ◌≡◌, Float}
use Rattle.grid.specs.declared.Grid.{Grid}
use Rattle.grid.specs.Map.{Map}
use Rattle.sums.specs.Sums.{total}
use Rattle.reach.specs.Requires.{Sheet}
use Rattle.candidates.specs.declared.Candidate.{Candidate}
use Rattle.tally.specs.State.{stats_weight}
use Rattle.search_rules.specs.declared.MostPopulous.{MostPopulous}
use Rattle.search_rules.specs.Requires.{TwoBuffers}
use Rattle.search_rules.specs.declared.LevelBuffers.{LevelBuffers}
use Rattle.ledger.specs.declared.Ledger.{Ledger}
use Rattle.ledger.specs.Ledger.{ledger_in_order, places_free}
use Rattle.ledger.specs.Requires.{InBounds}
use Rattle.climb.specs.Climb.{most_radii}
use Rattle.share.specs.declared.Aim.{Aim}
use Rattle.share.specs.Target.{target_of, predicate_slack_persons}
use Rattle.probes.specs.declared.RunState.{RunState}
use Rattle.probes.specs.declared.RunEnd.{RunEnd}
use Rattle.probes.specs.State.{probe_count, radii_of}

-- ---- a probe

-- a state with room for one probe more, and a centre whose people a binary64 counts exactly
pub record CanNote (s : RunState) (c : Candidate) : Type 0 where
  pub exact : c.population ≤ 2 ^ 53
  pub few : probe_count s < most_radii
  pub radii : radii_of s.ambiguity ≤ probe_count s

-- the same with a search, whose counts are added
pub record CanEvaluate (s : RunState) (f : MostPopulous) : Type 0 where
  pub note : CanNote s f.centre
  pub light : stats_weight s.stats.searched + stats_weight f.tally.stats ≤ 2 ^ 31

-- ---- a run

-- level buffers, the target and slack of a map's total, and a ledger that questions 11 and 12 let pass
pub record CanRun (m : Map) (b : LevelBuffers) (a : Aim) (l : Ledger) : Type 0 where
  pub buffers : TwoBuffers m.globe.grid b.current.now b.following.now
  pub target : a.target ≡ target_of a.target.share (total m)
  pub total_is : a.total ≡ total m
  pub slack_is : a.slack ≡ predicate_slack_persons m.globe.grid a.target.total
  pub ledger : ledger_in_order m.globe.grid l ≡ true
  pub room : places_free l most_radii ≡ true

-- ---- the end

-- a sheet that question 6 let pass, people that a binary64 counts exactly, and the end of a run
pub record CanConclude (g : Grid) (angles : List Float) (people : ℕ) (e : RunEnd) : Type 0 where
  pub sheet : Sheet g angles
  pub centre : InBounds g e.centre
  pub exact : people ≤ 2 ^ 53
