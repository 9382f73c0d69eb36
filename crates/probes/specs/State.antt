-- How the code sees a run: what of the probes so far the answer needs, what a probe adds to it and keeps of it, and the answer at the end.
use Rattle.std.specs.Prelude.{ℕ, ◌+◌, ◌*◌, ◌^◌, ◌≤◌, Bool, true, false, cond, List, ◌≡◌, Float, Option, None, Some}
use Rattle.floats.specs.Binary.{whole}
use Rattle.grid.specs.Map.{Map, Globe}
use Rattle.grid.specs.declared.Grid.{Grid}
use Rattle.grid.specs.Grid.{ceiling}
use Rattle.sums.specs.Sums.{total}
use Rattle.circle_cells.specs.Circle.{covers_whole_grid}
use Rattle.spacing.specs.declared.Spacing.{Spacing}
use Rattle.candidates.specs.declared.Candidate.{Candidate}
use Rattle.candidates.specs.Candidate.{north_west}
use Rattle.tally.specs.declared.SearchStats.{SearchStats}
use Rattle.tally.specs.Counts.{no_stats, plus_stats}
use Rattle.tally.specs.State.{stats_weight}
use Rattle.search_rules.specs.Search.{search}
use Rattle.ledger.specs.declared.Ledger.{Ledger}
use Rattle.ledger.specs.Ledger.{entry, get, put, capacity, ledger_in_order}
use Rattle.climb.specs.Climb.{most_radii, Ended, all_short, reached_at}
use Rattle.share.specs.Target.{reaches, share_of, predicate_slack_persons, within_slack}
use Rattle.share.specs.declared.Target.{Target}
use Rattle.probes.specs.declared.Ambiguity.{Ambiguity}
use Rattle.probes.specs.declared.Witness.{Witness}
use Rattle.probes.specs.declared.Smallest.{Smallest}
use Rattle.probes.specs.declared.RunState.{RunState}
use Rattle.probes.specs.declared.SmallestStats.{SmallestStats}
use Rattle.probes.specs.declared.RunEnd.{RunEnd}
use Rattle.probes.specs.Probes.{target_persons, Probe, Run, smallest_run, evaluated_in, reused_in, stats_of}
use Rattle.probes.specs.Smallest.{short_below_of, widened, ambiguity, witness}

-- ---- the state before and after a probe

-- radii evaluated and reused, and the counts of the searches
abbrev pub counts : ℕ → ℕ → SearchStats → SmallestStats
counts evaluated reused searched = record { radii_evaluated = evaluated; radii_reused = reused; searched = searched }

-- before the first probe; what is found when all fall short is the cell (0, 0) with the total
unfoldable pub run_begun : ℕ → RunState
run_begun people =
    record {
      reached = false;
      found = north_west people;
      short = None;
      ambiguity = None;
      stats = counts 0 0 no_stats;
    }

-- one radius more that the ledger held
unfoldable pub reused_more : SmallestStats → SmallestStats
reused_more t = counts t.radii_evaluated (t.radii_reused + 1) t.searched

-- one radius more that was searched
unfoldable pub evaluated_more : SmallestStats → SearchStats → SmallestStats
evaluated_more t s = counts (t.radii_evaluated + 1) t.radii_reused (plus_stats t.searched s)

-- a probe that fell short is the witness, until another does
unfoldable pub short_after : Bool → Option Witness → ℕ → ℕ → Option Witness
short_after reached short km population = cond reached short (Some (witness km population))

-- a probe within the slack widens the ambiguity
unfoldable pub ambiguity_after : Bool → Option Ambiguity → ℕ → Option Ambiguity
ambiguity_after within a km = let wider = widened a km in cond within wider a

-- a centre was found at a kilometre; the counts are those after it
unfoldable pub noted : Float → Float → RunState → ℕ → Candidate → SmallestStats → RunState
noted persons slack s km c t =
    record {
      reached = reaches persons c;
      found = cond (reaches persons c) c s.found;
      short = short_after (reaches persons c) s.short km c.population;
      ambiguity = ambiguity_after (within_slack persons slack c) s.ambiguity km;
      stats = t;
    }

-- after a probe, by the ledger's entry or else by a search
unfoldable pub state_with : Map → Spacing → Float → Float → RunState → ℕ → Option Candidate → RunState
state_with m spacing persons slack s km (Some c) = noted persons slack s km c (reused_more s.stats)
state_with m spacing persons slack s km None =
    let f = search m spacing km in
    noted persons slack s km f.centre (evaluated_more s.stats f.tally.stats)

-- after a probe at a kilometre
unfoldable pub state_after : Map → Spacing → Float → Float → RunState → Ledger → ℕ → RunState
state_after m spacing persons slack s l km = state_with m spacing persons slack s km (get l km)

-- the ledger beside it: an entry leaves it, a search is put
unfoldable pub ledger_with : Map → Spacing → Ledger → ℕ → Option Candidate → Ledger
ledger_with m spacing l km (Some c) = l
ledger_with m spacing l km None = put l (entry km (search m spacing km).centre)

-- the ledger after a probe at a kilometre
unfoldable pub ledger_probed : Map → Spacing → Ledger → ℕ → Ledger
ledger_probed m spacing l km = ledger_with m spacing l km (get l km)

-- ---- what keeps the counts small and the ledger in order

-- the probes so far
abbrev pub probe_count : RunState → ℕ
probe_count s = s.stats.radii_evaluated + s.stats.radii_reused

-- how many radii an ambiguity counts
unfoldable pub radii_of : Option Ambiguity → ℕ
radii_of None = 0
radii_of (Some a) = a.radii

-- the most that the counts of one search come to
abbrev pub search_weight : ℕ
search_weight = 2 ^ 25

-- what every probe keeps
pub record InOrder (g : Grid) (l : Ledger) (s : RunState) : Type 0 where
  pub ledger : ledger_in_order g l ≡ true
  pub room : l.len + most_radii ≤ capacity + probe_count s
  pub light : stats_weight s.stats.searched ≤ probe_count s * search_weight
  pub radii : radii_of s.ambiguity ≤ probe_count s

-- ---- the end

-- the end at a radius with what was found there, from the probes
unfoldable pub end_at : Map → Float → List Probe → ℕ → Bool → Candidate → RunEnd
end_at m share trace km reached centre =
    let persons = target_persons m share in
    record {
      radius_km = record { 0 = km };
      reached = reached;
      centre = centre;
      short_below = short_below_of persons km trace;
      ambiguity = ambiguity persons (predicate_slack_persons m.globe.grid (whole (total m))) trace;
      stats = counts (evaluated_in trace) (reused_in trace) (stats_of trace);
    }

-- a run's end, and the ledger after it
pub record Ran : Type 0 where
  pub end : RunEnd
  pub ledger : Ledger

-- what a run has given: its end, and the ledger as it is then
abbrev pub ran_with : RunEnd → Ledger → Ran
ran_with e l = record { end = e; ledger = l }

-- where the climb and the bisection have ended; all short: the ceiling, cell (0, 0) and the total
unfoldable pub ran_to : Map → Float → Ended Run Candidate → Ran
ran_to m share (all_short r) = record { end = end_at m share r.trace (ceiling m.globe.grid) false (north_west (total m)); ledger = r.ledger }
ran_to m share (reached_at r km c) = record { end = end_at m share r.trace km true c; ledger = r.ledger }

-- the run from a ledger: its end, and the ledger after it
unfoldable pub ran : Map → Spacing → Float → Ledger → Ran
ran m spacing share l = ran_to m share (smallest_run m spacing share l)

-- whether the circle at the end is the whole grid: at the ceiling, where all radii fell short, every circle is
unfoldable pub end_covers : Globe → RunEnd → Bool
end_covers globe e =
    let covers = covers_whole_grid globe (whole e.radius_km.0) e.centre.row in
    cond e.reached covers true

-- the answer of a run that has ended
unfoldable pub answer_by : Globe → Target → Float → ℕ → RunEnd → Smallest
answer_by globe t slack people e =
    record {
      radius_km = e.radius_km;
      centre = e.centre;
      target = t;
      share_achieved = share_of e.centre.population people;
      short_below = e.short_below;
      covers_whole_grid = end_covers globe e;
      predicate_slack_persons = slack;
      ambiguity = e.ambiguity;
      tolerance_persons = whole 0;
      stats = e.stats;
    }
