-- The probes of a smallest-radius call: each taken from the ledger or searched and put, in a trace that every count is read from.
use Rattle.std.specs.Prelude.{ℕ, ◌+◌, Bool, true, false, not, List, [], ◌∷◌, Float, Option, Some, None}
use Rattle.lists.specs.Counted.{one}
use Rattle.grid.specs.Map.{Map}
use Rattle.sums.specs.Sums.{total}
use Rattle.spacing.specs.declared.Spacing.{Spacing}
use Rattle.candidates.specs.declared.Candidate.{Candidate}
use Rattle.candidates.specs.Candidate.{north_west}
use Rattle.tally.specs.declared.SearchStats.{SearchStats}
use Rattle.tally.specs.Counts.{no_stats, plus_stats}
use Rattle.search_rules.specs.declared.MostPopulous.{MostPopulous}
use Rattle.search_rules.specs.Search.{search}
use Rattle.ledger.specs.declared.Ledger.{Ledger}
use Rattle.ledger.specs.Ledger.{entry, get, put}
use Rattle.climb.specs.Climb.{Ended, last_radius, climb, climb_radii}
use Rattle.share.specs.Target.{target_of, reaches}

-- ---- the target

-- share × total of a map
unfoldable pub target_persons : Map → Float → Float
target_persons m share = (target_of share (total m)).persons

-- ---- a probe

-- a kilometre, the best circle there, whether the ledger held it, and the counts of its search
pub record Probe : Type 0 where
  pub km : ℕ
  pub centre : Candidate
  pub reused : Bool
  pub stats : SearchStats

-- a run: its probes, the latest first, and the ledger
pub record Run : Type 0 where
  pub trace : List Probe
  pub ledger : Ledger

-- one probe more, by the ledger's entry, with no search to count
unfoldable pub reused_at : Run → ℕ → Candidate → Run
reused_at r km c = record { trace = record { km = km; centre = c; reused = true; stats = no_stats } ∷ r.trace; ledger = r.ledger }

-- one probe more, by a search, which is put
unfoldable pub searched_at : Run → ℕ → MostPopulous → Run
searched_at r km f =
    record {
      trace = record { km = km; centre = f.centre; reused = false; stats = f.tally.stats } ∷ r.trace;
      ledger = put r.ledger (entry km f.centre);
    }

-- the ledger's entry, or else a search
unfoldable pub probed_with : Map → Spacing → Run → ℕ → Option Candidate → Run
probed_with m spacing r km (Some c) = reused_at r km c
probed_with m spacing r km None = searched_at r km (search m spacing km)

-- one probe more at a kilometre
unfoldable pub probed : Map → Spacing → Run → ℕ → Run
probed m spacing r km = probed_with m spacing r km (get r.ledger km)

-- what the latest probe found
unfoldable pub latest_of : List Probe → Candidate
latest_of [] = north_west 0
latest_of (p ∷ ps) = p.centre

-- what the latest probe of a run found
unfoldable pub latest : Run → Candidate
latest r = latest_of r.trace

-- ---- the run

-- climb and bisection from a ledger, up to the last radius of the grid
unfoldable pub smallest_run : Map → Spacing → Float → Ledger → Ended Run Candidate
smallest_run m spacing share l =
    climb (probed m spacing) latest (reaches (target_persons m share)) (record { trace = []; ledger = l }) 0
    (climb_radii (last_radius m.globe.grid))

-- ---- what the trace says

-- how many probes a test holds of
unfoldable pub how_many : (Probe → Bool) → List Probe → ℕ
how_many p [] = 0
how_many p (x ∷ xs) = how_many p xs + one (p x)

-- radii evaluated: the probes that searched
unfoldable pub evaluated_in : List Probe → ℕ
evaluated_in ps = how_many (λ p. not p.reused) ps

-- radii reused: the probes that the ledger answered
unfoldable pub reused_in : List Probe → ℕ
reused_in ps = how_many (λ p. p.reused) ps

-- the counts of the searches, a reused probe adding nothing
unfoldable pub stats_of : List Probe → SearchStats
stats_of [] = no_stats
stats_of (p ∷ ps) = plus_stats (stats_of ps) p.stats

-- opens all of the above, for facts that are computed
unfoldable pub open_probes : Unit {0}
unfolding target_persons reused_at searched_at probed_with probed latest_of latest smallest_run how_many evaluated_in reused_in stats_of
open_probes = tt
