-- The smallest radius: the fields of its answer, from the end of a run.
use Rattle.std.specs.Prelude.{ℕ, ◌+◌, min, Bool, true, not, cond, ◌&&◌, List, [], ◌∷◌, eqb, Float, Option, None, Some}
use Rattle.lists.specs.Counted.{max}
use Rattle.floats.specs.Binary.{whole}
use Rattle.grid.specs.Map.{Map}
use Rattle.grid.specs.Grid.{ceiling}
use Rattle.sums.specs.Sums.{total}
use Rattle.circle_cells.specs.Circle.{covers_whole_grid}
use Rattle.spacing.specs.declared.Spacing.{Spacing}
use Rattle.candidates.specs.declared.Candidate.{Candidate}
use Rattle.candidates.specs.Candidate.{north_west}
use Rattle.ledger.specs.declared.Ledger.{Ledger}
use Rattle.climb.specs.Climb.{Ended, all_short, reached_at}
use Rattle.share.specs.Target.{target_of, reaches, share_of, predicate_slack_persons, within_slack}
use Rattle.probes.specs.declared.Ambiguity.{Ambiguity}
use Rattle.probes.specs.declared.Witness.{Witness}
use Rattle.probes.specs.declared.Smallest.{Smallest}
use Rattle.probes.specs.Probes.{target_persons, Probe, Run, smallest_run, evaluated_in, reused_in, stats_of}

-- a probe that fell short, by its kilometre and its population
abbrev pub witness : ℕ → ℕ → Witness
witness km population = record { km = record { 0 = km }; population = population }

-- the short witness, a short probe right below the answer, if there was one: one further down does not tell that the answer is the smallest
unfoldable pub short_below_of : Float → ℕ → List Probe → Option Witness
short_below_of persons km [] = None
short_below_of persons km (p ∷ ps) =
    let rest = short_below_of persons km ps in
    cond (eqb (p.km + 1) km && not (reaches persons p.centre)) (Some (witness p.km p.centre.population)) rest

-- so many radii, from the lowest kilometre to the highest
abbrev pub spread : ℕ → ℕ → ℕ → Ambiguity
spread lowest highest radii = record { lowest_km = record { 0 = lowest }; highest_km = record { 0 = highest }; radii = radii }

-- one radius more within the slack
unfoldable pub widened : Option Ambiguity → ℕ → Option Ambiguity
widened None km = Some (spread km km 1)
widened (Some a) km = Some (spread (min a.lowest_km.0 km) (max a.highest_km.0 km) (a.radii + 1))

-- of the probes within the slack the smallest and the largest kilometre and how many they are, if there are any
unfoldable pub ambiguity : Float → Float → List Probe → Option Ambiguity
ambiguity persons slack [] = None
ambiguity persons slack (p ∷ ps) =
    let rest = ambiguity persons slack ps in
    let wider = widened rest p.km in
    cond (within_slack persons slack p.centre) wider rest

-- the answer at a radius, from the probes
unfoldable pub smallest_at : Map → Float → List Probe → ℕ → Candidate → Bool → Smallest
smallest_at m share trace km centre covers =
    let persons = target_persons m share in
    let slack = predicate_slack_persons m.globe.grid (whole (total m)) in
    record {
      radius_km = record { 0 = km };
      centre = centre;
      target = target_of share (total m);
      share_achieved = share_of centre.population (total m);
      short_below = short_below_of persons km trace;
      covers_whole_grid = covers;
      predicate_slack_persons = slack;
      ambiguity = ambiguity persons slack trace;
      tolerance_persons = whole 0;
      stats = record { radii_evaluated = evaluated_in trace; radii_reused = reused_in trace; searched = stats_of trace };
    }

-- an answer and the ledger after it
pub record Settled : Type 0 where
  pub answer : Smallest
  pub ledger : Ledger

-- all short: the ceiling, cell (0, 0) and the total
unfoldable pub concluded : Map → Float → Ended Run Candidate → Settled
concluded m share (all_short r) =
    record { answer = smallest_at m share r.trace (ceiling m.globe.grid) (north_west (total m)) true; ledger = r.ledger }
concluded m share (reached_at r km c) =
    record { answer = smallest_at m share r.trace km c (covers_whole_grid m.globe (whole km) c.row); ledger = r.ledger }

-- the smallest radius of an accepted map, share, spacing and ledger
unfoldable pub smallest : Map → Spacing → Float → Ledger → Settled
smallest m spacing share l = concluded m share (smallest_run m spacing share l)

-- opens all of the above, for facts that are computed
unfoldable pub open_smallest : Unit {0}
unfolding short_below_of widened ambiguity smallest_at concluded smallest
open_smallest = tt
