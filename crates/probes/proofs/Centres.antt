-- The centre that a run ends with, whatever the sheet: a cell of the grid, with people that a binary64 counts exactly.
use Prim.Native.Nat.{ℕ, ◌^◌, ◌≤◌}
use mathlib.Core.Path.{◌≡◌, refl}
use mathlib.Core.Bool.{true}
use mathlib.Core.List.{List}
use lib.Ieee.{Float}
use Rattle.std.proofs.Common.{Option, Some, None}
use Rattle.lists.specs.Elements.{AllOf, none, also}
use Rattle.lists.proofs.Elements.{any_all}
use Rattle.grid.specs.declared.Grid.{Grid}
use Rattle.grid.specs.Map.{Map}
use Rattle.grid.proofs.Sizes.{Sizes}
use Rattle.sums.specs.Sums.{total}
use Rattle.spacing.specs.declared.Spacing.{Spacing}
use Rattle.candidates.specs.declared.Candidate.{Candidate}
use Rattle.search_rules.specs.Search.{search}
use Rattle.ledger.specs.declared.Ledger.{Ledger}
use Rattle.ledger.specs.Ledger.{entry, get, ledger_in_order}
use Rattle.ledger.specs.Requires.{InBounds}
use Rattle.ledger.proofs.Laws.{got_put}
use Rattle.ledger.proofs.Order.{got_in_bounds}
use Rattle.climb.specs.Climb.{Ended, all_short, reached_at}
use Rattle.climb.proofs.Climb.{UpTo, after_keeps}
use Rattle.probes.specs.Probes.{Probe, Run, reused_at, searched_at, probed_with, probed, latest, smallest_run}
use Rattle.probes.specs.State.{end_at, ran_to, ran}
use Rattle.probes.proofs.States.{starting}
use Rattle.probes.proofs.Traces.{last_km, WalkedTo, walked_any, RunEnds, smallest_ends}
use Rattle.probes.proofs.AnySheet.{corner_bounds, search_sound}

-- the circles that the ledger holds and those that the probes found
record CentresIn (g : Grid) (r : Run) : Type 0 where
  pub held : (km : ℕ) (c : Candidate) → get r.ledger km ≡ Some c → InBounds g c
  pub found : AllOf (λ (p : Probe). InBounds g p.centre) r.trace

module _ (m : Map) (sizes : Sizes m.globe.grid) (exact : total m ≤ 2 ^ 53) (spacing : Spacing) where
  -- every probe keeps them in bounds
  probed_in : (r : Run) (km : ℕ) → CentresIn m.globe.grid r → CentresIn m.globe.grid (probed m spacing r km)
  unfolding probed probed_with reused_at searched_at
  probed_in r km i = by (get r.ledger km) refl
    where
      by : (f : Option Candidate) → get r.ledger km ≡ f → CentresIn m.globe.grid (probed_with m spacing r km f)
      by (Some c) e = record { held = i.held; found = also (i.held km c e) i.found }
      by None e =
          let b = (search_sound m sizes exact spacing km).centre in
          record {
            held = got_put r.ledger (entry km (search m spacing km).centre) (λ k c. InBounds m.globe.grid c) b i.held;
            found = also b i.found;
          }

  module _ (share : Float) (l : Ledger) (o : ledger_in_order m.globe.grid l ≡ true) where
    walked_in : (r : Run) (kms : List ℕ) → WalkedTo m spacing l r kms → CentresIn m.globe.grid r
    walked_in r kms w =
        rw w.ends
        (after_keeps (probed m spacing) latest (starting l) (CentresIn m.globe.grid) (UpTo (last_km m)) (λ s km h. probed_in s km)
        (record { held = λ km c e. got_in_bounds m.globe.grid l km c o e; found = none }) w.within)

    ended_in : (e : Ended Run Candidate) → RunEnds m spacing l share e → InBounds m.globe.grid (ran_to m share e).end.centre
    unfolding ran_to end_at
    ended_in (all_short r) e = corner_bounds m.globe.grid sizes (total m) exact
    ended_in (reached_at r km c) e =
        any_all (λ p f b. rw (← f.found_is) b) (walked_any m spacing l r e.trail e.walked e.held) (walked_in r e.trail e.walked).found

    -- THE CENTRE AT THE END OF A RUN IS IN BOUNDS
    pub ran_in_bounds : InBounds m.globe.grid (ran m spacing share l).end.centre
    unfolding ran
    ran_in_bounds = ended_in (smallest_run m spacing share l) (smallest_ends m spacing l share)
