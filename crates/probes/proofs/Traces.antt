-- The trace of a run as the climb sees it, whatever the map and the ledger: its probes are those of the climb, at most the most radii.
use Prim.Native.Nat.{ℕ, suc, ◌≤◌}
use mathlib.Core.Path.{◌≡◌, refl, sym, ap, ◌∙◌}
use mathlib.Core.List.{List, [], ◌∷◌}
use native.Mathlib.Omega.{arith}
use lib.ListN.{length}
use lib.Ieee.{Float}
use Rattle.std.proofs.Common.{Option, Some, None}
use Rattle.lists.specs.Lists.{each}
use Rattle.lists.proofs.Folds.{length_each}
use Rattle.lists.proofs.Elements.{AnyOf, any_of_each}
use Rattle.grid.specs.Map.{Map}
use Rattle.spacing.specs.declared.Spacing.{Spacing}
use Rattle.candidates.specs.declared.Candidate.{Candidate}
use Rattle.ledger.specs.declared.Ledger.{Ledger}
use Rattle.ledger.specs.Ledger.{get}
use Rattle.climb.specs.Climb.{most_radii, Ended, last_radius, climb_radii}
use Rattle.climb.proofs.Radii.{last_least, last_most}
use Rattle.climb.proofs.Climb.{Finding, after, findings, Walked, Ends, run_ends}
use Rattle.share.specs.Target.{reaches}
use Rattle.probes.specs.Probes.{Probe, Run, reused_at, searched_at, probed_with, probed, latest_of, latest, target_persons, smallest_run}
use Rattle.probes.proofs.States.{starting}

-- the last radius of a run
abbrev pub last_km : Map → ℕ
last_km m = last_radius m.globe.grid

abbrev pub finding_of : Probe → Finding Candidate
finding_of p = record { km = p.km; found = p.centre }

module _ (m : Map) (spacing : Spacing) where
  -- a probe is added with its kilometre and what it found
  probed_adds : (r : Run) (km : ℕ) → each finding_of (probed m spacing r km).trace ≡ record { km = km; found = latest (probed m spacing r km) } ∷ each finding_of r.trace
  unfolding probed probed_with reused_at searched_at latest latest_of each
  probed_adds r km = by (get r.ledger km)
    where
      by : (f : Option Candidate) → each finding_of (probed_with m spacing r km f).trace ≡ record { km = km; found = latest (probed_with m spacing r km f) } ∷ each finding_of r.trace
      by (Some c) = refl
      by None = refl

  pub trace_findings : (l : Ledger) (kms : List ℕ)
      → findings (probed m spacing) latest (starting l) kms ≡ each finding_of (after (probed m spacing) latest (starting l) kms).trace
  unfolding findings after each
  trace_findings l [] = refl
  trace_findings l (km ∷ kms) = rw (trace_findings l kms) (sym (probed_adds (after (probed m spacing) latest (starting l) kms) km))

  pub length_trace : (l : Ledger) (kms : List ℕ) → length (after (probed m spacing) latest (starting l) kms).trace ≡ length kms
  unfolding after
  length_trace l [] = refl
  length_trace l (km ∷ kms) =
      let r = after (probed m spacing) latest (starting l) kms in
      sym (length_each finding_of (probed m spacing r km).trace) ∙ ap length (probed_adds r km) ∙ ap suc (length_each finding_of r.trace ∙ length_trace l kms)

-- ---- the end of a run

module _ (m : Map) (spacing : Spacing) (l : Ledger) where
  abbrev pub WalkedTo : Run → List ℕ → Type 0
  WalkedTo r kms = Walked (probed m spacing) latest (starting l) (last_km m) r kms

  -- what the climb found stands in the trace
  pub walked_any : {P : Finding Candidate → Type 0} (r : Run) (kms : List ℕ) → WalkedTo r kms → AnyOf P (findings (probed m spacing) latest (starting l) kms)
      → AnyOf (λ p. P (finding_of p)) r.trace
  walked_any {P} r kms w f = any_of_each {P = P} finding_of (λ x p. p) r.trace (rw w.ends (rw (← trace_findings m spacing l kms) f))

  pub walked_few : (r : Run) (kms : List ℕ) → WalkedTo r kms → length r.trace ≤ most_radii
  walked_few r kms w = rw w.ends (omega (arith, length_trace m spacing l kms, w.few))

  module _ (share : Float) where
    -- where a smallest-radius run ends
    abbrev pub RunEnds : Ended Run Candidate → Type 0
    RunEnds e = Ends (probed m spacing) latest (starting l) (reaches (target_persons m share)) (last_km m) (climb_radii (last_km m)) e

    pub smallest_ends : RunEnds (smallest_run m spacing share l)
    unfolding smallest_run
    smallest_ends =
        run_ends (probed m spacing) latest (starting l) (reaches (target_persons m share)) (last_km m) (last_least m.globe.grid)
        (last_most m.globe.grid)
