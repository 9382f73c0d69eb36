-- The state of a run against the definition's run: what it tracks of the probes.
use Rattle.std.proofs.Common.{Option, Some}
use Prim.Native.Nat.{ℕ, suc, ◌+◌}
use mathlib.Core.Path.{◌≡◌, refl, sym, ap, ◌∙◌}
use mathlib.Core.Bool.{Bool, true, false, cond, not, ◌&&◌}
use mathlib.Core.List.{List, [], ◌∷◌}
use native.Mathlib.Nat.{add-zero}
use native.Mathlib.Omega.{arith}
use lib.Dec.{eqb}
use lib.ListN.{length}
use lib.Ieee.{Float}
use borrow.Author.Tests.{eq-eqb}
use Rattle.std.proofs.Common.{Option, Some, None}
use Rattle.lists.specs.Counted.{one}
use Rattle.lists.proofs.Bools.{cases, and_both, and_no, cond_true, cond_false}
use Rattle.grid.specs.Map.{Map}
use Rattle.spacing.specs.declared.Spacing.{Spacing}
use Rattle.tally.specs.declared.SearchStats.{SearchStats}
use Rattle.tally.specs.Counts.{no_stats, plus_stats}
use Rattle.search_rules.specs.Search.{search}
use Rattle.candidates.specs.declared.Candidate.{Candidate}
use Rattle.ledger.specs.declared.Ledger.{Ledger}
use Rattle.ledger.specs.Ledger.{entry, get, put}
use Rattle.share.specs.Target.{reaches}
use Rattle.probes.specs.declared.RunState.{RunState}
use Rattle.probes.specs.declared.Witness.{Witness}
use Rattle.probes.specs.declared.SmallestStats.{SmallestStats}
use Rattle.probes.specs.Probes.{Probe, Run, reused_at, searched_at, probed_with, probed, latest_of, latest, how_many, evaluated_in, reused_in, stats_of}
use Rattle.probes.specs.Smallest.{short_below_of, ambiguity, witness}
use Rattle.probes.specs.State.{counts, run_begun, reused_more, evaluated_more, short_after, ambiguity_after, noted, state_with, state_after, ledger_with, ledger_probed}

-- a run that has not begun
abbrev pub starting : Ledger → Run
starting l = record { trace = []; ledger = l }

-- every probe is counted once
pub counted_once : (ps : List Probe) → evaluated_in ps + reused_in ps ≡ length ps
unfolding evaluated_in reused_in how_many one
counted_once [] = refl
counted_once (p ∷ ps) = go p.reused (counted_once ps)
  where
    go : (b : Bool) → evaluated_in ps + reused_in ps ≡ length ps → (evaluated_in ps + cond (not b) 1 0) + (reused_in ps + cond b 1 0) ≡ suc (length ps)
    go true e = omega arith
    go false e = omega arith

-- ---- what the state tracks

-- every kilometre probed below `low` fell short, the last one at the kilometre below it
pub record Tracks (persons slack : Float) (low : ℕ) (r : Run) (l : Ledger) (s : RunState) : Type 0 where
  pub ledger : l ≡ r.ledger
  pub short : s.short ≡ short_below_of persons low r.trace
  pub ambiguous : s.ambiguity ≡ ambiguity persons slack r.trace
  pub stats : s.stats ≡ counts (evaluated_in r.trace) (reused_in r.trace) (stats_of r.trace)

pub tracks_begun : (persons slack : Float) (people : ℕ) (l : Ledger) → Tracks persons slack 0 (starting l) l (run_begun people)
unfolding run_begun short_below_of ambiguity evaluated_in reused_in how_many stats_of
tracks_begun persons slack people l = record { ledger = refl; short = refl; ambiguous = refl; stats = refl }

-- a search that was not made counts nothing
plus_none : (s : SearchStats) → s ≡ plus_stats s no_stats
unfolding plus_stats no_stats
plus_none s = simp add-zero

-- ---- the witness

abbrev told : Probe → Option Witness
told p = Some (witness p.km p.centre.population)

module _ (persons : Float) (p : Probe) (ps : List Probe) where
  -- a probe that reached is no witness
  witness_before : (km : ℕ) → reaches persons p.centre ≡ true → short_below_of persons km (p ∷ ps) ≡ short_below_of persons km ps
  unfolding short_below_of
  witness_before km u =
      cond_false (eqb (p.km + 1) km && not (reaches persons p.centre)) (told p) (short_below_of persons km ps) (and_no (eqb (p.km + 1) km) _ (ap not u))

  -- a probe that fell short is, of the kilometre after it
  witness_here : reaches persons p.centre ≡ false → short_below_of persons (p.km + 1) (p ∷ ps) ≡ told p
  unfolding short_below_of
  witness_here u =
      cond_true (eqb (p.km + 1) (p.km + 1) && not (reaches persons p.centre)) (told p) (short_below_of persons (p.km + 1) ps)
      (and_both (eqb (p.km + 1) (p.km + 1)) _ (eq-eqb (p.km + 1) (p.km + 1) refl) (ap not u))

-- ---- one probe more

-- after a probe at km
pub record Tracked (persons slack : Float) (low : ℕ) (s : RunState) (km : ℕ) (r' : Run) (l' : Ledger) (s' : RunState) : Type 0 where
  pub reached : s'.reached ≡ reaches persons (latest r')
  pub found : s'.found ≡ cond s'.reached (latest r') s.found
  pub tracks : Tracks persons slack (cond s'.reached low (km + 1)) r' l' s'

module _ (persons slack : Float) (low : ℕ) (r : Run) (l : Ledger) (s : RunState) (k : Tracks persons slack low r l s) where
  -- one probe more, with the ledger and the counts after it
  noted_tracks : (p : Probe) (l' : Ledger) (t : SmallestStats)
      → t ≡ counts (evaluated_in (p ∷ r.trace)) (reused_in (p ∷ r.trace)) (stats_of (p ∷ r.trace))
      → Tracks persons slack (cond (reaches persons p.centre) low (p.km + 1)) (record { trace = p ∷ r.trace; ledger = l' }) l' (noted persons slack s p.km p.centre t)
  unfolding noted short_after ambiguity_after ambiguity
  noted_tracks p l' t e =
      let reached = reaches persons p.centre in
      let at : ℕ → Option Witness = λ km. short_below_of persons km (p ∷ r.trace) in
      record {
        ledger = refl;
        short =
            cases reached
            (λ u. cond_true reached s.short (told p) u ∙ k.short ∙ sym (witness_before persons p r.trace low u) ∙ ap at (sym (cond_true reached low (p.km + 1) u)))
            (λ u. cond_false reached s.short (told p) u ∙ sym (witness_here persons p r.trace u) ∙ ap at (sym (cond_false reached low (p.km + 1) u)));
        ambiguous = rw (← k.ambiguous);
        stats = e;
      }

  -- ONE PROBE ON, the state tracks the run
  pub tracks_next : (m : Map) (spacing : Spacing) (km : ℕ) → Tracked persons slack low s km (probed m spacing r km) (ledger_probed m spacing l km) (state_after m spacing persons slack s l km)
  unfolding probed probed_with reused_at searched_at state_after state_with ledger_probed ledger_with latest latest_of noted reused_more evaluated_more evaluated_in reused_in how_many stats_of one
  tracks_next m spacing km =
      let same : get l km ≡ get r.ledger km = ap (λ (h : Ledger). get h km) k.ledger in
      rw same (by (get r.ledger km))
    where
      by : (f : Option Candidate) → Tracked persons slack low s km (probed_with m spacing r km f) (ledger_with m spacing l km f) (state_with m spacing persons slack s km f)
      by (Some c) =
          record {
            reached = refl;
            found = refl;
            tracks =
                rw k.ledger
                (noted_tracks (record { km = km; centre = c; reused = true; stats = no_stats }) r.ledger (reused_more s.stats) (rw (k.stats, add-zero, ← plus_none)));
          }
      by None =
          let f = search m spacing km in
          record {
            reached = refl;
            found = refl;
            tracks =
                rw k.ledger
                (noted_tracks (record { km = km; centre = f.centre; reused = false; stats = f.tally.stats }) (put r.ledger (entry km f.centre)) (evaluated_more s.stats f.tally.stats)
                (rw (k.stats, add-zero)));
          }
