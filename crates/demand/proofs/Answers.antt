-- The answer of a run from a ledger of best circles, where the search names the best circle: every field that demand 3 speaks of.
use Prim.Native.Nat.{ℕ, ◌+◌, ◌-◌, ◌≤◌, ◌<◌}
use mathlib.Core.Path.{◌≡◌, refl}
use mathlib.Core.Logic.{◌⊎◌, inl, inr}
use mathlib.Core.Bool.{Bool, true, false, not, ◌&&◌}
use mathlib.Core.List.{List, [], ◌∷◌}
use native.Mathlib.Omega.{arith}
use lib.Dec.{T, eqb}
use lib.Ieee.{Float, le}
use borrow.Author.Tests.{eqb-true, eq-eqb}
use Rattle.lists.proofs.Bools.{is_true, of_true, of_false, not_both, is_false, and_both, and_left, cond_case}
use Rattle.lists.specs.Elements.{AllOf, also}
use Rattle.lists.proofs.Elements.{AnyOf, here, there, any_all}
use Rattle.floats.specs.Binary.{whole}
use Rattle.floats.proofs.Order.{le_trans}
use Rattle.floats.proofs.Whole.{whole_le}
use Rattle.grid.specs.declared.Cell.{Cell}
use Rattle.grid.specs.Grid.{ceiling, on_grid}
use Rattle.grid.specs.Map.{Map}
use Rattle.circle_cells.specs.Circle.{population}
use Rattle.spacing.specs.declared.Spacing.{Spacing}
use Rattle.candidates.specs.declared.Candidate.{Candidate}
use Rattle.candidates.specs.Candidate.{centre_of}
use Rattle.search_rules.specs.Search.{search}
use Rattle.ledger.specs.declared.Ledger.{Ledger}
use Rattle.climb.specs.Climb.{Ended, all_short, reached_at}
use Rattle.climb.proofs.Radii.{last_below}
use Rattle.climb.proofs.Climb.{FoundAt, ShortBelow, UpTo, after_keeps, findings}
use Rattle.share.specs.Target.{reaches}
use Rattle.probes.specs.Probes.{Probe, Run, target_persons, probed, latest, smallest_run, evaluated_in}
use Rattle.probes.specs.Smallest.{Settled, short_below_of, smallest_at, concluded, smallest}
use Rattle.probes.proofs.States.{starting}
use Rattle.probes.proofs.Traces.{last_km, finding_of, WalkedTo, walked_any, RunEnds, smallest_ends}
use Rattle.demand.specs.Demand3.{Accepted, BestCandidate, Witnessed, trace_of}
use Rattle.demand.proofs.Runs.{BestLedger, BestProbe, BestRun, begun, probed_best}

-- ---- from best probes

-- what was found at a kilometre is the best circle there
found_best : (m : Map) (km : ℕ) (c : Candidate) (ps : List Probe) → AnyOf (λ p. FoundAt km c (finding_of p)) ps → AllOf (BestProbe m) ps → BestCandidate m km c
found_best m km c ps s a = any_all (λ p f b. rw (← f.km_is, ← f.found_is) b.best) s a

module _ (m : Map) (persons : Float) (km : ℕ) where
  abbrev ShortProbe : Probe → Type 0
  ShortProbe p = ShortBelow (reaches persons) km (finding_of p)

  -- where the best circle falls short, no circle reaches: more people are no smaller a binary64
  short_all : (ps : List Probe) → AnyOf ShortProbe ps → AllOf (BestProbe m) ps → (x : Cell) → T (on_grid m.globe.grid x)
      → T (not (le persons (whole (population m (whole (km - 1)) x))))
  unfolding reaches
  short_all ps s a x o =
      any_all
      (λ p f b.
      let down : km - 1 ≡ p.km = omega (arith, f.km_is) in
      let most : population m (whole (km - 1)) x ≤ p.centre.population = rw (down, b.best.people) (b.best.best.fullest x o) in
      let there = whole (population m (whole (km - 1)) x) in
      let here = whole p.centre.population in
      of_false (le persons there)
      (is_false (le persons there)
      (λ t. not_both (le persons here) (is_true (le persons here) (le_trans persons there here t (whole_le _ _ most))) f.fell)))
      s a

  -- the witness is the first of them
  witnessed : (ps : List Probe) → AnyOf ShortProbe ps → AllOf (BestProbe m) ps → Witnessed m (km - 1) (short_below_of persons km ps)
  unfolding short_below_of
  witnessed [] f _ = elim f [ ]
  witnessed (p ∷ ps) f (also b a) =
      cond_case (Witnessed m (km - 1)) (eqb (p.km + 1) km && not (reaches persons p.centre)) _ _
      (λ t.
      let next = eqb-true (p.km + 1) km (and_left (eqb (p.km + 1) km) (not (reaches persons p.centre)) t) in
      let down : km - 1 ≡ p.km = omega arith in
      record { centre = centre_of p.centre; best = rw down b.best.best; is = rw (down, ← b.best.people) })
      (λ t. witnessed ps (other f t) a)
    where
      other : AnyOf ShortProbe (p ∷ ps) → (eqb (p.km + 1) km && not (reaches persons p.centre)) ≡ false → AnyOf ShortProbe ps
      other (here s) t = absurd (not_both _ (and_both _ _ (eq-eqb (p.km + 1) km s.km_is) (rw s.fell)) t)
      other (there s) t = s

-- ---- from the end of a run

-- an answer with the ledger after it, given the ledger l and the share; the trace is that of its probes
pub record SettledRight (m : Map) (l : Ledger) (share : Float) (ps : List Probe) (s : Settled) : Type 0 where
  pub radius : s.answer.radius_km.0 ≤ ceiling m.globe.grid
  pub target : s.answer.target.persons ≡ target_persons m share
  pub best : s.answer.radius_km.0 < ceiling m.globe.grid → BestCandidate m s.answer.radius_km.0 s.answer.centre
  pub reached : s.answer.radius_km.0 < ceiling m.globe.grid → T (le (target_persons m share) (whole s.answer.centre.population))
  pub short : 1 ≤ s.answer.radius_km.0 → (x : Cell) → T (on_grid m.globe.grid x)
      → T (not (le (target_persons m share) (whole (population m (whole (s.answer.radius_km.0 - 1)) x))))
  pub witness : 1 ≤ s.answer.radius_km.0 → Witnessed m (s.answer.radius_km.0 - 1) s.answer.short_below
  pub evaluated : s.answer.stats.radii_evaluated ≡ evaluated_in ps
  pub run : BestRun m l (record { trace = ps; ledger = s.ledger })

module _ (m : Map) (a : Accepted m) (spacing : Spacing) (share : Float) (l : Ledger) (sound : BestLedger m l)
    (searched : (km : ℕ) → km < ceiling m.globe.grid → BestCandidate m km (search m spacing km).centre) where
  walked_best : (r : Run) (kms : List ℕ) → WalkedTo m spacing l r kms → BestRun m l r
  walked_best r kms w =
      rw w.ends
      (after_keeps (probed m spacing) latest (starting l) (BestRun m l) (UpTo (last_km m))
      (λ s km h. probed_best m a l spacing searched s km (omega (arith, h, last_below m.globe.grid))) (begun m l sound) w.within)

  -- at a radius up to the ceiling
  settled : (r : Run) (kms : List ℕ) (km : ℕ) (c : Candidate) (covers : Bool) → WalkedTo m spacing l r kms → km ≤ ceiling m.globe.grid
      → (km < ceiling m.globe.grid → AnyOf (FoundAt km c) (findings (probed m spacing) latest (starting l) kms) × (reaches (target_persons m share) c ≡ true))
      → (1 ≤ km → AnyOf (ShortBelow (reaches (target_persons m share)) km) (findings (probed m spacing) latest (starting l) kms))
      → SettledRight m l share r.trace (record { answer = smallest_at m share r.trace km c covers; ledger = r.ledger })
  unfolding smallest_at target_persons reaches
  settled r kms km c covers w h top below =
      let s = walked_best r kms w in
      record {
        radius = h;
        target = refl;
        best = λ u. found_best m km c r.trace (walked_any m spacing l r kms w (top u).0) s.probes;
        reached = λ u. of_true _ (top u).1;
        short = λ u. short_all m (target_persons m share) km r.trace (walked_any m spacing l r kms w (below u)) s.probes;
        witness = λ u. witnessed m (target_persons m share) km r.trace (walked_any m spacing l r kms w (below u)) s.probes;
        evaluated = refl;
        run = s;
      }

  concluded_right : (e : Ended Run Candidate) → RunEnds m spacing l share e
      → SettledRight m l share (trace_of e) (concluded m share e)
  unfolding concluded trace_of
  concluded_right (all_short r) e =
      let last = last_below m.globe.grid in
      settled r e.trail (ceiling m.globe.grid) _ _ e.walked (omega arith) (λ u. absurd (omega arith)) (λ u. rw last at e.below)
  concluded_right (reached_at r km c) e =
      settled r e.trail km c _ e.walked (omega (arith, e.top, last_below m.globe.grid)) (λ u. (e.held, e.reached)) (λ u. positive u e.below)
    where
      positive : {A : Type 0} → 1 ≤ km → (km ≡ 0) ⊎ A → A
      positive u (inl z) = absurd (omega arith)
      positive u (inr x) = x

  -- THE ANSWER IS RIGHT
  pub smallest_right : SettledRight m l share (trace_of (smallest_run m spacing share l)) (smallest m spacing share l)
  unfolding smallest
  smallest_right = concluded_right (smallest_run m spacing share l) (smallest_ends m spacing l share)
