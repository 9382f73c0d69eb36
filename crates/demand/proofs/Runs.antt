-- Runs from a ledger of best circles: what every probe keeps of the trace and of the ledger, where the search names the best circle.
use Prim.Native.Nat.{ℕ, ◌+◌, ◌^◌, ◌≤◌, ◌<◌}
use mathlib.Core.Path.{◌≡◌, refl, ◌∙◌}
use mathlib.Core.Bool.{Bool, true, false, ◌&&◌, ◌||◌}
use mathlib.Core.List.{[]}
use native.Mathlib.Omega.{arith}
use lib.Dec.{eqb}
use lib.ListN.{length}
use borrow.Author.Tests.{lt-ltb, le-leb}
use Rattle.std.specs.Option.{is_some}
use Rattle.std.proofs.Common.{Option, Some, None}
use Rattle.lists.specs.Counted.{one}
use Rattle.lists.proofs.Bools.{is_true, and_both, or_none}
use Rattle.lists.specs.Elements.{AllOf, none, also}
use Rattle.grid.specs.Grid.{ceiling}
use Rattle.grid.specs.Map.{Map}
use Rattle.grid.proofs.Answers.{map_passed}
use Rattle.grid.proofs.Sizes.{grid_sizes}
use Rattle.kernel.proofs.Populations.{population_exact}
use Rattle.spacing.specs.declared.Spacing.{Spacing}
use Rattle.candidates.specs.declared.Candidate.{Candidate}
use Rattle.candidates.specs.Candidate.{centre_of}
use Rattle.search_rules.specs.Search.{search}
use Rattle.ledger.specs.declared.Ledger.{Ledger}
use Rattle.ledger.specs.Ledger.{entry, entries, get, put, entry_in_bounds, rising_from, all_in_bounds}
use Rattle.ledger.proofs.Laws.{len_put, got_put, there_put, length_put, rising_put, in_bounds_put}
use Rattle.probes.specs.Probes.{Probe, Run, reused_at, searched_at, probed_with, probed, how_many, evaluated_in}
use Rattle.demand.specs.Demand3.{Accepted, BestCandidate, evaluated_at}

-- ---- a ledger of the list

-- its first len places hold its entries, which rise, are in bounds and are best circles
pub record BestLedger (m : Map) (l : Ledger) : Type 0 where
  pub counted : l.len ≡ length (entries l)
  pub rising : rising_from 0 (entries l) ≡ true
  pub bounded : all_in_bounds m.globe.grid (entries l) ≡ true
  pub best : (km : ℕ) (c : Candidate) → get l km ≡ Some c → BestCandidate m km c

-- a best circle below the ceiling is in bounds
best_in_bounds : (m : Map) → Accepted m → (km : ℕ) → km < ceiling m.globe.grid → (c : Candidate) → BestCandidate m km c
    → entry_in_bounds m.globe.grid (entry km c) ≡ true
unfolding entry_in_bounds
best_in_bounds m a km h c b =
    let sizes = grid_sizes m.globe.grid (map_passed m a.asked).grid.sizes in
    let people : c.population ≤ 2 ^ 53 = rw b.people (population_exact m sizes a.counted _ (centre_of c)) in
    and_both _ _ (and_both _ _ (lt-ltb km (ceiling m.globe.grid) h) (is_true _ b.best.on)) (le-leb c.population (2 ^ 53) people)

-- a put of a best circle
put_best : (m : Map) → Accepted m → (l : Ledger) (km : ℕ) → km < ceiling m.globe.grid → (c : Candidate) → BestCandidate m km c → BestLedger m l
    → BestLedger m (put l (entry km c))
put_best m a l km h c b s =
    let x = entry km c in
    record {
      counted = len_put l x;
      rising = rising_put l x s.rising;
      bounded = in_bounds_put l x m.globe.grid s.bounded (best_in_bounds m a km h c b);
      best = got_put l x (BestCandidate m) b s.best;
    }

-- ---- a run from a ledger

pub record BestProbe (m : Map) (p : Probe) : Type 0 where
  pub best : BestCandidate m p.km p.centre

-- the run from l: probes and entries are best circles, an entry gained for each probe evaluated, and at its kilometre
pub record BestRun (m : Map) (l : Ledger) (r : Run) : Type 0 where
  pub ledger : BestLedger m r.ledger
  pub probes : AllOf (BestProbe m) r.trace
  pub gained : length (entries r.ledger) ≡ length (entries l) + evaluated_in r.trace
  pub kept : (km : ℕ) → is_some (get r.ledger km) ≡ (is_some (get l km) || evaluated_at km r.trace)

pub begun : (m : Map) (l : Ledger) → BestLedger m l → BestRun m l (record { trace = []; ledger = l })
unfolding evaluated_in how_many evaluated_at
begun m l s = record { ledger = s; probes = none; gained = omega arith; kept = λ km. or_none (is_some (get l km)) }

-- the tests of a probe reused and of one evaluated, before those of the others
reused_test : (a b c : Bool) → (a || c) ≡ (a || ((b && false) || c))
reused_test a true c = refl
reused_test a false c = refl

evaluated_test : (a b c : Bool) → (b || (a || c)) ≡ (a || ((b && true) || c))
evaluated_test true true c = refl
evaluated_test true false c = refl
evaluated_test false true c = refl
evaluated_test false false c = refl

-- WHAT EVERY PROBE KEEPS, where the search names the best circle
pub probed_best : (m : Map) → Accepted m → (l : Ledger) (spacing : Spacing)
    → ((km : ℕ) → km < ceiling m.globe.grid → BestCandidate m km (search m spacing km).centre)
    → (r : Run) (km : ℕ) → km < ceiling m.globe.grid → BestRun m l r → BestRun m l (probed m spacing r km)
unfolding probed probed_with reused_at searched_at evaluated_in how_many one evaluated_at
probed_best m a l spacing searched r km h s = by (get r.ledger km) refl
  where
    by : (f : Option Candidate) → get r.ledger km ≡ f → BestRun m l (probed_with m spacing r km f)
    by (Some c) e =
        record {
          ledger = s.ledger;
          probes = also (record { best = s.ledger.best km c e }) s.probes;
          gained = omega (arith, s.gained);
          kept = λ k. s.kept k ∙ reused_test (is_some (get l k)) (eqb km k) (evaluated_at k r.trace);
        }
    by None e =
        let c = (search m spacing km).centre in
        let b = searched km h in
        record {
          ledger = put_best m a r.ledger km h c b s.ledger;
          probes = also (record { best = b }) s.probes;
          gained = omega (arith, s.gained, length_put r.ledger (entry km c) e);
          kept = λ k. there_put r.ledger (entry km c) k ∙ rw (s.kept k) (evaluated_test (is_some (get l k)) (eqb km k) (evaluated_at k r.trace));
        }
