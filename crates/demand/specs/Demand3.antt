-- Demand 3, as stated: on an accepted map whose sheet is fair the search names the best circle, and a list of smallest-radius calls from a
-- fresh ledger answers and keeps the ledger as the user asks.
use Rattle.std.specs.Prelude.{ℕ, ◌+◌, ◌-◌, ◌^◌, ◌≤◌, ◌<◌, ◌≡◌, Bool, false, not, ◌&&◌, ◌||◌, List, [], ◌∷◌, length, get_or, T, eqb, Float, Option, Some}
use Rattle.std.specs.Float.Ieee.{le}
use Rattle.floats.specs.Binary.{whole}
use Rattle.grid.specs.declared.Cell.{Cell}
use Rattle.grid.specs.Grid.{ceiling, cells, on_grid}
use Rattle.grid.specs.Map.{Map}
use Rattle.grid.specs.Answer.{question, first_no, Answer, answered, refused, decide}
use Rattle.grid.specs.Questions.{map_questions}
use Rattle.circle_cells.specs.Circle.{population}
use Rattle.candidates.specs.declared.Candidate.{Candidate}
use Rattle.search_rules.specs.declared.MostPopulous.{MostPopulous}
use Rattle.spacing.specs.declared.Spacing.{Spacing}
use Rattle.bounds.specs.Fair.{Fair}
use Rattle.search_rules.specs.Best.{BestOf}
use Rattle.candidates.specs.Candidate.{centre_of}
use Rattle.search_rules.specs.Search.{search}
use Rattle.spacing.specs.Spacing.{spacing_given}
use Rattle.most_populous.specs.Call.{Buffers, buffers_fit, search_call}
use Rattle.ledger.specs.declared.Entry.{Entry}
use Rattle.ledger.specs.declared.Ledger.{Ledger}
use Rattle.ledger.specs.Ledger.{entries, no_entries, get, rising_from, places_free}
use Rattle.climb.specs.Climb.{most_radii, Ended, all_short, reached_at}
use Rattle.share.specs.Target.{share_in_range}
use Rattle.probes.specs.declared.Witness.{Witness}
use Rattle.probes.specs.declared.Smallest.{Smallest}
use Rattle.probes.specs.Probes.{Probe, Run, target_persons, smallest_run}
use Rattle.probes.specs.Smallest.{smallest, witness}
use Rattle.smallest_rules.specs.Call.{SmallestOutcome, smallest_call}

-- ---- the map

-- questions 1 to 6 all answered "yes", and counts of 32 bits
pub record Accepted (m : Map) : Type 0 where
  pub asked : first_no (map_questions m) ≡ 0
  pub counted : (i : ℕ) → get_or m.counts i 0 < 2 ^ 32

-- the best circle at a radius: the one with most people; of several, the one whose centre is first by row, then column
abbrev pub Best : Map → ℕ → Cell → Type 0
Best m km c = BestOf m.globe.grid (population m (whole km)) c

-- a candidate is the best circle at a radius, with its population
pub record BestCandidate (m : Map) (km : ℕ) (c : Candidate) : Type 0 where
  pub best : Best m km (centre_of c)
  pub people : c.population ≡ population m (whole km) (centre_of c)

-- ---- the search

pub record SearchedRight (m : Map) (km : ℕ) (f : MostPopulous) : Type 0 where
  pub centre : BestCandidate m km f.centre
  -- cells pruned + cells settled = width × height
  pub tallied : f.tally.cells_pruned + f.tally.cells_settled ≡ cells m.globe.grid

abbrev pub SearchPromise : Map → Type 0
SearchPromise m =
    (km : ℕ) → 1 ≤ km → km < ceiling m.globe.grid → (spacing : Spacing) (lent : Buffers) (f : MostPopulous)
    → (search_call m spacing km lent).answer ≡ answered f → SearchedRight m km f

-- who is answered: every search whose radius, spacing and buffers pass their questions
abbrev pub SearchAnswers : Map → Type 0
SearchAnswers m =
    (km : ℕ) → km ≤ ceiling m.globe.grid → (spacing : Spacing) → T (spacing_given spacing) → (lent : Buffers) → T (buffers_fit m.globe.grid lent)
    → (search_call m spacing km lent).answer ≡ answered (search m spacing km)

-- ---- a list of smallest-radius calls

-- what a call brings itself: spacing, share and lent buffers, whatever their lengths and words
pub record Call : Type 0 where
  pub spacing : Spacing
  pub share : Float
  pub lent : Buffers

unfoldable pub called : Map → Ledger → Call → SmallestOutcome
called m l c = smallest_call m c.spacing c.share l c.lent

-- no entries; the places hold anything
unfoldable pub fresh : List Entry → Ledger
fresh places = no_entries places

-- the ledger after the calls in turn, each given it as the one before left it, refused or not
unfoldable pub ledger_after : Map → Ledger → List Call → Ledger
ledger_after m l [] = l
ledger_after m l (c ∷ cs) = ledger_after m (called m l c).ledger cs

-- the short witness is a kilometre with the population of the best circle there
pub record Witnessed (m : Map) (km : ℕ) (short : Option Witness) : Type 0 where
  pub centre : Cell
  pub best : Best m km centre
  pub is : short ≡ Some (witness km (population m (whole km) centre))

-- an answered call, given the ledger l
pub record AnsweredRight (m : Map) (l : Ledger) (c : Call) (a : Smallest) : Type 0 where
  pub radius : a.radius_km.0 ≤ ceiling m.globe.grid
  pub target : a.target.persons ≡ target_persons m c.share
  -- an answer below the ceiling names the best circle there, which reaches the target
  pub best : a.radius_km.0 < ceiling m.globe.grid → BestCandidate m a.radius_km.0 a.centre
  pub reached : a.radius_km.0 < ceiling m.globe.grid → T (le (target_persons m c.share) (whole a.centre.population))
  -- one kilometre below an answer of 1 and more no circle reaches the target
  pub short : 1 ≤ a.radius_km.0 → (x : Cell) → T (on_grid m.globe.grid x)
      → T (not (le (target_persons m c.share) (whole (population m (whole (a.radius_km.0 - 1)) x))))
  -- the witness is that kilometre with the best population there
  pub witness : 1 ≤ a.radius_km.0 → Witnessed m (a.radius_km.0 - 1) a.short_below
  -- radii evaluated = entries the ledger gained
  pub gained : length (entries (called m l c).ledger) ≡ length (entries l) + a.stats.radii_evaluated
  pub bounded : a.stats.radii_evaluated + a.stats.radii_reused ≤ most_radii

-- one call of the list, given the ledger l
pub record CallRight (m : Map) (l : Ledger) (c : Call) : Type 0 where
  -- refused only by 7, 9, 10 or 12, each exactly when its question says no, and otherwise answered
  pub judged : (called m l c).answer
      ≡ decide
      (first_no
      (question 7 (buffers_fit m.globe.grid c.lent)
      ∷ question 9 (share_in_range c.share)
      ∷ question 10 (spacing_given c.spacing)
      ∷ question 12 (places_free l most_radii)
      ∷ []))
      (smallest m c.spacing c.share l).answer
  pub kept : (n : ℕ) → (called m l c).answer ≡ refused n → (called m l c).ledger ≡ l
  pub right : (a : Smallest) → (called m l c).answer ≡ answered a → AnsweredRight m l c a

-- every call of the list, each given the ledger as the one before left it
abbrev pub EachRight : Map → Ledger → List Call → Type 0
EachRight m l [] = Unit {0}
EachRight m l (c ∷ cs) = CallRight m l c × EachRight m (called m l c).ledger cs

-- ---- the ledger after the list

unfoldable pub trace_of : Ended Run Candidate → List Probe
trace_of (all_short r) = r.trace
trace_of (reached_at r km c) = r.trace

-- the probes of a call: none of a refused one
unfoldable pub probes_of : Answer Smallest → Ended Run Candidate → List Probe
probes_of (answered a) e = trace_of e
probes_of (refused n) e = []

unfoldable pub call_probes : Map → Ledger → Call → List Probe
call_probes m l c = probes_of (called m l c).answer (smallest_run m c.spacing c.share l)

-- a probe at that kilometre is counted as evaluated
unfoldable pub evaluated_at : ℕ → List Probe → Bool
evaluated_at km [] = false
evaluated_at km (p ∷ ps) = (eqb p.km km && not p.reused) || evaluated_at km ps

-- some answered call of the list evaluated that kilometre
unfoldable pub evaluated_by : Map → Ledger → List Call → ℕ → Bool
evaluated_by m l [] km = false
evaluated_by m l (c ∷ cs) km = evaluated_at km (call_probes m l c) || evaluated_by m (called m l c).ledger cs km

unfoldable pub evaluated_of : Answer Smallest → ℕ
evaluated_of (answered a) = a.stats.radii_evaluated
evaluated_of (refused n) = 0

-- the sum of the answers' radii evaluated
unfoldable pub radii_evaluated_of : Map → Ledger → List Call → ℕ
radii_evaluated_of m l [] = 0
radii_evaluated_of m l (c ∷ cs) = evaluated_of (called m l c).answer + radii_evaluated_of m (called m l c).ledger cs

-- one entry for each radius evaluated, with the best circle there, and no other
pub record LedgerRight (m : Map) (l : Ledger) (cs : List Call) : Type 0 where
  pub rising : T (rising_from 0 (entries (ledger_after m l cs)))
  pub number : length (entries (ledger_after m l cs)) ≡ radii_evaluated_of m l cs
  pub held : (km : ℕ) → T (evaluated_by m l cs km) → (c : Candidate) × (get (ledger_after m l cs) km ≡ Some c)
  pub only : (km : ℕ) (c : Candidate) → get (ledger_after m l cs) km ≡ Some c → T (evaluated_by m l cs km)
  pub best : (km : ℕ) (c : Candidate) → get (ledger_after m l cs) km ≡ Some c → BestCandidate m km c

-- a single claim about the list
pub record ListRight (m : Map) (l : Ledger) (cs : List Call) : Type 0 where
  pub each : EachRight m l cs
  pub ledger : LedgerRight m l cs

abbrev pub ListPromise : Map → Type 0
ListPromise m = (places : List Entry) (cs : List Call) → ListRight m (fresh places) cs

-- ---- demand 3

pub record Demand3 (m : Map) : Type 0 where
  pub search : SearchPromise m
  pub answers : SearchAnswers m
  pub list : ListPromise m

-- the theorem, proved in proofs/
abbrev pub Theorem : Type 0
Theorem = (m : Map) → Accepted m → Fair m.globe → Demand3 m
