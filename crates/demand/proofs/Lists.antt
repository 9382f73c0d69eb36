-- A list of smallest-radius calls from a fresh ledger, where the search names the best circle: each call is right, and so is the ledger after it.
use Prim.Native.Nat.{ℕ, zero, suc, ◌+◌, ◌≤◌, ◌<◌}
use mathlib.Core.Path.{◌≡◌, refl, sym, ap, ◌∙◌}
use mathlib.Core.Bool.{Bool, true, false, ◌||◌}
use mathlib.Core.List.{List, [], ◌∷◌}
use native.Mathlib.Omega.{arith}
use lib.Dec.{T}
use lib.ListN.{length}
use Rattle.std.specs.Option.{is_some}
use Rattle.std.proofs.Common.{Some, None}
use Rattle.lists.proofs.Bools.{is_true, of_true, or_none, or_assoc}
use Rattle.grid.specs.Grid.{ceiling}
use Rattle.grid.specs.Map.{Map}
use Rattle.grid.specs.Answer.{Question, question, first_no, Answer, answered, refused, decide, after}
use Rattle.grid.proofs.Answers.{yes_to, after_map, decide_yes, decide_no, not_answered}
use Rattle.spacing.specs.declared.Spacing.{Spacing}
use Rattle.spacing.specs.Spacing.{spacing_given}
use Rattle.candidates.specs.declared.Candidate.{Candidate}
use Rattle.search_rules.specs.Search.{search}
use Rattle.most_populous.specs.Call.{buffers_fit}
use Rattle.ledger.specs.declared.Entry.{Entry}
use Rattle.ledger.specs.declared.Ledger.{Ledger}
use Rattle.ledger.specs.Ledger.{capacity, entries, find, get, rising_from, all_in_bounds, places_free}
use Rattle.ledger.proofs.Laws.{there_get, get_there, in_order, places_free_lem}
use Rattle.climb.specs.Climb.{most_radii}
use Rattle.share.specs.Target.{share_in_range}
use Rattle.probes.specs.declared.Smallest.{Smallest}
use Rattle.probes.specs.Probes.{smallest_run}
use Rattle.probes.specs.Smallest.{smallest}
use Rattle.smallest_rules.specs.Call.{own_questions, smallest_questions, smallest_call}
use Rattle.smallest_rules.proofs.FewRadii.{few_radii}
use Rattle.demand.specs.Demand3.{Accepted, BestCandidate, Call, called, fresh, ledger_after, AnsweredRight, CallRight, EachRight, trace_of, probes_of, call_probes, evaluated_at, evaluated_by, evaluated_of, radii_evaluated_of, ListPromise}
use Rattle.demand.proofs.Runs.{BestLedger}
use Rattle.demand.proofs.Answers.{SettledRight, smallest_right}

-- what the search is to name: the best circle at every kilometre below the ceiling
abbrev pub SearchedBest : Map → Type 0
SearchedBest m =
    (spacing : Spacing) → T (spacing_given spacing) → (km : ℕ) → km < ceiling m.globe.grid → BestCandidate m km (search m spacing km).centre

-- the questions that a call of the list may be refused by
abbrev asked : Map → Ledger → Call → List Question
asked m l c =
    question 7 (buffers_fit m.globe.grid c.lent) ∷ question 9 (share_in_range c.share) ∷ question 10 (spacing_given c.spacing)
    ∷ question 12 (places_free l most_radii) ∷ []

-- a question answered "yes" may be left out
eleven : (p q r s t : Bool) → s ≡ true
    → first_no (question 7 p ∷ question 9 q ∷ question 10 r ∷ question 11 s ∷ question 12 t ∷ []) ≡ first_no (question 7 p ∷ question 9 q ∷ question 10 r ∷ question 12 t ∷ [])
unfolding first_no
eleven p q r s t e = rw e

-- ---- one call

-- a ledger of the list has room for what the list holds
pub record ListLedger (m : Map) (l : Ledger) : Type 0 where
  pub best : BestLedger m l
  pub room : l.len ≤ capacity

-- a call of the list, given the ledger l: right, and the ledger after it one of the list, with an entry for each probe evaluated
pub record CallDone (m : Map) (l : Ledger) (c : Call) : Type 0 where
  pub right : CallRight m l c
  pub ledger : ListLedger m (called m l c).ledger
  pub gained : length (entries (called m l c).ledger) ≡ length (entries l) + evaluated_of (called m l c).answer
  pub kept : (km : ℕ) → is_some (get (called m l c).ledger km) ≡ (is_some (get l km) || evaluated_at km (call_probes m l c))

module _ (m : Map) (a : Accepted m) (l : Ledger) (c : Call) where
  judged : ListLedger m l → (called m l c).answer ≡ decide (first_no (asked m l c)) (smallest m c.spacing c.share l).answer
  unfolding called smallest_call smallest_questions own_questions
  judged s =
      ap (λ n. decide n (smallest m c.spacing c.share l).answer)
      (sym (after_map m _ a.asked refl)
      ∙ eleven _ _ _ _ _ (in_order m.globe.grid l s.room s.best.rising s.best.bounded))

  -- the ledger after an answer and after a refusal
  ledger_answered : (x : Smallest) → (called m l c).answer ≡ answered x → (called m l c).ledger ≡ (smallest m c.spacing c.share l).ledger
  unfolding called smallest_call after
  ledger_answered x e = ap (λ (y : Answer Smallest). after y (smallest m c.spacing c.share l).ledger l) e

  ledger_refused : (n : ℕ) → (called m l c).answer ≡ refused n → (called m l c).ledger ≡ l
  unfolding called smallest_call after
  ledger_refused n e = ap (λ (y : Answer Smallest). after y (smallest m c.spacing c.share l).ledger l) e

  -- refused
  refused_done : ListLedger m l → (n : ℕ) → (called m l c).answer ≡ refused n → CallDone m l c
  unfolding call_probes probes_of evaluated_of evaluated_at
  refused_done s n e =
      let same = ledger_refused n e in
      record {
        right = record { judged = judged s; kept = ledger_refused; right = λ x q. absurd (not_answered n x (sym e ∙ q)) };
        ledger = rw same s;
        gained = rw (same, e) (omega arith);
        kept = λ km. rw (same, e) (or_none (is_some (get l km)));
      }

  -- answered
  module _ (s : ListLedger m l) (free : places_free l most_radii ≡ true) (e : (called m l c).answer ≡ answered (smallest m c.spacing c.share l).answer)
      (r : SettledRight m l c.share (trace_of (smallest_run m c.spacing c.share l)) (smallest m c.spacing c.share l)) where
    answered_right : AnsweredRight m l c (smallest m c.spacing c.share l).answer
    unfolding called
    answered_right =
        record {
          radius = r.radius;
          target = r.target;
          best = r.best;
          reached = r.reached;
          short = r.short;
          witness = r.witness;
          gained = rw (ledger_answered _ e, r.evaluated) r.run.gained;
          bounded = few_radii m c.spacing c.share l c.lent _ e;
        }

    answered_done : CallDone m l c
    unfolding call_probes probes_of evaluated_of
    answered_done =
        let after_is = ledger_answered _ e in
        record {
          right = record { judged = judged s; kept = ledger_refused; right = λ x q. same x (sym e ∙ q) };
          ledger = rw after_is
              (record { best = r.run.ledger; room = omega (arith, r.run.ledger.counted, r.run.gained, r.evaluated, answered_right.bounded, s.best.counted, places_free_lem l most_radii free) });
          gained = rw (after_is, e, r.evaluated) r.run.gained;
          kept = λ km. rw (after_is, e) (r.run.kept km);
        }
      where
        same : (x : Smallest) → answered (smallest m c.spacing c.share l).answer ≡ answered x → AnsweredRight m l c x
        same x q = let is : (smallest m c.spacing c.share l).answer ≡ x = cc in rw (← is) answered_right

  pub call_done : SearchedBest m → ListLedger m l → CallDone m l c
  call_done searched s = by (first_no (asked m l c)) refl
    where
      by : (n : ℕ) → first_no (asked m l c) ≡ n → CallDone m l c
      by zero e =
          let said = yes_to (asked m l c) refl e in
          answered_done s (said 12).0 (judged s ∙ decide_yes _ _ e)
          (smallest_right m a c.spacing c.share l s.best (searched c.spacing (of_true _ (said 10).0)))
      by (suc k) e = refused_done s (suc k) (judged s ∙ decide_no (suc k) _ _ (sym e) (λ z. omega (arith, z)))

-- ---- the list

pub record ListDone (m : Map) (l : Ledger) (cs : List Call) : Type 0 where
  pub each : EachRight m l cs
  pub ledger : ListLedger m (ledger_after m l cs)
  pub number : length (entries (ledger_after m l cs)) ≡ length (entries l) + radii_evaluated_of m l cs
  pub kept : (km : ℕ) → is_some (get (ledger_after m l cs) km) ≡ (is_some (get l km) || evaluated_by m l cs km)

-- a fresh ledger is one of the list, with no entry
module _ (places : List Entry) where
  fresh_ledger_lem : (m : Map) → ListLedger m (fresh places)
  unfolding fresh entries get find rising_from all_in_bounds
  fresh_ledger_lem m =
      record { best = record { counted = refl; rising = refl; bounded = refl; best = λ km c e. absurd (never c e) }; room = omega arith }
    where
      never : (c : Candidate) → None ≡ Some c → ⊥
      never c z = let o : ◌≡◌ {A = ℕ} 0 1 = cc in omega arith

  fresh_none : length (entries (fresh places)) ≡ 0
  unfolding fresh entries
  fresh_none = refl

  fresh_lacks : (km : ℕ) → is_some (get (fresh places) km) ≡ false
  unfolding fresh entries get find
  fresh_lacks km = refl

module _ (m : Map) (a : Accepted m) (searched : SearchedBest m) where
  list_done : (l : Ledger) (cs : List Call) → ListLedger m l → ListDone m l cs
  unfolding ledger_after radii_evaluated_of evaluated_by
  list_done l [] s = record { each = tt; ledger = s; number = omega arith; kept = λ km. or_none (is_some (get l km)) }
  list_done l (c ∷ cs) s =
      let first = call_done m a l c searched s in
      let rest = list_done (called m l c).ledger cs first.ledger in
      record {
        each = (first.right, rest.each);
        ledger = rest.ledger;
        number = omega (arith, first.gained, rest.number);
        kept = λ km. rest.kept km ∙ rw (first.kept km) (or_assoc (is_some (get l km)) (evaluated_at km (call_probes m l c)) (evaluated_by m (called m l c).ledger cs km));
      }

  -- THE LIST PART OF DEMAND 3
  pub list_promise : ListPromise m
  list_promise places cs =
      let l = fresh places in
      let done = list_done l cs (fresh_ledger_lem places m) in
      let kept : (km : ℕ) → is_some (get (ledger_after m l cs) km) ≡ evaluated_by m l cs km = λ km. rw (fresh_lacks places km) at (done.kept km) in
      record {
        each = done.each;
        ledger = record {
          rising = of_true _ done.ledger.best.rising;
          number = done.number ∙ ap (λ n. n + radii_evaluated_of m l cs) (fresh_none places) ∙ omega arith;
          held = λ km t. there_get (ledger_after m l cs) km (kept km ∙ is_true _ t);
          only = λ km c e. of_true _ (sym (kept km) ∙ get_there (ledger_after m l cs) km c e);
          best = done.ledger.best.best;
        };
      }
