-- The smallest-radius call: what its questions have passed, and what an answer and a refusal leave.
use Prim.Native.Nat.{ℕ}
use mathlib.Core.Path.{◌≡◌, refl}
use mathlib.Core.Bool.{true}
use mathlib.Core.List.{List}
use Rattle.std.specs.Prelude.{Ok, Err}
use lib.Ieee.{Float}
use lib.ListN.{length}
use Rattle.grid.specs.Map.{Map}
use Rattle.grid.specs.declared.refusal.Refusal.{Refusal}
use Rattle.grid.specs.Refusal.{refusal_number}
use Rattle.grid.specs.Answer.{first_no, refused, decide, after, shown}
use Rattle.grid.specs.Questions.{map_questions}
use Rattle.grid.proofs.Answers.{PassedCall, after_map, map_then, decide_yes, refused_before, refused_alike}
use Rattle.sums.specs.Sums.{filled_sums}
use Rattle.spacing.specs.declared.Spacing.{Spacing}
use Rattle.most_populous.specs.Call.{Buffers, buffers_after}
use Rattle.ledger.specs.declared.Ledger.{Ledger}
use Rattle.ledger.specs.Ledger.{ledger_in_order, places_free}
use Rattle.climb.specs.Climb.{most_radii}
use Rattle.probes.specs.Smallest.{smallest}
use Rattle.probes.specs.declared.Smallest.{Smallest}
use Rattle.smallest_rules.specs.Call.{own_questions, smallest_own, smallest_questions, smallest_call, smallest_gave}
use Rattle.smallest_rules.specs.State.{IsSettled}

-- ---- the questions

module _ (m : Map) (spacing : Spacing) (share : Float) (l : Ledger) (lent : Buffers) where
  pub smallest_passed : first_no (smallest_questions m spacing share l lent) ≡ 0 → PassedCall m (smallest_own m.globe.grid spacing share l lent)
  unfolding smallest_questions own_questions
  smallest_passed e = map_then m (smallest_own m.globe.grid spacing share l lent) refl e

  -- a refusal by the map's questions stands; without one the call's own decide
  pub map_refused : {n : ℕ} → n ≡ first_no (map_questions m) → (n ≡ 0 → ⊥) → n ≡ first_no (smallest_questions m spacing share l lent)
  unfolding smallest_questions
  map_refused e h = refused_before (map_questions m) (smallest_own m.globe.grid spacing share l lent) e h

  pub own_asked : {n : ℕ} → first_no (map_questions m) ≡ 0 → n ≡ first_no (smallest_own m.globe.grid spacing share l lent)
      → n ≡ first_no (smallest_questions m spacing share l lent)
  unfolding smallest_questions
  own_asked e h = after_map m (smallest_own m.globe.grid spacing share l lent) e h

  -- ---- what the call gives

  pub smallest_refused : (r : Refusal) → refused (refusal_number r) ≡ decide (first_no (smallest_questions m spacing share l lent)) (tt {0})
      → smallest_gave (Err r) l lent.sums lent.current lent.following ≡ smallest_call m spacing share l lent
  unfolding smallest_call buffers_after after shown
  smallest_refused r e = rw (refused_alike (refusal_number r) (first_no (smallest_questions m spacing share l lent)) tt (smallest m spacing share l).answer e)

  pub smallest_answered : (a : Smallest) (l' : Ledger) (sums current following : List ℕ) → first_no (smallest_questions m spacing share l lent) ≡ 0
      → IsSettled (smallest m spacing share l) a l' → sums ≡ filled_sums m lent.sums → length current ≡ length lent.current → length following ≡ length lent.following
      → smallest_gave (Ok a) l' sums current following ≡ smallest_call m spacing share l lent
  unfolding smallest_call buffers_after after shown
  smallest_answered a l' sums current following e f s n k =
      rw (decide_yes (first_no (smallest_questions m spacing share l lent)) (smallest m spacing share l).answer e, f.answer, f.ledger, s, n, k)

-- ---- what an accepted call knows of its ledger

module _ (m : Map) (spacing : Spacing) (share : Float) (l : Ledger) (lent : Buffers) (p : PassedCall m (smallest_own m.globe.grid spacing share l lent)) where
  pub ledger_ordered : ledger_in_order m.globe.grid l ≡ true
  unfolding own_questions
  ledger_ordered = (p.yes 11).0

  pub room_left : places_free l most_radii ≡ true
  unfolding own_questions
  room_left = (p.yes 12).0
