-- The single-circle call: what its questions have passed, and what an answer and a refusal leave.
use Prim.Native.Nat.{ℕ}
use mathlib.Core.Path.{◌≡◌, refl}
use mathlib.Core.List.{List}
use Rattle.floats.specs.Binary.{whole}
use Rattle.grid.specs.declared.Cell.{Cell}
use Rattle.grid.specs.declared.RadiusKm.{RadiusKm}
use Rattle.grid.specs.Map.{Map}
use Rattle.grid.specs.Answer.{first_no, answered, refused, decide, after}
use Rattle.grid.proofs.Answers.{PassedCall, map_then, decide_yes, refused_alike}
use Rattle.sums.specs.Sums.{filled_sums}
use Rattle.circle_cells.specs.Circle.{population}
use Rattle.circle_rules.specs.Call.{circle_own, circle_questions, circle_call}

-- ---- the questions of the call

module _ (m : Map) (sums : List ℕ) (km : ℕ) (centre : Cell) where
  pub circle_passed : first_no (circle_questions m sums km centre) ≡ 0 → PassedCall m (circle_own m.globe.grid sums km centre)
  unfolding circle_questions
  circle_passed e = map_then m (circle_own m.globe.grid sums km centre) refl e

  -- ---- what the call gives

  pub circle_refused : (n : ℕ) (r : RadiusKm) → refused n ≡ decide (first_no (circle_questions m sums km centre)) r
      → record { answer = refused n; sums = sums } ≡ circle_call m sums km centre
  unfolding circle_call after
  circle_refused n r e = rw (refused_alike n (first_no (circle_questions m sums km centre)) r (population m (whole km) centre) e)

  pub circle_answered : (people : ℕ) (last : List ℕ) → first_no (circle_questions m sums km centre) ≡ 0 → people ≡ population m (whole km) centre
      → last ≡ filled_sums m sums → record { answer = answered people; sums = last } ≡ circle_call m sums km centre
  unfolding circle_call after
  circle_answered people last e p l = rw (decide_yes (first_no (circle_questions m sums km centre)) (population m (whole km) centre) e, p, l)
