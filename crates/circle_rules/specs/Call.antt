-- The single-circle call.
use Rattle.std.specs.Prelude.{Result, ℕ, List, [], ◌∷◌, ◌++◌}
use Rattle.floats.specs.Binary.{whole}
use Rattle.grid.specs.declared.Cell.{Cell}
use Rattle.grid.specs.declared.Grid.{Grid}
use Rattle.grid.specs.Map.{Map}
use Rattle.grid.specs.Grid.{on_grid}
use Rattle.grid.specs.declared.refusal.Refusal.{Refusal}
use Rattle.grid.specs.Answer.{Question, question, first_no, Answer, decide, after}
use Rattle.grid.specs.Refusal.{answer_of}
use Rattle.grid.specs.Questions.{map_questions, radius_in_range}
use Rattle.sums.specs.Sums.{sums_fit, filled_sums}
use Rattle.circle_cells.specs.Circle.{population}

-- the questions of the call after the map's
abbrev pub circle_own : Grid → List ℕ → ℕ → Cell → List Question
circle_own g sums km centre = question 7 (sums_fit g sums) ∷ question 8 (radius_in_range g km) ∷ question 8 (on_grid g centre) ∷ []

unfoldable pub circle_questions : Map → List ℕ → ℕ → Cell → List Question
circle_questions m sums km centre = map_questions m ++ circle_own m.globe.grid sums km centre

-- what the call gives: its answer, and the sums buffer after it
pub record CircleOutcome : Type 0 where
  pub answer : Answer ℕ
  pub sums : List ℕ

unfoldable pub circle_call : Map → List ℕ → ℕ → Cell → CircleOutcome
circle_call m sums km centre =
    let answer = decide (first_no (circle_questions m sums km centre)) (population m (whole km) centre) in
    record { answer = answer; sums = after answer (filled_sums m sums) sums }

-- what the code's call gave: its answer, and the sums as it left them
abbrev pub circle_gave : Result ℕ Refusal → List ℕ → CircleOutcome
circle_gave r sums = record { answer = answer_of r; sums = sums }
