-- The search call.
use Rattle.std.specs.Prelude.{Result, ℕ, List, [], ◌∷◌, ◌++◌, Bool, ◌&&◌, length, leb}
use Rattle.grid.specs.declared.Grid.{Grid}
use Rattle.grid.specs.Map.{Map}
use Rattle.grid.specs.Grid.{cells}
use Rattle.grid.specs.declared.refusal.Refusal.{Refusal}
use Rattle.grid.specs.Answer.{Question, question, first_no, Answer, decide, after, shown}
use Rattle.grid.specs.Refusal.{answer_of}
use Rattle.grid.specs.Questions.{map_questions}
use Rattle.sums.specs.Sums.{sums_fit, filled_sums}
use Rattle.grid.specs.Questions.{radius_in_range}
use Rattle.spacing.specs.declared.Spacing.{Spacing}
use Rattle.spacing.specs.Spacing.{spacing_given}
use Rattle.search_rules.specs.declared.MostPopulous.{MostPopulous}
use Rattle.search_rules.specs.Search.{search}

-- the buffers that a call is lent: the sums and two level buffers
pub record Buffers : Type 0 where
  pub sums : List ℕ
  pub current : List ℕ
  pub following : List ℕ

abbrev pub buffers : List ℕ → List ℕ → List ℕ → Buffers
buffers sums current following = record { sums = sums; current = current; following = following }

-- question 7
unfoldable pub buffers_fit : Grid → Buffers → Bool
buffers_fit g lent = sums_fit g lent.sums && leb (cells g) (length lent.current) && leb (cells g) (length lent.following)

-- the buffers after a call: the sums whole, the level buffers as far as they are stated
unfoldable pub buffers_after : {A : Type 0} → Answer A → Map → Buffers → Buffers
buffers_after answer m lent =
    buffers (after answer (filled_sums m lent.sums) lent.sums) (shown answer lent.current) (shown answer lent.following)

-- the questions of the call after the map's
abbrev pub search_own : Grid → Spacing → ℕ → Buffers → List Question
search_own g spacing km lent = question 7 (buffers_fit g lent) ∷ question 8 (radius_in_range g km) ∷ question 10 (spacing_given spacing) ∷ []

unfoldable pub search_questions : Map → Spacing → ℕ → Buffers → List Question
search_questions m spacing km lent = map_questions m ++ search_own m.globe.grid spacing km lent

-- what the call gives: its answer, and what it was lent as it leaves it
pub record SearchOutcome : Type 0 where
  pub answer : Answer MostPopulous
  pub lent : Buffers

-- the search of a map whose questions are all answered yes, or the number of the first that is not
unfoldable pub search_call : Map → Spacing → ℕ → Buffers → SearchOutcome
search_call m spacing km lent =
    let answer = decide (first_no (search_questions m spacing km lent)) (search m spacing km) in
    record { answer = answer; lent = buffers_after answer m lent }

-- what the code's call gave: its answer, and its buffers as it left them, the level buffers as far as they are stated
abbrev pub search_gave : Result MostPopulous Refusal → List ℕ → List ℕ → List ℕ → SearchOutcome
search_gave r sums current following =
    record { answer = answer_of r; lent = buffers sums (shown (answer_of r) current) (shown (answer_of r) following) }

-- opens all of the above, for facts that are computed
unfoldable pub open_search_calls : Unit {0}
unfolding buffers_fit buffers_after search_questions search_call
open_search_calls = tt
