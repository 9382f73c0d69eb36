-- The smallest-radius call.
use Rattle.std.specs.Prelude.{Result, ℕ, List, [], ◌∷◌, ◌++◌, Float}
use Rattle.grid.specs.declared.Grid.{Grid}
use Rattle.grid.specs.declared.refusal.Refusal.{Refusal}
use Rattle.grid.specs.Map.{Map}
use Rattle.grid.specs.Answer.{Question, question, first_no, Answer, decide, after, shown}
use Rattle.grid.specs.Refusal.{answer_of}
use Rattle.grid.specs.Questions.{map_questions}
use Rattle.spacing.specs.declared.Spacing.{Spacing}
use Rattle.spacing.specs.Spacing.{spacing_given}
use Rattle.most_populous.specs.Call.{Buffers, buffers, buffers_fit, buffers_after}
use Rattle.ledger.specs.declared.Ledger.{Ledger}
use Rattle.ledger.specs.Ledger.{ledger_in_order, places_free}
use Rattle.climb.specs.Climb.{most_radii}
use Rattle.share.specs.Target.{share_in_range}
use Rattle.probes.specs.declared.Smallest.{Smallest}
use Rattle.probes.specs.Smallest.{smallest}

-- the questions of the call after the map's and that of the buffers
unfoldable pub own_questions : Grid → Spacing → Float → Ledger → List Question
own_questions g spacing share l =
    question 9 (share_in_range share) ∷ question 10 (spacing_given spacing) ∷ question 11 (ledger_in_order g l) ∷ question 12 (places_free l most_radii) ∷ []

-- the questions of the call after the map's
abbrev pub smallest_own : Grid → Spacing → Float → Ledger → Buffers → List Question
smallest_own g spacing share l lent = question 7 (buffers_fit g lent) ∷ own_questions g spacing share l

unfoldable pub smallest_questions : Map → Spacing → Float → Ledger → Buffers → List Question
smallest_questions m spacing share l lent = map_questions m ++ smallest_own m.globe.grid spacing share l lent

-- what the call gives: its answer, the ledger after it, and what it was lent as it leaves it
pub record SmallestOutcome : Type 0 where
  pub answer : Answer Smallest
  pub ledger : Ledger
  pub lent : Buffers

-- the smallest radius, or the first refusal, which leaves the ledger and what was lent
unfoldable pub smallest_call : Map → Spacing → Float → Ledger → Buffers → SmallestOutcome
smallest_call m spacing share l lent =
    let settled = smallest m spacing share l in
    let answer = decide (first_no (smallest_questions m spacing share l lent)) settled.answer in
    record { answer = answer; ledger = after answer settled.ledger l; lent = buffers_after answer m lent }

-- what a call has given: its answer, and the ledger and the buffers as it leaves them, the level buffers as far as they are stated
abbrev pub smallest_gave : Result Smallest Refusal → Ledger → List ℕ → List ℕ → List ℕ → SmallestOutcome
smallest_gave r l sums current following =
    let answer = answer_of r in
    record { answer = answer; ledger = l; lent = buffers sums (shown answer current) (shown answer following) }

-- opens all of the above, for facts that are computed
unfoldable pub open_smallest_calls : Unit {0}
unfolding own_questions smallest_questions smallest_call
open_smallest_calls = tt
