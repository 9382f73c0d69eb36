-- The put call.
use Rattle.std.specs.Prelude.{Result, ◌&&◌, List, [], ◌∷◌, ◌++◌}
use Rattle.grid.specs.declared.Grid.{Grid}
use Rattle.grid.specs.declared.refusal.Refusal.{Refusal}
use Rattle.grid.specs.Answer.{Question, question, first_no, Answer, decide, after}
use Rattle.grid.specs.Refusal.{answer_of}
use Rattle.grid.specs.Questions.{grid_questions}
use Rattle.ledger.specs.declared.Entry.{Entry}
use Rattle.ledger.specs.declared.Ledger.{Ledger}
use Rattle.ledger.specs.Ledger.{get, put, entry_in_bounds, ledger_in_order, place_for}

unfoldable pub put_questions : Grid → Ledger → Entry → List Question
put_questions g l x = grid_questions g ++ question 11 (ledger_in_order g l && entry_in_bounds g x) ∷ question 12 (place_for l (get l x.km.0)) ∷ []

-- what the call gives: its answer, and the ledger after it
pub record PutOutcome : Type 0 where
  pub answer : Answer (Unit {0})
  pub ledger : Ledger

-- a put, or the first refusal, which leaves the ledger
unfoldable pub put_call : Grid → Ledger → Entry → PutOutcome
put_call g l x =
    let answer = decide (first_no (put_questions g l x)) tt in
    record { answer = answer; ledger = after answer (put l x) l }

-- what a put has given: its answer, and the ledger as it is then
abbrev pub put_gave : Result (Unit {0}) Refusal → Ledger → PutOutcome
put_gave answer l = record { answer = answer_of answer; ledger = l }
