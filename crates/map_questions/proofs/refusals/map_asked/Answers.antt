-- The grid's refusal, question 4, or the sheet's refusal.
use Rattle.std.proofs.Common.{rules}
use Rattle.grid.specs.Questions.{map_questions, counts_complete}
use Rattle.grid.proofs.General.{said_no, said_yes}
use Rattle.grid.proofs.Answers.{says_yes, says_no, refused_stands, past_grid}
use Rattle.map_questions.proofs.refusals.map_asked.Goals as goal

pub returns-in_err-grid_asked : goal.returns-in_err-grid_asked
unfolding map_questions
returns-in_err-grid_asked c = search (rules, refused_stands)

pub returns-then-not-counts_complete : goal.returns-then-not-counts_complete
unfolding map_questions counts_complete
returns-then-not-counts_complete c =
    past_grid _ _ _ c.in_ok-grid_asked.ensures (says_no _ 3 _ (said_no c.counts_complete.ensures c.if-not-counts_complete.true))

pub returns : goal.returns
unfolding map_questions counts_complete
returns c =
    past_grid _ _ _ c.in_ok-grid_asked.ensures (says_yes _ 4 _ (said_yes c.counts_complete.ensures c.if-not-counts_complete.false) c.sheet_asked.ensures)
