-- `smallest::call::smallest_asked`: the questions of a map, that of the buffers, and the call's own.
use Rattle.std.proofs.Common.{rules}
use Rattle.smallest_rules.specs.Call.{smallest_questions}
use Rattle.grid.proofs.General.{said_no, said_yes}
use Rattle.grid.proofs.Answers.{says_yes, says_no, refused_stands, past_map}
use Rattle.smallest.proofs.call.smallest_asked.Goals as goal

pub returns-in_err-map_asked : goal.returns-in_err-map_asked
unfolding smallest_questions
returns-in_err-map_asked c = search (rules, refused_stands)

pub returns-then-not-buffers_fit : goal.returns-then-not-buffers_fit
unfolding smallest_questions
returns-then-not-buffers_fit c =
    past_map _ _ _ c.in_ok-map_asked.ensures (says_no _ 6 _ (said_no c.buffers_fit.ensures c.if-not-buffers_fit.true))

pub returns : goal.returns
unfolding smallest_questions
returns c =
    past_map _ _ _ c.in_ok-map_asked.ensures (says_yes _ 7 _ (said_yes c.buffers_fit.ensures c.if-not-buffers_fit.false) c.own_asked.ensures)
