-- `most_populous::call::search_asked`: one question after another.
use Rattle.std.proofs.Common.{sym, ◌∙◌}
use Rattle.most_populous.specs.Call.{search_questions}
use Rattle.grid.proofs.General.{said_no, said_yes}
use Rattle.grid.proofs.RadiusCalls.{no_room, no_radius, own_no, asked_all}
use Rattle.most_populous.proofs.call.search_asked.Goals as goal

pub returns-then-not-buffers_fit : goal.returns-then-not-buffers_fit
unfolding search_questions
returns-then-not-buffers_fit c = no_room _ _ _ _ _ c.in_ok-map_asked.ensures (said_no c.buffers_fit.ensures c.if-not-buffers_fit.true)

pub returns-in_default : goal.returns-in_default
unfolding search_questions
returns-in_default c = no_radius _ _ _ _ _ c.in_ok-map_asked.ensures (said_yes c.buffers_fit.ensures c.if-not-buffers_fit.false) (sym c.new.ensures ∙ c.in_default.is)

pub returns-then-not-spacing_given : goal.returns-then-not-spacing_given
unfolding search_questions
returns-then-not-spacing_given c =
    own_no _ _ _ _ _ c.in_ok-map_asked.ensures (said_yes c.buffers_fit.ensures c.if-not-buffers_fit.false) _ (sym c.new.ensures ∙ c.in-Some.is)
    (said_no c.spacing_given.ensures c.if-not-spacing_given.true)

pub returns : goal.returns
unfolding search_questions
returns c =
    asked_all _ _ _ _ _ c.in_ok-map_asked.ensures (said_yes c.buffers_fit.ensures c.if-not-buffers_fit.false) _ (sym c.new.ensures ∙ c.in-Some.is)
    (said_yes c.spacing_given.ensures c.if-not-spacing_given.false)
