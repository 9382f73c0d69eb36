-- `circle_rules::circle_asked`: one question after another.
use Rattle.std.proofs.Common.{sym, ◌∙◌}
use Rattle.circle_rules.specs.Call.{circle_questions}
use Rattle.grid.proofs.General.{said_no, said_yes}
use Rattle.grid.proofs.RadiusCalls.{no_room, no_radius, own_no, asked_all}
use Rattle.circle_rules.proofs.circle_asked.Goals as goal

pub returns-then-not-sums_fit : goal.returns-then-not-sums_fit
unfolding circle_questions
returns-then-not-sums_fit c = no_room _ _ _ _ _ c.in_ok-map_asked.ensures (said_no c.sums_fit.ensures c.if-not-sums_fit.true)

pub returns-in_default : goal.returns-in_default
unfolding circle_questions
returns-in_default c = no_radius _ _ _ _ _ c.in_ok-map_asked.ensures (said_yes c.sums_fit.ensures c.if-not-sums_fit.false) (sym c.new.ensures ∙ c.in_default.is)

pub returns-then-not-on_grid : goal.returns-then-not-on_grid
unfolding circle_questions
returns-then-not-on_grid c =
    own_no _ _ _ _ _ c.in_ok-map_asked.ensures (said_yes c.sums_fit.ensures c.if-not-sums_fit.false) _ (sym c.new.ensures ∙ c.in-Some.is)
    (said_no c.on_grid.ensures c.if-not-on_grid.true)

pub returns : goal.returns
unfolding circle_questions
returns c =
    asked_all _ _ _ _ _ c.in_ok-map_asked.ensures (said_yes c.sums_fit.ensures c.if-not-sums_fit.false) _ (sym c.new.ensures ∙ c.in-Some.is)
    (said_yes c.on_grid.ensures c.if-not-on_grid.false)
