-- Question 11 of the entries from one on, by the entry there.
use Rattle.std.proofs.Common.{sym, ◌∙◌, arith}
use Rattle.grid.proofs.Body.{ceiling_most}
use Rattle.ledger.proofs.Places.{order_next, order_stop, order_end, km_below}
use Rattle.ledger_questions.proofs.entries_in_order.Goals as goal

pub returns-then-not-follows : goal.returns-then-not-follows
returns-then-not-follows c = sym (c.loop-entry.invariant ∙ order_stop _ _ _ c.loop-entry-test.true _ _ (sym c.follows.ensures ∙ c.if-not-follows.true))

pub overflow_add-least : goal.overflow_add-least
overflow_add-least c = omega (arith, ceiling_most c.args.grid, km_below c.args.grid c.loop-entry.least _ (sym c.follows.ensures ∙ c.if-not-follows.false))

pub loop-entry-preserved : goal.loop-entry-preserved
loop-entry-preserved c = c.loop-entry.invariant ∙ order_next _ _ _ c.loop-entry-test.true _ _ (sym c.follows.ensures ∙ c.if-not-follows.false)

pub returns : goal.returns
returns c = sym (c.loop-entry.invariant ∙ order_end _ _ _ _ c.loop-entry-test.false)
