-- The grid's questions, then 11 of the ledger and the entry, then 12.
use Rattle.std.proofs.Common.{rules, refl}
use Rattle.put.specs.Call.{put_questions}
use Rattle.grid.proofs.General.{said_no, said_yes}
use Rattle.grid.proofs.Answers.{says_yes, says_no, says_all, refused_stands, past_grid}
use Rattle.put.proofs.call.put_asked.Goals as goal

pub returns-in_err-grid_asked : goal.returns-in_err-grid_asked
unfolding put_questions
returns-in_err-grid_asked c = search (rules, refused_stands)

pub returns-then-not-ledger_in_order : goal.returns-then-not-ledger_in_order
unfolding put_questions
returns-then-not-ledger_in_order c =
    past_grid _ _ _ c.in_ok-grid_asked.ensures (says_no _ 10 _ (rw (said_no c.ledger_in_order.ensures c.if-not-ledger_in_order.true)))

pub returns-then-not-entry_in_bounds : goal.returns-then-not-entry_in_bounds
unfolding put_questions
returns-then-not-entry_in_bounds c =
    past_grid _ _ _ c.in_ok-grid_asked.ensures
    (says_no _ 10 _ (rw (said_yes c.ledger_in_order.ensures c.if-not-ledger_in_order.false, said_no c.entry_in_bounds.ensures c.if-not-entry_in_bounds.true)))

pub returns-then-not-place_for : goal.returns-then-not-place_for
unfolding put_questions
returns-then-not-place_for c =
    past_grid _ _ _ c.in_ok-grid_asked.ensures
    (says_yes _ 11 _ (rw (said_yes c.ledger_in_order.ensures c.if-not-ledger_in_order.false, said_yes c.entry_in_bounds.ensures c.if-not-entry_in_bounds.false))
    (says_no _ 11 _ (said_no c.place_for.ensures c.if-not-place_for.true)))

pub returns : goal.returns
unfolding put_questions
returns c =
    past_grid _ _ _ c.in_ok-grid_asked.ensures
    (says_yes _ 11 _ (rw (said_yes c.ledger_in_order.ensures c.if-not-ledger_in_order.false, said_yes c.entry_in_bounds.ensures c.if-not-entry_in_bounds.false))
    (says_yes _ 12 _ (said_yes c.place_for.ensures c.if-not-place_for.false) (says_all _ refl)))
