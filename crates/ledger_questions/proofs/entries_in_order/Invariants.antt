-- Invariant: the question is left to the entries from this one on, the first of them not below least.
use Rattle.std.proofs.Common.{◌≡◌, drop}
use Rattle.ledger.proofs.Places.{order_from}
use Rattle.ledger_questions.proofs.entries_in_order.Given as goal

abbrev pub invariant-loop-entry : goal.invariant-loop-entry
invariant-loop-entry l = order_from l.fn.grid 0 l.entries ≡ order_from l.fn.grid l.least (drop l.entry-index l.entries)
