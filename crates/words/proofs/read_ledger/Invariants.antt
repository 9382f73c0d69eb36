-- Invariant: the places before i are read.
use Rattle.std.proofs.Common.{◌≡◌}
use Rattle.lists.specs.Front.{over}
use Rattle.words.specs.Words.{word_at, place_at}
use Rattle.words.proofs.read_ledger.Given as goal

abbrev pub invariant-loop-i : goal.invariant-loop-i
invariant-loop-i l = (l.ledger.len ≡ word_at l.words 0) × (l.ledger.places ≡ over (place_at l.words) l.i l.initial.ledger.places)
