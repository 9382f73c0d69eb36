-- Invariant: the array has all its places, and the words of those before i are written.
use Rattle.std.proofs.Common.{◌≡◌, length}
use Rattle.lists.specs.Front.{onto}
use Rattle.ledger.specs.Ledger.{capacity}
use Rattle.words.proofs.Places.{up_to}
use Rattle.words.proofs.write_ledger.Given as goal

abbrev pub invariant-loop-i : goal.invariant-loop-i
invariant-loop-i l = (length l.ledger.places ≡ capacity) × (l.words ≡ onto (up_to l.initial.words l.ledger.places l.i) l.initial.words)
