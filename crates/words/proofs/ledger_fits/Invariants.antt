-- Invariant: the places before i fit.
use Rattle.std.proofs.Common.{◌≡◌, true}
use Rattle.lists.specs.Counted.{all_below}
use Rattle.words.specs.Words.{place_fits}
use Rattle.words.proofs.ledger_fits.Given as goal

abbrev pub invariant-loop-i : goal.invariant-loop-i
invariant-loop-i l = all_below l.i (place_fits l.words) ≡ true
