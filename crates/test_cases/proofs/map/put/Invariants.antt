-- The places before i are put.
use Rattle.std.proofs.Common.{◌≡◌, ℕ}
use Rattle.lists.specs.Front.{over}
use Rattle.test_lines.specs.Numbers.{or_last}
use Rattle.test_cases.proofs.map.put.Given as goal

abbrev pub invariant-loop-i : goal.invariant-loop-i
invariant-loop-i g l =
    (f : ℕ → _) → ((word : _) (x : _) → goal.F-post g l.of word x → x ≡ f word) → l.places ≡ over (λ i. f (or_last l.line i)) l.i l.initial.places
