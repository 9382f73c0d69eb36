-- So many of the first k words differ.
use Rattle.std.proofs.Common.{◌≡◌, ◌≤◌}
use Rattle.test_lines.specs.Numbers.{differing}
use Rattle.test_lines.proofs.numbers.differing.Given as goal

abbrev pub invariant-loop-k : goal.invariant-loop-k
invariant-loop-k l = (l.count ≤ l.k) × (l.count ≡ differing l.fn.a l.i l.fn.b l.j l.k)
