-- Invariant: the judge has been fed the runs before those that are left.
use Rattle.std.proofs.Common.{◌≡◌, ◌+◌}
use Rattle.std.specs.Slice.Iter.{chunks_exact_rest, chunks_exact_size}
use Rattle.grid.specs.Grid.{closing}
use Rattle.sheet.proofs.Judging.{Left}
use Rattle.sheet.proofs.judge.angles_in_order.Given as goal

abbrev pub invariant-loop-run : goal.invariant-loop-run
invariant-loop-run l =
    (chunks_exact_size l.run-iterator ≡ closing l.fn.grid + 1) × Left l.fn.grid l.angles (chunks_exact_rest l.run-iterator) l.judge
