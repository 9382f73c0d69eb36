-- `sums_fill::fill_sums`. Invariant: the words of the rows up to this one are the map's.
use mathlib.Core.Path.{◌≡◌}
use Prim.Native.Nat.{◌+◌, ◌*◌}
use Rattle.lists.specs.Front.{over}
use Rattle.sums.specs.Sums.{sums_word}
use Rattle.sums.specs.State.{counts_map}
use Rattle.sums_fill.proofs.fill_sums.Given as goal

abbrev pub invariant-loop-row : goal.invariant-loop-row
invariant-loop-row l =
    l.sums ≡ over (sums_word (counts_map l.grid l.counts)) (l.row * (l.grid.width + 1) + (l.grid.width + 1)) l.initial.sums
