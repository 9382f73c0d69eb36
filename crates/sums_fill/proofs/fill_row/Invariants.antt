-- `sums_fill::fill_row`. Invariant: the words up to the next of the row are the map's, and the run is the sum of the row so far.
use mathlib.Core.Path.{◌≡◌}
use Prim.Native.Nat.{◌+◌, ◌*◌}
use lib.ListN.{get_or}
use Rattle.lists.specs.Counted.{sum_below}
use Rattle.lists.specs.Front.{over}
use Rattle.sums_fill.specs.State.{words_through}
use Rattle.sums_fill.proofs.Filling.{word_of}
use Rattle.sums_fill.proofs.fill_row.Given as goal

abbrev pub invariant-loop-col : goal.invariant-loop-col
invariant-loop-col l =
    (l.run ≡ sum_below l.col (λ k. get_or l.counts (l.row * l.fn.grid.width + k) 0)) × (l.sums ≡ over (word_of l.fn.grid.width l.counts) (words_through l.fn.grid l.row + 1 + l.col) l.initial.sums)
