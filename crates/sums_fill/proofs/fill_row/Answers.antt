-- `sums_fill::fill_row`. Invariant: the words up to the next of the row are the map's, and the run is the sum of the row so far.
use mathlib.Core.Path.{◌≡◌, ap, sym, ◌∙◌}
use mathlib.Core.List.{List}
use Prim.Native.Nat.{ℕ, suc, ◌+◌, ◌*◌, ◌-◌, ◌≤◌, ◌<◌, ◌^◌}
use native.Mathlib.Omega.{arith}
use native.Mathlib.Nat.{add-zero, suc-mul}
use lib.ListN.{get_or, set, length-set}
use Rattle.lists.specs.Counted.{sum_below}
use Rattle.lists.specs.Front.{over}
use Rattle.lists.proofs.Sums.{sum_none, sum_plus_one}
use Rattle.lists.proofs.Fronts.{over_step, over_fix, over_more}
use Rattle.grid.specs.Grid.{most_columns, most_rows}
use Rattle.grid.specs.Map.{Map, count}
use Rattle.sums.specs.Sums.{sums_word}
use Rattle.sums.specs.State.{counts_map}
use Rattle.sums.proofs.Laws.{row_bound, corner_small}
use Rattle.grid.specs.declared.Grid.{Grid}
use Rattle.sums_fill.specs.Requires.{RowReady}
use Rattle.sums_fill.specs.State.{words_through}
use Rattle.sums_fill.proofs.Filling.{word_of_lem, word_west, row_step, row_up}
use Rattle.sums_fill.proofs.fill_row.Goals as goal
use Rattle.sums_fill.proofs.fill_row.Goals.{After-from-run}

-- the first word of the row
west : (g : Grid) (row : ℕ) (counts sums : List ℕ) → RowReady g row counts sums
    → set sums (words_through g row) 0 ≡ over (sums_word (counts_map g counts)) (words_through g row + 1) sums
west g row counts sums ready =
    over_step (sums_word (counts_map g counts)) (words_through g row) sums sums 0 (omega (arith, ready.room)) ready.above
    (sym (word_west (counts_map g counts) (suc row) (words_through g row) (sym (suc-mul row (g.width + 1)))))

module _ (c : After-from-run) where
  abbrev m : Map
  m = counts_map c.args.grid c.args.counts.now

  abbrev w : ℕ
  w = c.args.grid.width

  small : (i : ℕ) → get_or c.args.counts.now i 0 < 2 ^ 32
  small i = omega (arith, c.type_inv.counts i)

  words : c.loop-col.sums ≡ over (sums_word m) (words_through c.args.grid c.args.row + 1 + c.loop-col.col) (set c.args.sums.now (words_through c.args.grid c.args.row) 0)
  words = rw (word_of_lem m) (rw c.columns-width.ensures.number at c.loop-col.invariant.1)

  -- what a turn reads above
  up : get_or c.loop-col.sums (c.args.row * (w + 1) + 1 + c.loop-col.col) 0 ≤ most_rows * most_columns * (2 ^ 32 - 1)
  up =
      let read = ap (λ (l : List ℕ). get_or l (c.args.row * (w + 1) + 1 + c.loop-col.col) 0) words ∙ row_up m _ c.args.row c.loop-col.col (omega (arith, c.columns-width.ensures.number)) in
      omega (arith, read, corner_small m small c.args.row (c.loop-col.col + 1) (omega arith) (omega arith))

  -- the sum that it makes of the row
  run : c.loop-col.run + c.from-run.result ≡ sum_below (c.loop-col.col + 1) (λ k. get_or c.args.counts.now (c.args.row * w + k) 0)
  run = omega (arith, rw c.columns-width.ensures.number at c.from-run.ensures, c.loop-col.invariant.0, sum_plus_one c.loop-col.col (λ k. get_or c.args.counts.now (c.args.row * w + k) 0))

  run_small : c.loop-col.run + c.from-run.result ≤ most_columns * (2 ^ 32 - 1)
  unfolding count
  run_small = omega (arith, run, row_bound m small c.args.row (c.loop-col.col + 1))

pub loop-col-init : goal.loop-col-init
loop-col-init c =
    let m = counts_map c.args.grid c.args.counts.now in
    (sym (sum_none _), rw (c.columns-width.ensures.number, add-zero, ← word_of_lem m) (over_fix (sums_word m) _ c.args.sums.now _ (west c.args.grid c.args.row c.args.counts.now c.args.sums.now c.requires)))

pub overflow_add-run : goal.overflow_add-run
overflow_add-run c = omega (arith, run_small c)

pub overflow_add-sums-in-loop-col-2 : goal.overflow_add-sums-in-loop-col-2
overflow_add-sums-in-loop-col-2 c = let d = (goal.at.overflow_add-sums-in-loop-col-2 c).After-from-run in rw c.columns-width.ensures.number (omega (arith, run_small d, up d))

pub loop-col-preserved : goal.loop-col-preserved
unfolding count
loop-col-preserved c =
    let d = (goal.at.loop-col-preserved c).After-from-run in
    let len = c.loop-col.auto.sums in
    (run d, rw (run d, c.columns-width.ensures.number, ← word_of_lem (m d)) (row_step (m d) _ c.loop-col.sums c.args.row c.loop-col.col (omega (arith, c.columns-width.ensures.number)) (omega (arith, len, length-set c.args.sums.now)) (words d)))

pub returns : goal.returns
returns c =
    let m = counts_map c.args.grid c.args.counts.now in
    let row = words_through c.args.grid c.args.row in
    let e : row + 1 + c.loop-col.col ≡ row + (c.args.grid.width + 1) = omega arith in
    rw (← e)
    (over_more (sums_word m) (row + 1) c.loop-col.col c.args.sums.now _ c.loop-col.sums
    (west c.args.grid c.args.row c.args.counts.now c.args.sums.now c.requires) (rw (word_of_lem m) (rw c.columns-width.ensures.number at c.loop-col.invariant.1)))
