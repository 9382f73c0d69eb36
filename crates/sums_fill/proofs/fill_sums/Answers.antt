-- `sums_fill::fill_sums`. Invariant: the words of the rows up to this one are the map's.
use mathlib.Core.Path.{◌≡◌, sym, ◌∙◌}
use mathlib.Core.List.{List}
use Prim.Native.Nat.{ℕ, ◌+◌, ◌*◌, ◌<◌}
use native.Mathlib.Omega.{arith}
use native.Mathlib.Nat.{add_comm}
use Rattle.lists.specs.Front.{over}
use Rattle.lists.proofs.Fronts.{over_fix, over_more}
use Rattle.grid.specs.Map.{Map}
use Rattle.sums.specs.Sums.{sums_word, sums_words, filled_sums}
use Rattle.sums_fill.proofs.Filling.{over_ext, cells_in, words_in, first_in_lem, next_row, all_rows, word_first}
use Rattle.sums.specs.State.{counts_map}
use Rattle.sums.proofs.Laws.{width_of}
use Rattle.sums_fill.proofs.fill_sums.Goals as goal

-- the words of row 0
first : (m : Map) (l s : List ℕ) → s ≡ over (λ i. 0) (width_of m + 1) l → s ≡ over (sums_word m) (width_of m + 1) l
first m l s zeros = zeros ∙ over_ext (λ i. 0) (sums_word m) (width_of m + 1) l (λ i h. sym (word_first m i h))

pub zero_row-requires : goal.zero_row-requires
unfolding sums_words
zero_row-requires c = omega (arith, first_in_lem c.args.grid.width c.args.grid.height, c.requires.room)

pub loop-row-init : goal.loop-row-init
loop-row-init c =
    let m = counts_map c.args.grid c.args.counts.now in
    let e : 0 * (width_of m + 1) + (width_of m + 1) ≡ width_of m + 1 = omega arith in
    rw e (over_fix (sums_word m) (width_of m + 1) c.args.sums.now _ (first m c.args.sums.now _ (rw c.columns.ensures.number at c.zero_row.ensures)))

pub fill_row-requires : goal.fill_row-requires
unfolding sums_words
fill_row-requires c =
    let p = c.requires in
    let w = c.args.grid.width in
    let h = c.args.grid.height in
    let l : c.loop-row.row < h = omega (arith, c.rows-row-end.ensures.number) in
    record {
      columns = p.columns;
      rows = omega arith;
      complete = omega (arith, cells_in w h c.loop-row.row l, p.complete);
      room = omega (arith, words_in w h c.loop-row.row l, p.room);
      above = over_fix (sums_word (counts_map c.args.grid c.args.counts.now)) _ c.zero_row.new.sums c.loop-row.sums c.loop-row.invariant;
    }

pub loop-row-preserved : goal.loop-row-preserved
loop-row-preserved c =
    let w = c.args.grid.width in
    let row = c.loop-row.row in
    rw (next_row w row) (over_more (sums_word (counts_map c.args.grid c.args.counts.now)) (row * (w + 1) + (w + 1)) (w + 1) c.zero_row.new.sums c.loop-row.sums _ c.loop-row.invariant c.fill_row.ensures)

pub returns-clause-filled : goal.returns-clause-filled
unfolding filled_sums sums_words
returns-clause-filled c =
    let m = counts_map c.args.grid c.args.counts.now in
    let w = c.args.grid.width in
    let h = c.args.grid.height in
    let e : c.loop-row.row ≡ h = omega arith in
    rw (all_rows w h)
    (over_more (sums_word m) (w + 1) (h * (w + 1)) c.args.sums.now c.zero_row.new.sums c.loop-row.sums (first m c.args.sums.now c.zero_row.new.sums (rw c.columns.ensures.number at c.zero_row.ensures))
    (rw (e, add_comm (h * (w + 1)) (w + 1)) at c.loop-row.invariant))
