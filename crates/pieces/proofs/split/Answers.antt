-- None, the halves of one row's columns, or those of the upper rows and then of the lower ones.
use mathlib.Core.Path.{◌≡◌, sym, ◌∙◌}
use mathlib.Core.Bool.{false}
use native.Mathlib.Omega.{arith}
use Rattle.blocks.specs.Block.{is_cell, split}
use Rattle.blocks.specs.State.{column_halves}
use Rattle.blocks.proofs.Cuts.{middle_small, split_columns}
use Rattle.pieces.proofs.Halved.{none_written, columns_fit, upper_fits, lower_fits, both_written, same}
use Rattle.blocks.proofs.Tiles.{split_cell}
use Rattle.pieces.proofs.split.Goals as goal
use Rattle.pieces.proofs.split.Goals.{Else-is_cell, Then-eq}

several : (e : Else-is_cell) → is_cell e.args.block ≡ false
several e = sym e.is_cell.ensures ∙ e.if-is_cell.false

one-row : (c : Then-eq) → let b = c.args.block in split b ≡ column_halves b
one-row c = split_columns _ (sym c.is_cell.ensures ∙ c.if-is_cell.false) (same c.if-eq.ensures)

pub returns-then-is_cell : goal.returns-then-is_cell
returns-then-is_cell c = none_written _ _ _ (split_cell _ (sym c.is_cell.ensures ∙ c.if-is_cell.true))

pub halve_columns-requires : goal.halve_columns-requires
halve_columns-requires c = columns_fit _ _ _ c.requires (one-row (goal.at.halve_columns-requires c).Then-eq)

pub returns-then-eq : goal.returns-then-eq
returns-then-eq c = rw (one-row (goal.at.returns-then-eq c).Then-eq) c.halve_columns.ensures

pub overflow_add-lower : goal.overflow_add-lower
overflow_add-lower c = omega (arith, c.middle-mid.ensures, middle_small _ _ c.requires.small.north c.requires.small.south)

pub halve_columns-next-requires : goal.halve_columns-next-requires
halve_columns-next-requires c =
    upper_fits _ _ _ c.requires _ (several (goal.at.halve_columns-next-requires c).Else-is_cell) c.if-eq.ensures c.middle-mid.ensures

pub halve_columns-requires-2 : goal.halve_columns-requires-2
halve_columns-requires-2 c =
    let u = c.halve_columns-next in
    lower_fits _ _ _ c.requires _ (several (goal.at.halve_columns-requires-2 c).Else-is_cell) c.if-eq.ensures c.middle-mid.ensures u.new.words _ u.auto.words u.ensures

pub returns : goal.returns
returns c =
    let l = c.halve_columns-2 in
    both_written _ _ _ c.requires _ (several (goal.at.returns c).Else-is_cell) c.if-eq.ensures c.middle-mid.ensures c.halve_columns-next.new.words
    l.new.words _ _ c.halve_columns-next.ensures l.ensures
