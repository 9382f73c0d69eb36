-- One store or two.
use native.Mathlib.Omega.{arith}
use lib.ListN.{length-set}
use Rattle.blocks.proofs.Cuts.{middle_small}
use Rattle.pieces.proofs.Halved.{room_one, room_two, halve_one, halve_two}
use Rattle.pieces.proofs.halve_columns.Goals as goal

pub bounds-words-at : goal.bounds-words-at
bounds-words-at c = room_one _ _ _ c.requires c.if-eq.ensures

pub returns-then-eq : goal.returns-then-eq
returns-then-eq c = halve_one _ _ _ c.requires c.from.result c.if-eq.ensures c.from.ensures

pub bounds-words-at-2 : goal.bounds-words-at-2
bounds-words-at-2 c = omega (arith, room_two _ _ _ c.requires c.if-eq.ensures)

pub overflow_add-mid : goal.overflow_add-mid
overflow_add-mid c = omega (arith, c.middle-mid.ensures, middle_small _ _ c.requires.first c.requires.last)

pub bounds-words-at-3 : goal.bounds-words-at-3
bounds-words-at-3 c = simp length-set (room_two _ _ _ c.requires c.if-eq.ensures)

pub returns : goal.returns
returns c =
    let middle = c.middle-mid in
    halve_two _ _ _ c.requires middle.result _ _ c.if-eq.ensures middle.ensures c.from-2.ensures c.from-3.ensures
