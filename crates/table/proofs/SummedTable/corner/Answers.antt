-- The word at a place of the sums, by the part of them that starts with its row.
use Rattle.std.proofs.Common.{◌+◌, ◌*◌, ◌<◌, length, length-drop, arith}
use Rattle.std.proofs.lemmas.List.{take_rest, get_or-drop}
use Rattle.sums.specs.State.{table_map}
use Rattle.sums.proofs.Laws.{corner_read, corner_place}
use Rattle.table.proofs.SummedTable.corner.Goals as goal
use Rattle.table.proofs.SummedTable.corner.Goals.{Start}

-- the word is within the sums
within : (c : Start) → c.args.row * (c.args.self.table.grid.width + 1) + c.args.col < length c.args.self.table.sums.now
within c =
    let t = c.args.self in
    omega (arith, corner_place (table_map t.table.grid t.table.sums.now) c.args.row c.args.col c.requires.row c.requires.col, t.summed.room)

pub slice_bounds-words-count : goal.slice_bounds-words-count
slice_bounds-words-count c = omega (arith, within (goal.at.slice_bounds-words-count c).Start)

pub slice_bounds-words-start : goal.slice_bounds-words-start
slice_bounds-words-start c = omega (arith, within (goal.at.slice_bounds-words-start c).Start)

pub bounds-words-col : goal.bounds-words-col
bounds-words-col c =
    let t = c.args.self in
    let from = c.args.row * (t.table.grid.width + 1) in
    rw (take_rest t.table.sums.now from, length-drop from t.table.sums.now) (omega (arith, within (goal.at.bounds-words-col c).Start))

pub returns : goal.returns
returns c =
    let t = c.args.self in
    let from = c.args.row * (t.table.grid.width + 1) in
    rw (take_rest t.table.sums.now from, get_or-drop from t.table.sums.now c.args.col 0)
    (corner_read (table_map t.table.grid t.table.sums.now) t.table.sums.now t.table.sums.now c.args.row c.args.col t.summed.words c.requires.row c.requires.col)
