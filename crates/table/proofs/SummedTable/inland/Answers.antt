-- The strip west of the start is part of the strip west of the end.
use Rattle.std.proofs.Common.{arith}
use Rattle.sums.specs.State.{table_map}
use Rattle.sums.proofs.Laws.{rectangle_cut}
use Rattle.table.proofs.SummedTable.inland.Goals as goal

pub overflow_sub-result : goal.overflow_sub-result
overflow_sub-result c =
    let a = c.args in
    omega (arith, rectangle_cut (table_map a.self.table.grid a.self.table.sums.now) a.rows a.west a.end c.requires.west, c.strip.ensures, c.strip-2.ensures)
