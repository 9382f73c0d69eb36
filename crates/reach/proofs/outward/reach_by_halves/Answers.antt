-- The row's part of the sheet, whose angles do not fall.
use Rattle.std.proofs.Common.{arith, rules}
use Rattle.std.proofs.lemmas.List.Sorted.{IsPartitionPoint-from_clause}
use Rattle.std.specs.Float.Ieee.{le}
use borrow.Author.Tests.{tests}
use Rattle.reach.proofs.Reaches.{sheet_wide}
use Rattle.reach.proofs.Edges.{place_of, last_fits, row_part, row_length, row_rises, row_halved}
use Rattle.reach.proofs.outward.reach_by_halves.Goals as goal

pub sheet_index-first-requires : goal.sheet_index-first-requires
sheet_index-first-requires c = place_of c.requires 0 (omega arith)

pub overflow_add-end : goal.overflow_add-end
overflow_add-end c = let h = last_fits c.requires c.sheet_index-first.ensures in search rules

pub overflow_add-end-2 : goal.overflow_add-end-2
overflow_add-end-2 c = let h = last_fits c.requires c.sheet_index-first.ensures in search rules

pub offset_bounds-angles-first : goal.offset_bounds-angles-first
offset_bounds-angles-first c = let h = last_fits c.requires c.sheet_index-first.ensures in search rules

pub slice_bounds-partition_point-end : goal.slice_bounds-partition_point-end
slice_bounds-partition_point-end c = let h = last_fits c.requires c.sheet_index-first.ensures in search rules

pub overflow_cast-result : goal.overflow_cast-result
overflow_cast-result c =
    omega (arith, c.partition_point.ensures.bound, row_length c.requires c.sheet_index-first.ensures, sheet_wide c.requires.sheet)

pub returns : goal.returns
returns c =
    let p = c.requires in
    let e = c.sheet_index-first.ensures in
    let point = rw c.columns.ensures.number at c.partition_point.ensures in
    row_halved p e c.args.limit _ _ point.bound
    (IsPartitionPoint-from_clause (λ y. le y c.args.limit) (row_part p e) _ point.partitioned (row_rises p e c.args.limit) (λ a r f k. search (rules, tests)))
