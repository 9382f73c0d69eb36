-- Each of the three results is where the offsets within the angle end.
use Rattle.std.proofs.Common.{◌∙◌, sym, arith, rules}
use Rattle.std.proofs.Math.Nat.{add-sub_cancel}
use Rattle.reach.proofs.Reaches.{sheet_wide}
use Rattle.reach.proofs.Edges.{edge_wider, place_of, row_fits, last_fits, row_reach}
use Rattle.reach.proofs.outward.reach_of.Goals as goal

pub sheet_index-first-requires : goal.sheet_index-first-requires
sheet_index-first-requires c = place_of c.requires 0 (omega arith)

pub overflow_add-first : goal.overflow_add-first
overflow_add-first c = let h = last_fits c.requires c.sheet_index-first.ensures in search rules

pub offset_bounds-angles-first : goal.offset_bounds-angles-first
offset_bounds-angles-first c = let h = last_fits c.requires c.sheet_index-first.ensures in search rules

pub bounds-angles-first : goal.bounds-angles-first
bounds-angles-first c = rw c.columns-last.ensures.number (last_fits c.requires c.sheet_index-first.ensures)

pub overflow_cast-result : goal.overflow_cast-result
overflow_cast-result c = omega (arith, sheet_wide c.requires.sheet)

pub overflow_add-result : goal.overflow_add-result
overflow_add-result c = omega (arith, sheet_wide c.requires.sheet)

pub returns-then-within : goal.returns-then-within
returns-then-within c =
    row_reach c.requires c.sheet_index-first.ensures c.args.limit _ _
    (record {
      from = omega arith;
      to = omega arith;
      passed = λ h. rw add-sub_cancel (sym c.within.ensures ∙ c.if-within.true);
      failed = λ h. absurd (omega arith);
    })

pub overflow_add-first-2 : goal.overflow_add-first-2
overflow_add-first-2 c = let h = row_fits c.requires c.sheet_index-first.ensures c.min-from.result (omega arith) in search rules

pub offset_bounds-angles-first-2 : goal.offset_bounds-angles-first-2
offset_bounds-angles-first-2 c = let h = row_fits c.requires c.sheet_index-first.ensures c.min-from.result (omega arith) in search rules

pub bounds-angles-first-2 : goal.bounds-angles-first-2
bounds-angles-first-2 c = row_fits c.requires c.sheet_index-first.ensures _ (omega arith)

pub grown-requires-clause-end_in_bounds : goal.grown-requires-clause-end_in_bounds
grown-requires-clause-end_in_bounds c = omega (arith, last_fits c.requires c.sheet_index-first.ensures)

pub overflow_cast-result-then-within-2 : goal.overflow_cast-result-then-within-2
overflow_cast-result-then-within-2 c = omega (arith, c.grown.ensures.to, sheet_wide c.requires.sheet)

pub returns-then-within-2 : goal.returns-then-within-2
returns-then-within-2 c =
    row_reach c.requires c.sheet_index-first.ensures c.args.limit _ _
    (edge_wider _ _ (omega arith) (λ h. rw add-sub_cancel (sym c.within-2.ensures ∙ c.if-within-2.true))
    (λ h. sym c.within.ensures ∙ c.if-within.false) c.grown.ensures)

pub shrunk-requires : goal.shrunk-requires
shrunk-requires c = omega (arith, row_fits c.requires c.sheet_index-first.ensures c.min-from.result (omega arith))

pub returns : goal.returns
returns c =
    row_reach c.requires c.sheet_index-first.ensures c.args.limit _ _
    (edge_wider _ _ (omega arith) (λ h. absurd (omega arith)) (λ h. sym c.within-2.ensures ∙ c.if-within-2.false) c.shrunk.ensures)
