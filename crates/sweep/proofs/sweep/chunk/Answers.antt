-- `sweep::sweep::chunk`: a turn seen from its block, the wide kernels, the exact one, and what the turn's end needs of them.
use Rattle.std.proofs.Common.{Option}
use mathlib.Core.Path.{◌≡◌, sym, ap, subst, ◌∙◌}
use mathlib.Core.Bool.{true, false, cond, not}
use mathlib.Core.List.{List, [], ◌∷◌, ◌++◌}
use Prim.Native.Nat.{ℕ, ◌<◌}
use lib.Ieee.{Float, eq}
use Rattle.grid.specs.declared.Cell.{Cell}
use Rattle.grid.specs.Map.{Map}
use Rattle.grid.specs.declared.Globe.{Globe}
use Rattle.sums.specs.State.{table_map}
use Rattle.table.specs.declared.Table.{Table}
use Rattle.circle_cells.specs.Circle.{population}
use Rattle.kernel.specs.declared.Kernel.{Kernel}
use Rattle.kernel.specs.Kernel.{kernel_population}
use Rattle.kernel.specs.State.{KernelAt, rows_only}
use Rattle.kernel.specs.Requires.{CanSum}
use Rattle.kernel.proofs.Placing.{rows_placed, kernel_own, kernel_kept}
use Rattle.circle_cells.proofs.Populations.{same_population}
use Rattle.lists.proofs.Bools.{of_true}
use Rattle.blocks.specs.declared.Block.{Block}
use Rattle.blocks.specs.Block.{probe, Rectangle}
use Rattle.bounds.specs.Bound.{wide_km}
use Rattle.bounds.specs.State.{wide_kernel}
use Rattle.sweep.specs.declared.kept.Kept.{Kept}
use Rattle.levels.specs.Level.{examine, chunk}
use Rattle.levels.specs.Requires.{Ready}
use Rattle.levels.specs.State.{Swept, summed_lent, Serves}
use Rattle.chunk_work.specs.State.{work_of}
use Rattle.pieces.specs.Requires.{CanSplit}
use Rattle.chunk_work.specs.declared.ChunkWork.{ChunkWork}
use Rattle.chunk_work.specs.Requires.{CanCount}
use Rattle.sweep.proofs.Serving.{wide_at, wide_radius_lem, serves_none}
use Rattle.levels.proofs.OneBlock.{ready_sheet, probe_row_lem, probe_placed, probe_people, not_asked, examined_is}
use Rattle.sweep.proofs.Sweeps.{middle_on, start_held, start_own, sweep_start, next_rectangle, sweep_counts, sweep_room, sweep_next, sweep_done}
use Rattle.std.proofs.Common.{arith}
use Rattle.std.proofs.lemmas.Bool.Decides.{nat_tests}
use lib.Dec.{eqb}
use lib.ListN.{get_or}
use Rattle.blocks.specs.State.{blocks_of, block_of as of_word}
use Rattle.sweep.proofs.sweep.chunk.Goals as goal
use Rattle.candidates.specs.declared.Candidate.{Candidate}
use Rattle.sweep.proofs.sweep.chunk.Goals.{After-odd_columns, then-odd_columns, else-odd_columns, then-asks, else-asks, then-ne, else-ne}

same_row : (x y : ℕ) → not (eqb x y) ≡ false → x ≡ y
same_row x y e = grind (arith, nat_tests)

-- ---- a turn, seen from its block

module _ (h : After-odd_columns) where
  abbrev globe : Globe
  globe = h.args.map.now.globe

  abbrev the_map : Map
  the_map = summed_lent h.args.map.now

  abbrev table : Table
  table = h.table_of-table.result

  abbrev ready : Ready globe.grid globe.angles.now globe.cosines.now h.args.map.now.sums.now
  ready = h.args.map.now.ready

  abbrev block_of : Block
  block_of = h.from-block.result

  word : h.from-block.result ≡ of_word (get_or h.args.words.now h.loop-word.word-index 0)
  word = h.from-block.ensures

  rectangle : Rectangle globe.grid block_of
  rectangle =
      let l = h.loop-word in
      subst (Rectangle globe.grid) (sym word)
      (next_rectangle _ _ _ _ _ _ _ _ _ ready h.requires l.following l.work l.at _ l.invariant.0 h.loop-word-test.true)

  -- a kernel of the probe's row: it can be summed around the probe, to the people of the probe's circle
  module _ (km : Float) (k : Kernel) (is : KernelAt the_map.globe (probe block_of).row km k) where
    can_sum : CanSum table.grid (rows_only k) h.probe-p.result.col
    can_sum = rw h.table_of-table.ensures (rows_placed (probe_placed _ _ _ _ ready block_of rectangle h.probe-p.result h.probe-p.ensures km k is))

    people : kernel_population (table_map table.grid table.sums.now) k h.probe-p.result.col ≡ population the_map km (probe block_of)
    people =
        ap (λ (t : Table). kernel_population (table_map t.grid t.sums.now) k h.probe-p.result.col) h.table_of-table.ensures
        ∙ probe_people _ _ _ _ ready block_of rectangle h.probe-p.result h.probe-p.ensures km k is

  -- ---- the wide kernels, either of which is the block's own once it is built or kept

  abbrev IsWide : Float × ℕ → Type 0
  IsWide w = let there = wide_km the_map.globe h.args.km block_of in (w.0 ≡ there) × (w.1 ≡ population the_map there (probe block_of))

  -- the radius and the people of a kernel that is the block's own
  is_wide : (k : Kernel) → k ≡ wide_kernel the_map.globe h.args.km block_of → (n : ℕ)
      → n ≡ kernel_population (table_map table.grid table.sums.now) k h.probe-p.result.col → IsWide (k.km, n)
  is_wide k own n e = (wide_radius_lem _ _ block_of k own, e ∙ people _ k (wide_at _ _ block_of k own))

  abbrev ServesNow : Kept → Type 0
  ServesNow k = Serves globe.grid globe.angles.now globe.cosines.now h.args.km k.shape k.kernel

  -- ---- the exact kernel

  abbrev ExactAt : Kernel → Type 0
  ExactAt k = KernelAt the_map.globe (probe block_of).row h.args.km k

  on_row : h.probe-p.result.row.0 ≡ (probe block_of).row.0
  on_row = ap (λ (x : Cell). x.row.0) h.probe-p.ensures

-- ---- the goals

pub build-exact-requires : goal.build-exact-requires
build-exact-requires c = middle_on _ _ (ready_sheet _ _ _ _ c.args.map.now.ready)

pub invariant_of-summed : goal.invariant_of-summed
invariant_of-summed c = record { summed = rw c.table_of-table.ensures c.args.map.now.ready.table }

pub loop-word-init : goal.loop-word-init
loop-word-init c =
    let none = serves_none _ _ _ _ _ (ap (λ (k : Kept). k.shape) c.of_no_shape-one.ensures) _ in (
      sweep_start _ _ _ _ _ _ _ _ _ c.args.map.now.ready c.requires c.started-work.result (start_own _ _ _ c.started-work.result c.started-work.ensures),
      kernel_own _ _ _ _ c.build-exact.ensures,
      none,
      none,
    )

pub serve-requires-clause-rectangle : goal.serve-requires-clause-rectangle
serve-requires-clause-rectangle c = rectangle (goal.at.serve-requires-clause-rectangle c).After-odd_columns

pub serve-requires-clause-serves : goal.serve-requires-clause-serves
serve-requires-clause-serves c = c.loop-word.invariant.2

pub serve-requires-else-odd_columns-clause-rectangle : goal.serve-requires-else-odd_columns-clause-rectangle
serve-requires-else-odd_columns-clause-rectangle c = rectangle (goal.at.serve-requires-else-odd_columns-clause-rectangle c).After-odd_columns

pub serve-requires-else-odd_columns-clause-serves : goal.serve-requires-else-odd_columns-clause-serves
serve-requires-else-odd_columns-clause-serves c = c.loop-word.invariant.3

pub circle_population-requires : goal.circle_population-requires
circle_population-requires c =
    let h = (goal.at.circle_population-requires c).After-odd_columns in
    can_sum h _ _ (wide_at _ _ (block_of h) _ c.serve.ensures.own)

pub circle_population-requires-else-odd_columns : goal.circle_population-requires-else-odd_columns
circle_population-requires-else-odd_columns c =
    let h = (goal.at.circle_population-requires-else-odd_columns c).After-odd_columns in
    can_sum h _ _ (wide_at _ _ (block_of h) _ c.serve-else-odd_columns.ensures.own)

pub build-exact-requires-then-ne : goal.build-exact-requires-then-ne
build-exact-requires-then-ne c =
    let h = (goal.at.build-exact-requires-then-ne c).After-odd_columns in
    record {
      sheet = ready_sheet _ _ _ _ (ready h);
      on = subst (λ (x : Cell). x.row.0 < (globe h).grid.height) (sym c.probe-p.ensures) (probe_row_lem _ _ _ _ (ready h) (block_of h) (rectangle h));
    }

pub circle_population-population-requires : goal.circle_population-population-requires
circle_population-population-requires c =
    let h = (goal.at.circle_population-population-requires c).After-odd_columns in
    let exact : ExactAt h c.if-ne.exact =
    elim c.if-ne.branch [ then-ne v ↦ kernel_kept _ c.probe-p.result.row _ c.if-ne.exact (v.exact-is ∙ v.build-exact-then-ne.ensures) (probe (block_of h)).row (on_row h) | else-ne v ↦ v.exact-is ∙ kernel_kept _ c.loop-word.exact.row _ c.loop-word.exact c.loop-word.invariant.1 (probe (block_of h)).row (same_row _ _ (sym c.ne.ensures ∙ v.if-ne.false) ∙ on_row h) ] in
    can_sum h _ c.if-ne.exact exact

pub examined-work-requires : goal.examined-work-requires
examined-work-requires c =
    let l = c.loop-word in
    let h = (goal.at.examined-work-requires c).After-odd_columns in
    subst (CanCount l.work) (sym (word h))
    (sweep_counts _ _ _ _ _ _ _ _ _ (ready h) c.requires l.following l.work l.at _ l.invariant.0 c.loop-word-test.true)

pub write_children-at-requires : goal.write_children-at-requires
write_children-at-requires c =
    let l = c.loop-word in
    let h = (goal.at.write_children-at-requires c).After-odd_columns in
    subst (λ (x : Block). CanSplit x l.following l.at) (sym (word h))
    (sweep_room _ _ _ _ _ _ _ _ _ (ready h) c.requires l.following l.work l.at _ l.invariant.0 c.loop-word-test.true)

-- the exact kernel stays that of its row, and the block's work is the definition's
pub loop-word-preserved : goal.loop-word-preserved
loop-word-preserved c =
    let h = (goal.at.loop-word-preserved c).After-odd_columns in
    let l = c.loop-word in
    let j = c.if-odd_columns in
    let m = the_map h in
    let b = block_of h in
    let s = c.survives-survives in
    let wrote = c.write_children-at in
    let wide : IsWide h j.wide × ServesNow h j.one × ServesNow h j.two =
    elim j.branch [
      | then-odd_columns w ↦
          let e = w.serve.ensures in (
            subst (IsWide h) (sym w.wide-is) (is_wide h _ e.own _ w.circle_population.ensures),
            subst (ServesNow h) (sym w.one-is) e.serves,
            subst (ServesNow h) (sym w.two-is) l.invariant.3,
          )
      | else-odd_columns w ↦
          let e = w.serve-else-odd_columns.ensures in (
            subst (IsWide h) (sym w.wide-is) (is_wide h _ e.own _ w.circle_population-else-odd_columns.ensures),
            subst (ServesNow h) (sym w.one-is) l.invariant.2,
            subst (ServesNow h) (sym w.two-is) e.serves,
          )
    ] in
    let bound_is : j.wide.1 ≡ population m j.wide.0 (probe b) = wide.0.1 ∙ ap (λ (x : Float). population m x (probe b)) (sym wide.0.0) in
    let exact : KernelAt m.globe c.if-asks.exact.row c.args.km c.if-asks.exact =
    elim c.if-asks.branch [
      | then-asks w ↦
          let e : ExactAt h w.if-ne.exact =
          elim w.if-ne.branch [ then-ne v ↦ kernel_kept _ c.probe-p.result.row _ w.if-ne.exact (v.exact-is ∙ v.build-exact-then-ne.ensures) (probe (block_of h)).row (on_row h) | else-ne v ↦ v.exact-is ∙ kernel_kept _ c.loop-word.exact.row _ c.loop-word.exact c.loop-word.invariant.1 (probe (block_of h)).row (same_row _ _ (sym w.ne.ensures ∙ v.if-ne.false) ∙ on_row h) ] in
          kernel_own _ (probe b).row _ c.if-asks.exact (w.exact-is ∙ e)
      | else-asks w ↦ subst (λ (x : Kernel). KernelAt m.globe x.row c.args.km x) (sym w.exact-is) l.invariant.1
    ] in
    let people_is : s.result ≡ true → c.if-asks.population ≡ population m c.args.km (probe b) = λ yes.
    elim c.if-asks.branch [
      | then-asks w ↦
          let e : ExactAt h w.if-ne.exact =
          elim w.if-ne.branch [ then-ne v ↦ kernel_kept _ c.probe-p.result.row _ w.if-ne.exact (v.exact-is ∙ v.build-exact-then-ne.ensures) (probe (block_of h)).row (on_row h) | else-ne v ↦ v.exact-is ∙ kernel_kept _ c.loop-word.exact.row _ c.loop-word.exact c.loop-word.invariant.1 (probe (block_of h)).row (same_row _ _ (sym w.ne.ensures ∙ v.if-ne.false) ∙ on_row h) ] in
          w.population-is ∙ w.circle_population-population.ensures ∙ people h _ w.if-ne.exact e
      | else-asks w ↦
          w.population-is ∙ bound_is
          ∙ same_population m j.wide.0 c.args.km (of_true _ (not_asked _ (eq j.wide.0 c.args.km) _ c.asks.ensures w.if-asks.false yes)) (probe b)
    ] in
    let seen : (bs : List Block) → work_of c.examined-work.result (cond s.result (bs ++ b ∷ []) bs) ≡ examine m c.args.km (work_of l.work bs) b = λ bs.
    ap (λ (x : ChunkWork). work_of x (cond s.result (bs ++ b ∷ []) bs)) c.examined-work.ensures
    ∙ examined_is m c.args.km l.work b _ wide.0.0 _ bound_is s.result s.ensures c.if-asks.population people_is bs in (
      sweep_next _ _ _ _ _ _ _ _ _ (ready h) c.requires l.following l.work l.at _ l.invariant.0
          c.loop-word-test.true c.examined-work.result s.result
          (subst (λ (x : Block). (bs : List Block) → work_of c.examined-work.result (cond s.result (bs ++ x ∷ []) bs) ≡ examine m c.args.km (work_of l.work bs) x) (word h) seen)
          _ wrote.result (rw (word h) at wrote.ensures) _ (omega arith),
      exact,
      wide.1,
      wide.2,
    )

pub returns : goal.returns
returns c =
    let l = c.loop-word in
    let a = c.args in
    let done =
    subst (λ (x : Option Candidate). Swept (chunk (summed_lent a.map.now) a.km x (blocks_of a.words.now)) a.following.now a.live l.following
    (record { held = l.work.held; tally = l.work.tally; live = l.at }))
    (start_held _ _ _ c.started-work.result c.started-work.ensures)
    (sweep_done _ _ _ _ _ _ _ _ _ a.map.now.ready c.requires l.following l.work l.at _ l.invariant.0 c.loop-word-test.false) in
    rw c.result_of.ensures done
