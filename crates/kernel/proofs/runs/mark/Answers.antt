-- The run of each row follows from the row below it.
use Rattle.std.proofs.Common.{◌≡◌, ◌∙◌, ◌+◌, ◌-◌, ◌≤◌, refl, sym, arith, eqb, get_or}
use Rattle.lists.proofs.Bools.{cond_case}
use Rattle.reach.specs.Reach.{row_places}
use Rattle.reach.proofs.Walks.{filled_none, filled_before}
use Rattle.kernel.specs.State.{run_in}
use Rattle.kernel.proofs.RowRuns.{run_next, run_onward}
use Rattle.kernel.proofs.runs.mark.Goals as goal
use Rattle.kernel.proofs.runs.mark.Goals.{After-run_of-to}

module _ (c : After-run_of-to) where
  marked : c.run_of-to.result ≡ run_in c.args.reaches.now (c.loop-row.row - 1)
  marked =
      let l = c.loop-row in
      let p = c.requires.outlined in
      c.run_of-to.ensures
      ∙ run_next c.args.reaches.now (l.row - 1) l.row _ l.below l.to (omega arith) (omega (arith, p.on)) refl
      (p.touched (l.row - 1) (omega arith) (omega arith)) l.invariant.next l.invariant.known

  small : c.run_of-to.result ≤ row_places
  small =
      let l = c.loop-row in
      rw c.run_of-to.ensures (cond_case (λ n. n ≤ row_places) (eqb l.below _) l.to (l.row - 1 + 1) (λ e. l.invariant.small) (λ e. omega (arith, c.requires.outlined.on)))

pub loop-row-init : goal.loop-row-init
loop-row-init c =
    let p = c.requires.outlined in
    record { ordered = p.ordered; small = p.on; next = sym p.missed; known = λ h. absurd (omega arith); marked = filled_none _ _ }

pub loop-row-preserved : goal.loop-row-preserved
loop-row-preserved c =
    let l = c.loop-row in
    let on = run_onward (λ r. get_or c.args.reaches.now r 0) (row_places - (l.row - 1)) (l.row - 1) in
    record {
      ordered = omega arith;
      small = small c;
      next = refl;
      known = λ h. marked c;
      marked = filled_before l.invariant.marked (l.row - 1) _ (omega (arith, c.requires.outlined.on, c.requires.runs_len)) (marked c) (omega (arith, marked c, on)) (omega arith);
    }
