-- Invariant: the judge has been fed the angles before `at`.
use Prim.Native.Nat.{ℕ, ◌+◌, ◌-◌, ◌≤◌, ◌<◌}
use mathlib.Core.List.{List}
use mathlib.Core.Path.{◌≡◌, refl, sym, ap, ◌∙◌}
use native.Mathlib.Omega.{arith}
use lib.ListN.{length, take, drop, length-drop}
use lib.Ieee.{Float, nan}
use lib.Seq.{take-length, length-take-le}
use Rattle.lists.specs.Lists.{fold}
use Rattle.lists.proofs.Folds.{fold_more, fold_next}
use Rattle.grid.specs.Grid.{closing}
use Rattle.sheet.specs.Judge.{judge_feed}
use Rattle.sheet.proofs.Judging.{grid_kept}
use Rattle.sheet.proofs.Runs.{ahead}
use Rattle.sheet.proofs.SheetJudge.feed_all.Goals as goal
use Rattle.sheet.proofs.SheetJudge.feed_all.Goals.{Then-run_ahead}

pub loop-at-init : goal.loop-at-init
unfolding fold
loop-at-init c = (omega arith, refl)

-- a whole run is ahead
module _ (c : Then-run_ahead) where
  abbrev xs : List Float
  xs = c.args.angles.now

  abbrev run : ℕ
  run = c.offsets-run.result

  parts : (c.loop-at.judge.offset ≡ 0) × (c.loop-at.judge.centre < c.loop-at.judge.grid.height) × (run ≡ closing c.loop-at.judge.grid + 1)
      × (c.loop-at.at + run ≤ length xs)
  parts =
      let test = ahead _ _ (sym c.run_ahead.ensures ∙ c.if-run_ahead.true) in
      let grid : c.loop-at.judge.grid ≡ c.args.self.grid = ap (λ j. j.grid) c.loop-at.invariant.1 ∙ grid_kept _ _ in
      let size : run ≡ closing c.loop-at.judge.grid + 1 = omega (arith, c.offsets-run.ensures.number, ap closing grid) in
      (test.0, test.1, size, omega (arith, test.2, size, c.loop-at.invariant.0))

  -- the run's place in the slice
  cut : c.loop-at.at + run - c.loop-at.at ≡ run
  cut = omega arith

pub overflow_add-at : goal.overflow_add-at
overflow_add-at c = omega (arith, parts c)

pub slice_bounds-feed_run-start : goal.slice_bounds-feed_run-start
slice_bounds-feed_run-start c = omega (arith, parts c)

pub slice_bounds-feed_run-end : goal.slice_bounds-feed_run-end
slice_bounds-feed_run-end c = omega (arith, parts c)

pub feed_run-judge-requires : goal.feed_run-judge-requires
feed_run-judge-requires c =
    let p = parts (goal.at.feed_run-judge-requires c).Then-run_ahead in
    rw (cut (goal.at.feed_run-judge-requires c).Then-run_ahead)
    (record { fresh = p.0; on = p.1; size = length-take-le (run (goal.at.feed_run-judge-requires c).Then-run_ahead) (drop c.loop-at.at (xs (goal.at.feed_run-judge-requires c).Then-run_ahead)) (rw length-drop (omega (arith, p.3))) ∙ p.2 })

pub overflow_add-at-then-run_ahead : goal.overflow_add-at-then-run_ahead
overflow_add-at-then-run_ahead c = omega (arith, parts (goal.at.overflow_add-at-then-run_ahead c).Then-run_ahead)

pub loop-at-smaller-then-run_ahead : goal.loop-at-smaller-then-run_ahead
loop-at-smaller-then-run_ahead c = omega (arith, parts (goal.at.loop-at-smaller-then-run_ahead c).Then-run_ahead)

pub loop-at-preserved-then-run_ahead : goal.loop-at-preserved-then-run_ahead
loop-at-preserved-then-run_ahead c =
    let at = c.loop-at.at in (
      (parts (goal.at.loop-at-preserved-then-run_ahead c).Then-run_ahead).3,
      c.feed_run-judge.ensures
          ∙ ap (λ n. fold judge_feed c.loop-at.judge (take n (drop at (xs (goal.at.loop-at-preserved-then-run_ahead c).Then-run_ahead)))) (cut (goal.at.loop-at-preserved-then-run_ahead c).Then-run_ahead)
          ∙ ap (λ j. fold judge_feed j (take (run (goal.at.loop-at-preserved-then-run_ahead c).Then-run_ahead) (drop at (xs (goal.at.loop-at-preserved-then-run_ahead c).Then-run_ahead)))) c.loop-at.invariant.1
          ∙ fold_more judge_feed c.args.self (xs (goal.at.loop-at-preserved-then-run_ahead c).Then-run_ahead) at (run (goal.at.loop-at-preserved-then-run_ahead c).Then-run_ahead),
    )

pub loop-at-smaller : goal.loop-at-smaller
loop-at-smaller c = omega arith

pub loop-at-preserved : goal.loop-at-preserved
loop-at-preserved c =
    let s = c.args in
    (omega arith, rw (c.feed-judge.ensures, c.loop-at.invariant.1) (fold_next judge_feed s.self s.angles.now c.loop-at.at nan (omega arith)))

pub returns : goal.returns
returns c =
    let xs = c.args.angles.now in
    let all : c.loop-at.at ≡ length xs = omega (arith, c.loop-at.invariant.0) in
    rw (c.loop-at.invariant.1, all, take-length xs)
