-- Invariant: the judge has been fed the runs before those that are left.
use Rattle.std.proofs.Common.{rules, sym, ◌∙◌, arith}
use Rattle.std.specs.Slice.Iter.{chunks_exact_rest}
use Rattle.grid.proofs.General.{said_no}
use Rattle.sheet.proofs.Judging.{Left, left_start, left_run, left_next, between_no, left_end}
use Rattle.sheet.proofs.judge.angles_in_order.Goals as goal
use Rattle.sheet.proofs.judge.angles_in_order.Goals.{After-feed_run-judge}

pub loop-run-init : goal.loop-run-init
loop-run-init c =
    let start = left_start c.args.grid c.args.angles.now in
    (search rules, rw (c.into_iter-run-iterator.ensures.into_iter_gives, c.chunks_exact-run-items.ensures.rest, c.start-judge.ensures) start)

pub feed_run-judge-requires : goal.feed_run-judge-requires
feed_run-judge-requires c =
    let step = c.in-Some.ensures.steps.1 in
    left_run c.loop-run.invariant.1 c.requires _ _ step.0 (step.1 ∙ c.loop-run.invariant.0)

-- one run more
more : (c : After-feed_run-judge) → Left c.args.grid c.args.angles.now (chunks_exact_rest c.next.new.self) c.feed_run-judge.result
more c =
    let step = c.in-Some.ensures.steps.1 in
    left_next c.loop-run.invariant.1 c.requires _ _ step.0 (step.1 ∙ c.loop-run.invariant.0) _ c.feed_run-judge.ensures

pub returns-then-not-verdict : goal.returns-then-not-verdict
returns-then-not-verdict c =
    let left = more (goal.at.returns-then-not-verdict c).After-feed_run-judge in
    sym (between_no left.fed_before (said_no c.verdict.ensures c.if-not-verdict.true))

pub loop-run-preserved : goal.loop-run-preserved
loop-run-preserved c = (c.in-Some.ensures.steps.0 ∙ c.loop-run.invariant.0, more (goal.at.loop-run-preserved c).After-feed_run-judge)

pub returns : goal.returns
returns c =
    c.verdict-2.ensures ∙ sym (left_end c.loop-run.invariant.1 c.requires (omega (arith, c.in-None.ensures.steps.1.0, c.loop-run.invariant.0)))
