-- Invariant: the judge has been fed the angles before `at`.
use Prim.Native.Nat.{◌-◌, ◌≤◌}
use mathlib.Core.Path.{◌≡◌}
use lib.ListN.{length, take}
use Rattle.lists.specs.Lists.{fold}
use Rattle.sheet.specs.Judge.{judge_feed}
use Rattle.sheet.proofs.SheetJudge.feed_all.Given as goal

abbrev pub invariant-loop-at : goal.invariant-loop-at
invariant-loop-at l = (l.at ≤ length l.angles) × (l.judge ≡ fold judge_feed l.initial.judge (take l.at l.angles))

abbrev pub decreases-loop-at : goal.decreases-loop-at
decreases-loop-at l = length l.angles - l.at
