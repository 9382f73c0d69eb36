-- Invariant: the loop has found whether no angle before k is below the one before it.
use Rattle.std.proofs.Common.{◌≡◌, ℕ, ◌+◌, ◌-◌, List, ◌&&◌, length, get_or, sym, arith}
use Rattle.std.specs.Float.{Float, nan}
use Rattle.std.specs.Float.Ieee.{le}
use Rattle.lists.specs.Counted.{all_below}
use Rattle.lists.proofs.All.{all_none, all_plus_one}
use Rattle.sheet.specs.State.{not_falling}
use Rattle.sheet.proofs.judge.not_falling.Invariants.{up}
use Rattle.sheet.proofs.judge.not_falling.Goals as goal

one_more : (run : List Float) (i k : ℕ) → k ≡ i + 1 → (all_below i (up run) && le (get_or run i nan) (get_or run k nan)) ≡ all_below k (up run)
one_more run i k e = rw (e, all_plus_one i (up run))

pub loop-k-init : goal.loop-k-init
loop-k-init c = (omega arith, sym (all_none _))

pub loop-k-preserved : goal.loop-k-preserved
loop-k-preserved c =
    let e : c.loop-k.k + 1 - 1 ≡ c.loop-k.k = omega arith in
    (omega arith, rw (c.loop-k.invariant.1, e) (one_more c.args.run.now (c.loop-k.k - 1) c.loop-k.k (omega arith)))

pub returns : goal.returns
unfolding not_falling
returns c =
    let last : c.loop-k.k - 1 ≡ length c.args.run.now - 1 = omega arith in
    rw last at c.loop-k.invariant.1
