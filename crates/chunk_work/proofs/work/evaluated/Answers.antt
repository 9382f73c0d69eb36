-- `chunk_work::work::evaluated`: the block and its circle counted, a cell that is settled, and the better of what is held and the probe.
use Rattle.std.proofs.Common.{Some}
use Prim.Native.Nat.{ℕ, ◌+◌, ◌≤◌}
use mathlib.Core.Path.{ap, ap₂, ◌∙◌}
use native.Mathlib.Omega.{arith}
use Rattle.candidates.specs.declared.Candidate.{Candidate}
use Rattle.candidates.specs.Candidate.{better_held}
use Rattle.tally.specs.declared.SearchStats.{SearchStats}
use Rattle.tally.specs.Counts.{stats, tally, plus}
use Rattle.chunk_work.proofs.Added.{plus_light, added_light, one_few, wide_few, exact_few, evaluated_is}
use Rattle.chunk_work.proofs.work.evaluated.Goals as goal
use Rattle.chunk_work.proofs.work.evaluated.Goals.{After-exact_built}

few : (c : After-exact_built) → c.wide_built.result + c.exact_built.result ≤ 2
few c =
    let a = c.args in
    omega (arith, c.wide_built.ensures, c.exact_built.ensures, wide_few a.work a.block a.wide, exact_few a.work a.block)

pub overflow_add-kernels : goal.overflow_add-kernels
overflow_add-kernels c = omega (arith, few c)

pub add-tally-requires : goal.add-tally-requires
add-tally-requires c =
    let cells = c.settled in
    rw (c.of-more.ensures, c.of-stats.ensures)
    (plus_light c.args.work.tally _ c.requires.light
    (added_light 1 0 1 _ 0 cells.result (omega arith) (omega arith) (omega arith) (few (goal.at.add-tally-requires c).After-exact_built) (omega arith) (one_few cells.result _ cells.ensures)))

pub returns : goal.returns
returns c =
    let a = c.args in
    let probe = c.probe-probe.ensures in
    evaluated_is a.work a.block a.wide a.population _ _ _ probe (c.better_held-held.ensures ∙ ap (λ (x : Candidate). better_held a.work.held (Some x)) c.at.ensures)
    (c.add-tally.ensures
    ∙ ap (plus a.work.tally)
    (c.of-more.ensures
    ∙ ap₂ (λ (s : SearchStats) (n : ℕ). tally s 0 n) (c.of-stats.ensures ∙ ap (stats 0 1 0 1) (ap₂ ◌+◌ c.wide_built.ensures c.exact_built.ensures))
    c.settled.ensures))
