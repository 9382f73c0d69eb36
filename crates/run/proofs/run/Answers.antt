-- `run::run`: a turn opens the bracket, its probe is reused or searched, and the next bracket is one probe on.
use mathlib.Core.Path.{◌≡◌, refl, sym, ◌∙◌}
use Prim.Native.Nat.{◌+◌}
use Rattle.levels.specs.State.{summed_lent}
use Rattle.search_rules.specs.State.{SameLengths}
use Rattle.search_rules.proofs.Lengths.{lengths_then, room_stays}
use Rattle.probes.specs.State.{probe_count}
use Rattle.probes.proofs.Probes.{ProbedTo, after_reuse, after_search}
use Rattle.run.proofs.RunLoop.{Looping, loop_starts, loop_reuses, loop_puts, loop_evaluates, loop_fits, loop_goes_on, loop_falls, loop_ends}
use Rattle.run.proofs.run.Goals as goal
use Rattle.run.proofs.run.Goals.{After-next-bracket, in-Some, in-None}

pub loop-spacing-init : goal.loop-spacing-init
loop-spacing-init c =
    (loop_starts c.args.map.now c.requires c.args.spacing c.begun-state.ensures c.start-bracket.ensures, record { current = refl; following = refl })

pub reused-state-requires : goal.reused-state-requires
reused-state-requires c =
    loop_reuses c.args.map.now c.requires c.args.spacing c.loop-spacing.invariant.0 (sym c.closed.ensures ∙ c.loop-spacing-test.true) c.radius-km.result.0
    (sym c.get.ensures ∙ c.in-Some.is)

pub search_at-found-requires : goal.search_at-found-requires
search_at-found-requires c = room_stays _ c.requires.buffers c.loop-spacing.invariant.1

pub put-requires : goal.put-requires
put-requires c =
    loop_puts c.args.map.now c.requires c.args.spacing c.loop-spacing.invariant.0 (sym c.closed.ensures ∙ c.loop-spacing-test.true) c.entry_of.result

pub evaluated-state-requires : goal.evaluated-state-requires
evaluated-state-requires c =
    loop_evaluates c.args.map.now c.requires c.args.spacing c.loop-spacing.invariant.0 (sym c.closed.ensures ∙ c.loop-spacing-test.true) c.radius-km.result.0
    c.search_at-found.ensures.found

pub next-bracket-requires : goal.next-bracket-requires
next-bracket-requires c = loop_fits c.args.map.now c.requires c.args.spacing c.loop-spacing.invariant.0 (sym c.closed.ensures ∙ c.loop-spacing-test.true)

-- one probe on: the ledger and the state are those after the probe, on whichever way
next : (c : After-next-bracket)
    → Looping c.args.map.now c.requires c.args.spacing c.match-get.ledger c.match-get.state c.next-bracket.result
    × (probe_count c.match-get.state ≡ probe_count c.loop-spacing.state + 1)
next c =
    let h = c.loop-spacing in
    let a = c.args in
    let j = c.match-get in
    let probed : ProbedTo (summed_lent a.map.now) a.spacing a.aim.target.persons a.aim.slack h.ledger h.state c.radius-km.result.0 j.ledger j.state =
    elim j.branch [
      | in-Some w ↦ after_reuse _ _ _ _ _ _ _ (sym c.get.ensures ∙ w.in-Some.is) w.ledger-is (w.state-is ∙ w.reused-state.ensures)
      | in-None w ↦
          after_search _ _ _ _ _ _ _ (sym c.get.ensures ∙ w.in-None.is) w.search_at-found.ensures.found w.entry_of.ensures (w.ledger-is ∙ w.put.ensures)
          (w.state-is ∙ w.evaluated-state.ensures)
    ] in
    loop_goes_on c.args.map.now c.requires a.spacing h.invariant.0 (sym c.closed.ensures ∙ c.loop-spacing-test.true) c.radius-km.ensures probed c.next-bracket.ensures

pub loop-spacing-smaller : goal.loop-spacing-smaller
loop-spacing-smaller c =
    loop_falls c.args.map.now c.requires c.args.spacing c.loop-spacing.invariant.0 (sym c.closed.ensures ∙ c.loop-spacing-test.true) c.match-get.state
    (next (goal.at.loop-spacing-smaller c).After-next-bracket).1

pub loop-spacing-preserved : goal.loop-spacing-preserved
loop-spacing-preserved c =
    let lengths : SameLengths c.args.buffers.now c.match-get.buffers =
    elim c.match-get.branch [
      | in-Some w ↦ rw w.buffers-is c.loop-spacing.invariant.1
      | in-None w ↦ rw w.buffers-is (lengths_then c.loop-spacing.invariant.1 w.search_at-found.ensures.lengths)
    ] in
    ((next (goal.at.loop-spacing-preserved c).After-next-bracket).0, lengths)

pub returns-clause-lengths : goal.returns-clause-lengths
returns-clause-lengths c = c.loop-spacing.invariant.1

pub returns-clause-ended : goal.returns-clause-ended
returns-clause-ended c =
    loop_ends c.args.map.now c.requires c.args.spacing c.loop-spacing.invariant.0 (sym c.closed.ensures ∙ c.loop-spacing-test.false) c.end_of.ensures
