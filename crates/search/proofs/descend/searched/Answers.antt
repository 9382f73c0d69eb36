-- `search::descend::searched`. Invariant: what is left of the levels, from the blocks in the first buffer, is the whole search.
use native.Mathlib.Omega.{arith}
use mathlib.Core.Path.{sym}
use lib.Seq.{length-take-le}
use Rattle.search.proofs.Descents.{descend_start, descend_words, descend_sweeps, descend_light, descend_fits, descend_less, descend_next, descend_done}
use Rattle.search.proofs.descend.searched.Goals as goal

pub loop-live-init : goal.loop-live-init
loop-live-init c =
    let f = c.first_level-live in
    let p = c.requires in
    rw c.nothing-found.ensures
    (descend_start _ _ _ _ _ _ _ _ c.args.map.now.ready (omega (arith, p.current_room, f.auto)) (omega (arith, p.following_room, f.auto)) _ f.ensures)

pub slice_bounds-level-end : goal.slice_bounds-level-end
slice_bounds-level-end c = descend_words _ _ _ _ _ _ _ _ c.args.map.now.ready _ _ _ _ c.loop-live.invariant

pub slice_bounds-level-end-in-loop-live : goal.slice_bounds-level-end-in-loop-live
slice_bounds-level-end-in-loop-live c = sym (length-take-le _ _ (descend_words _ _ _ _ _ _ _ _ c.args.map.now.ready _ _ _ _ c.loop-live.invariant))

pub level-level-requires : goal.level-level-requires
level-level-requires c =
    descend_sweeps _ _ _ _ _ _ _ _ c.args.map.now.ready _ _ _ _ c.loop-live.invariant

pub with_level-found-requires : goal.with_level-found-requires
with_level-found-requires c =
    descend_light _ _ _ _ _ _ _ _ c.args.map.now.ready _ _ _ _ c.loop-live.invariant c.loop-live-test.true _ _ c.level-level.ensures

pub insert_from-requires : goal.insert_from-requires
insert_from-requires c =
    descend_fits _ _ _ _ _ _ _ _ c.args.map.now.ready _ _ _ _ c.loop-live.invariant c.loop-live-test.true _ _ c.level-level.ensures c.level-level.auto.following

pub loop-live-smaller : goal.loop-live-smaller
loop-live-smaller c =
    rw c.with_level-found.ensures (descend_less _ _ _ _ _ _ _ _ c.args.map.now.ready _ _ _ _ c.loop-live.invariant c.loop-live-test.true _ _ c.level-level.ensures c.level-level.auto.following)

pub loop-live-preserved : goal.loop-live-preserved
loop-live-preserved c =
    let i = c.insert_from in
    rw c.with_level-found.ensures (descend_next _ _ _ _ _ _ _ _ c.args.map.now.ready _ _ _ _ c.loop-live.invariant c.loop-live-test.true _ _ c.level-level.ensures c.level-level.auto.following _ i.auto.to i.ensures)

pub returns : goal.returns
returns c = descend_done _ _ _ _ _ _ _ _ c.args.map.now.ready _ _ _ _ c.loop-live.invariant c.loop-live-test.false
