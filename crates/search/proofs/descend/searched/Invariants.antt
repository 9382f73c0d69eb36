-- `search::descend::searched`. Invariant: what is left of the levels, from the blocks in the first buffer, is the whole search.
use Prim.Native.Nat.{◌+◌, ◌-◌}
use Rattle.search.proofs.Descents.{Descending}
use Rattle.search.proofs.descend.searched.Given as goal

abbrev pub invariant-loop-live : goal.invariant-loop-live
invariant-loop-live l = Descending l.map.globe.grid l.map.globe.angles.now l.map.globe.cosines.now l.map.sums.now l.km l.spacing l.initial.current l.initial.following l.current l.following l.live l.found

abbrev pub decreases-loop-live : goal.decreases-loop-live
decreases-loop-live l = l.map.globe.grid.width + l.map.globe.grid.height - l.found.tally.stats.levels
