-- `sweep::cut::level`. Invariant: the result is the definition's over the chunks passed, and their children are written.
use Prim.Native.Nat.{min}
use lib.ListN.{length}
use Rattle.sweep.proofs.Chunks.{Leveling}
use Rattle.sweep.proofs.cut.level.Given as goal

abbrev pub invariant-loop-start : goal.invariant-loop-start
invariant-loop-start l = Leveling l.map.globe.grid l.map.globe.angles.now l.map.globe.cosines.now l.map.sums.now l.words l.km l.best l.initial.following l.size l.following l.done (min l.start (length l.words))
