-- The rows from row up to the centre row are filled in.
use Rattle.grid.specs.Map.{globe_lent}
use Rattle.reach.specs.State.{Filled, reach_in}
use Rattle.reach.proofs.outward.walk_north.Given as goal

abbrev pub invariant-loop-row : goal.invariant-loop-row
invariant-loop-row l = Filled (reach_in (globe_lent l.globe) l.centre l.limit) l.row l.centre.0 l.initial.reaches l.reaches
