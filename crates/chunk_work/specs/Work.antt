-- A chunk at work: what it has come to, and the kernels that it holds and counts.
use Rattle.std.specs.Prelude.{ℕ, not, ◌&&◌, List, Float, eqb, Option}
use Rattle.std.specs.Float.Ieee.{eq}
use Rattle.lists.specs.Counted.{one}
use Rattle.grid.specs.declared.Row.{Row}
use Rattle.blocks.specs.declared.Block.{Block}
use Rattle.blocks.specs.Block.{probe}
use Rattle.tally.specs.declared.Tally.{Tally}
use Rattle.candidates.specs.declared.Candidate.{Candidate}

-- what a chunk, or a level, has come to
pub record Outcome : Type 0 where
  pub held : Option Candidate
  pub survivors : List Block
  pub tally : Tally

-- a chunk at work: its outcome so far, and the row and radius of the wide kernel and the row of the exact one that it holds
pub record Work : Type 0 where
  pub outcome : Outcome
  pub wide_row : Row
  pub wide_radius : Float
  pub exact_row : Row

-- a wide kernel counts as built unless the chunk holds one of its row and radius
unfoldable pub wide_built : Work → Block → Float → ℕ
wide_built w b wide = one (not (eqb w.wide_row.0 (probe b).row.0 && eq w.wide_radius wide))

-- the exact kernels of a chunk have the plain radius, so that its row decides
unfoldable pub exact_built : Work → Block → ℕ
exact_built w b = one (not (eqb w.exact_row.0 (probe b).row.0))

-- opens all of the above, for facts that are computed
unfoldable pub open_works : Unit {0}
unfolding wide_built exact_built
open_works = tt
