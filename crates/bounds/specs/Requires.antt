-- What widening a block's circle asks: a cosine for each row, a sheet that a call has tested, and a rectangle on the grid.
use Rattle.std.specs.Prelude.{◌≡◌, List, length, Float}
use Rattle.grid.specs.declared.Grid.{Grid}
use Rattle.reach.specs.Requires.{Sheet}
use Rattle.blocks.specs.declared.Block.{Block}
use Rattle.blocks.specs.Block.{Rectangle}

-- for the slack and the wide radius
pub record WithCosines (g : Grid) (cosines : List Float) (b : Block) : Type 0 where
  pub complete : length cosines ≡ g.height
  pub rectangle : Rectangle g b

-- for the wide circle's kernel
pub record CanWiden (g : Grid) (angles cosines : List Float) (b : Block) : Type 0 where
  pub sheet : Sheet g angles
  pub complete : length cosines ≡ g.height
  pub rectangle : Rectangle g b
