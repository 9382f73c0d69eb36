-- What counting a block asks: counts that stay small.
use Rattle.std.specs.Prelude.{◌≤◌, ◌^◌}
use Rattle.blocks.specs.declared.Block.{Block}
use Rattle.blocks.specs.Block.{area}
use Rattle.blocks.specs.Requires.{Small}
use Rattle.tally.specs.State.{weight}
use Rattle.chunk_work.specs.declared.ChunkWork.{ChunkWork}

-- a block whose cells and kernels can be counted
pub record CanCount (w : ChunkWork) (b : Block) : Type 0 where
  pub light : weight w.tally ≤ 2 ^ 30
  pub small : Small b
  pub narrow : area b ≤ 2 ^ 20
