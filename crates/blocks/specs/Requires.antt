-- What functions on blocks ask: numbers that a word can hold.
use Rattle.std.specs.Prelude.{◌<◌}
use Rattle.blocks.specs.declared.Block.{Block}
use Rattle.blocks.specs.State.{base}

-- a block whose four numbers a word can hold
pub record Small (b : Block) : Type 0 where
  pub north : b.north.0 < base
  pub south : b.south.0 < base
  pub first : b.first.0 < base
  pub last : b.last.0 < base
