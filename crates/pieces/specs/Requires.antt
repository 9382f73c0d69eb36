-- What writing a block's pieces asks: numbers that a word can hold, and room for what is written.
use Rattle.std.specs.Prelude.{ℕ, ◌+◌, ◌≤◌, ◌<◌, List, length}
use Rattle.blocks.specs.declared.Block.{Block}
use Rattle.blocks.specs.Block.{split}
use Rattle.blocks.specs.State.{base, column_halves}
use Rattle.blocks.specs.Requires.{Small}

-- a block of small numbers, and room for its children from place at on
pub record CanSplit (b : Block) (l : List ℕ) (at : ℕ) : Type 0 where
  pub small : Small b
  pub room : at + length (split b) ≤ length l

-- columns that a word can hold, and room for a block's halves by column from place at on
pub record CanHalve (b : Block) (l : List ℕ) (at : ℕ) : Type 0 where
  pub first : b.first.0 < base
  pub last : b.last.0 < base
  pub room : at + length (column_halves b) ≤ length l
