-- A block as a word of four 16-bit numbers, the form in which a level's buffer holds it, and what becomes of such a buffer.
use Rattle.std.specs.Prelude.{ℕ, ◌+◌, ◌-◌, ◌*◌, ◌/◌, ◌%◌, ◌≡◌, Bool, List, length}
use Rattle.lists.specs.Lists.{each}
use Rattle.lists.specs.Front.{onto, written_at}
use Rattle.blocks.specs.declared.Block.{Block}
use Rattle.blocks.specs.Block.{Range, range, block, by_probe, steps, halves}

-- ---- words

-- 16 bits for each of a word's four numbers: the base of its digits, the base's square and its cube
abbrev pub base : ℕ
base = 65536

abbrev pub base_squared : ℕ
base_squared = 4294967296

abbrev pub base_cubed : ℕ
base_cubed = 281474976710656

-- a block's word: its digits are north, south, first, last, the lowest first
unfoldable pub word_of : Block → ℕ
word_of b = b.north.0 % base + b.south.0 % base * base + b.first.0 % base * base_squared + b.last.0 % base * base_cubed

-- a word's block
unfoldable pub block_of : ℕ → Block
block_of w = block (range (w % base) (w / base % base)) (range (w / base_squared % base) (w / base_cubed % base))

-- the blocks of words
unfoldable pub blocks_of : List ℕ → List Block
blocks_of words = each block_of words

-- at or before, by probe
unfoldable pub words_by_probe : ℕ → ℕ → Bool
words_by_probe v w = by_probe (block_of v) (block_of w)

-- a block with its columns halved, its rows as they are
unfoldable pub column_halves : Block → List Block
column_halves b = each (block (range b.north.0 b.south.0)) (halves b.first.0 b.last.0)

-- a row of tiles: the columns in steps, the rows as they are
unfoldable pub tile_row : ℕ → ℕ → Range → List Block
tile_row width spacing rows = each (block rows) (steps width spacing 0 (width - 1))

-- ---- what becomes of a buffer

-- what becomes of a buffer l by writing xs from place at on: the buffer l', and the place after what was written
pub record Written (l : List ℕ) (at : ℕ) (xs l' : List ℕ) (next : ℕ) : Type 0 where
  pub place : next ≡ at + length xs
  pub words : l' ≡ written_at at xs l

-- what becomes of a buffer l by writing xs over its front: the buffer l', and how many were written
pub record Tiled (l xs l' : List ℕ) (n : ℕ) : Type 0 where
  pub number : n ≡ length xs
  pub words : l' ≡ onto xs l
