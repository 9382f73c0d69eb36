-- A search as the code carries it: its buffers, the first level in one of them, and what a level adds.
use Rattle.std.specs.Prelude.{ℕ, ◌≡◌, List, length, take}
use Rattle.lists.specs.Lists.{sort}
use Rattle.grid.specs.declared.Grid.{Grid}
use Rattle.blocks.specs.Block.{tile, by_probe}
use Rattle.blocks.specs.State.{blocks_of}
use Rattle.levels.specs.declared.ChunkResult.{ChunkResult}
use Rattle.tally.specs.Counts.{plus}
use Rattle.search_rules.specs.declared.LevelBuffers.{LevelBuffers}
use Rattle.search_rules.specs.declared.SearchResult.{SearchResult}

-- both buffers are as long as before
pub record SameLengths (old new : LevelBuffers) : Type 0 where
  pub current : length new.current.now ≡ length old.current.now
  pub following : length new.following.now ≡ length old.following.now

-- the first level's blocks, in probe order at the front of the buffer, and how many they are
pub record FirstLevel (g : Grid) (spacing : ℕ) (current : List ℕ) (n : ℕ) : Type 0 where
  pub number : n ≡ length (tile g spacing)
  pub order : blocks_of (take n current) ≡ sort by_probe (tile g spacing)

-- what a level holds, and its counts added to those before
unfoldable pub with_level : SearchResult → ChunkResult → SearchResult
with_level found level = record { held = level.held; tally = plus found.tally level.tally }
