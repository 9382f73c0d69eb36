-- A level as the code carries it: the map by its sums, a chunk at work with its kernels, and the children in the other buffer.
use Rattle.std.specs.Prelude.{ℕ, ◌/◌, ◌≡◌, true, List, Float, Option}
use Rattle.lists.specs.Lists.{each, concat_each}
use Rattle.grid.specs.declared.Row.{Row}
use Rattle.grid.specs.declared.Grid.{Grid}
use Rattle.grid.specs.Map.{Map, globe_of}
use Rattle.sums.specs.State.{globe_map}
use Rattle.kernel.specs.declared.Kernel.{Kernel}
use Rattle.blocks.specs.declared.Block.{Block}
use Rattle.blocks.specs.Block.{same_shape, Rectangle, split}
use Rattle.blocks.specs.State.{word_of, Written}
use Rattle.bounds.specs.State.{wide_kernel}
use Rattle.candidates.specs.declared.Candidate.{Candidate}
use Rattle.candidates.specs.Candidate.{better_held}
use Rattle.chunk_work.specs.declared.ChunkWork.{ChunkWork}
use Rattle.levels.specs.declared.ChunkResult.{ChunkResult}
use Rattle.levels.specs.declared.SummedMap as lent
use Rattle.tally.specs.Counts.{stats, tally, plus}
use Rattle.chunk_work.specs.Work.{Outcome}

-- ---- a chunk at work

-- the map whose counts are those of the sums
abbrev pub summed_map : Grid → List Float → List Float → List ℕ → Map
summed_map g angles cosines sums = globe_map (globe_of g angles cosines) sums

-- and by the struct in which it is lent
abbrev pub summed_lent : lent.SummedMap → Map
summed_lent m = summed_map m.globe.grid m.globe.angles.now m.globe.cosines.now m.sums.now

-- a kernel serves a shape: it is the wide kernel of every block of that shape
abbrev pub Serves : Grid → List Float → List Float → Float → Block → Kernel → Type 0
Serves g angles cosines km shape k = (b : Block) → Rectangle g b → same_shape shape b ≡ true → k ≡ wide_kernel (globe_of g angles cosines) km b

-- a chunk that starts: two kernels at the middle row and the plain radius, which count as built
unfoldable pub started_work : Grid → Float → Option Candidate → ChunkWork
started_work g km best =
    let middle_row : Row = record { 0 = g.height / 2 } in
    record { held = best; tally = tally (stats 0 0 0 0 2) 0 0; wide_row = middle_row; wide_km = km; exact_row = middle_row }

-- ---- what a chunk or a level comes to

-- the blocks of the next level: the survivors' children
abbrev pub children : Outcome → List Block
children o = concat_each split o.survivors

-- an outcome as the code has it: what is held, the counts, and its children in the buffer from place live on
pub record Swept (o : Outcome) (following : List ℕ) (live : ℕ) (following' : List ℕ) (r : ChunkResult) : Type 0 where
  pub held : r.held ≡ o.held
  pub counts : r.tally ≡ o.tally
  pub written : Written following live (each word_of (children o)) following' r.live

-- two results joined, the second's children after the first's
unfoldable pub joined_results : ChunkResult → ChunkResult → ChunkResult
joined_results a b = record { held = better_held a.held b.held; tally = plus a.tally b.tally; live = b.live }
