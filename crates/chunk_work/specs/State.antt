-- A chunk at work as the code carries it, and after each of a block's two ways.
use Rattle.std.specs.Prelude.{ℕ, ◌+◌, ◌%◌, Bool, List, [], eqb, Float, Some}
use Rattle.lists.specs.Counted.{one}
use Rattle.blocks.specs.declared.Block.{Block}
use Rattle.blocks.specs.Block.{area, is_cell, probe, range, block}
use Rattle.tally.specs.Counts.{stats, tally, plus}
use Rattle.candidates.specs.Candidate.{candidate_of, better_held}
use Rattle.chunk_work.specs.declared.ChunkWork.{ChunkWork}
use Rattle.chunk_work.specs.Work.{Work, wide_built, exact_built}

-- the definition's work, with the survivors so far
abbrev pub work_of : ChunkWork → List Block → Work
work_of w bs =
    record {
      outcome = record { held = w.held; survivors = bs; tally = w.tally };
      wide_row = w.wide_row;
      wide_radius = w.wide_km;
      exact_row = w.exact_row;
    }

-- the shape of no block
unfoldable pub no_shape : Block
no_shape = block (range 1 0) (range 0 0)

-- a block has an odd number of columns: its first and its last are both even or both odd
unfoldable pub odd_columns : Block → Bool
odd_columns b = eqb (b.first.0 % 2) (b.last.0 % 2)

-- a chunk after a block that is pruned: the kernels counted hang on no survivor
unfoldable pub pruned_work : ChunkWork → Block → Float → ChunkWork
pruned_work w b wide =
    record {
      held = w.held;
      tally = plus w.tally (tally (stats 0 1 1 0 (wide_built (work_of w []) b wide)) (area b) 0);
      wide_row = (probe b).row;
      wide_km = wide;
      exact_row = w.exact_row;
    }

-- and after one whose probe is evaluated
unfoldable pub evaluated_work : ChunkWork → Block → Float → ℕ → ChunkWork
evaluated_work w b wide population =
    record {
      held = better_held w.held (Some (candidate_of (probe b) population));
      tally = plus w.tally (tally (stats 0 1 0 1 (wide_built (work_of w []) b wide + exact_built (work_of w []) b)) 0 (one (is_cell b)));
      wide_row = (probe b).row;
      wide_km = wide;
      exact_row = (probe b).row;
    }
