-- The state as the code has it: the map's counts and sheet are the first places of the arrays.
use Rattle.std.specs.Prelude.{ℕ, ◌+◌, ◌*◌, ◌≡◌, true, false, cond, Float, take, set, replicate}
use Rattle.floats.specs.Binary.{whole}
use Rattle.grid.specs.declared.Cell.{Cell}
use Rattle.grid.specs.declared.Grid.{Grid}
use Rattle.grid.specs.declared.Row.{Row}
use Rattle.grid.specs.Grid.{cells, angle_count}
use Rattle.grid.specs.Map.{Map, lent_map, sheet_index}
use Rattle.ledger.specs.declared.Ledger.{Ledger}
use Rattle.ledger.specs.State.{fresh_ledger}
use Rattle.job_world.specs.declared.JobState.{JobState}
use Rattle.job_sizes.specs.Sizes.{job_rows, job_cells, job_angles, size_taken}
use Rattle.job_world.specs.World.{World, world, State, empty, begun, empty_map, emptied, with_map, with_count, with_cosine, with_angle}

-- ---- what is seen of it

-- the map: of each array as many places as the grid has
unfoldable pub job_map : JobState → Map
job_map s =
    let g = s.grid in
    lent_map g (take (cells g) s.counts) (take (angle_count g) s.angles) (take g.height s.cosines)

-- the map and the ledger
unfoldable pub world_of : JobState → World
world_of s = world (job_map s) s.ledger

-- before G only the ledger
unfoldable pub state_of : JobState → State
state_of s = cond s.begun (begun (world_of s)) (empty s.ledger)

-- ---- all of it, every place of the arrays

-- before any command: a grid of no cells, and nothing set
unfoldable pub no_grid : Grid
no_grid = record { width = 0; height = 0; origin_lat = whole 0; lon_step = whole 0; lat_step = whole 0 }

unfoldable pub start_state : JobState
start_state =
    record {
      begun = false;
      grid = no_grid;
      counts = replicate job_cells 0;
      angles = replicate job_angles (whole 0);
      cosines = replicate job_rows (whole 1);
      ledger = fresh_ledger;
    }

-- G: nothing set, in the map or past it
unfoldable pub grid_state : Ledger → Grid → JobState
grid_state l g =
    record {
      begun = true;
      grid = g;
      counts = replicate job_cells 0;
      angles = replicate job_angles (whole 0);
      cosines = replicate job_rows (whole 1);
      ledger = emptied l;
    }

-- C, K and A: one place of one array
unfoldable pub count_state : JobState → Cell → ℕ → JobState
count_state s x n =
    record {
      begun = true;
      grid = s.grid;
      counts = set s.counts (x.row.0 * s.grid.width + x.col.0) n;
      angles = s.angles;
      cosines = s.cosines;
      ledger = emptied s.ledger;
    }

unfoldable pub cosine_state : JobState → Row → Float → JobState
cosine_state s row x =
    record {
      begun = true;
      grid = s.grid;
      counts = s.counts;
      angles = s.angles;
      cosines = set s.cosines row.0 x;
      ledger = emptied s.ledger;
    }

unfoldable pub angle_state : JobState → Row → Row → ℕ → Float → JobState
angle_state s centre row offset x =
    record {
      begun = true;
      grid = s.grid;
      counts = s.counts;
      angles = set s.angles (sheet_index s.grid centre row offset) x;
      cosines = s.cosines;
      ledger = emptied s.ledger;
    }

-- R: the ledger
unfoldable pub ledger_state : JobState → Ledger → JobState
ledger_state s l = record { begun = true; grid = s.grid; counts = s.counts; angles = s.angles; cosines = s.cosines; ledger = l }

-- ---- what is seen of these is what the definitions of a world give

pub record StatesSeen : Type 0 where
  pub start : state_of start_state ≡ empty fresh_ledger
  pub grid : (l : Ledger) (g : Grid) → size_taken g ≡ true → state_of (grid_state l g) ≡ begun (world (empty_map g) (emptied l))
  pub count : (s : JobState) (x : Cell) (n : ℕ) → state_of (count_state s x n) ≡ begun (with_map (world_of s) (with_count (job_map s) x n))
  pub cosine : (s : JobState) (row : Row) (x : Float) → state_of (cosine_state s row x) ≡ begun (with_map (world_of s) (with_cosine (job_map s) row x))
  pub angle : (s : JobState) (centre row : Row) (offset : ℕ) (x : Float)
      → state_of (angle_state s centre row offset x) ≡ begun (with_map (world_of s) (with_angle (job_map s) centre row offset x))
  pub ledger : (s : JobState) (l : Ledger) → state_of (ledger_state s l) ≡ begun (world (job_map s) l)
