-- The world under way in a job: a map and its ledger, and what is set in it.
use Rattle.std.specs.Prelude.{ℕ, ◌+◌, ◌*◌, Float, set, replicate}
use Rattle.floats.specs.Binary.{whole}
use Rattle.grid.specs.declared.Cell.{Cell}
use Rattle.grid.specs.declared.Grid.{Grid}
use Rattle.grid.specs.declared.Row.{Row}
use Rattle.grid.specs.Grid.{cells, angle_count}
use Rattle.grid.specs.Map.{Map, lent_map, sheet_index}
use Rattle.ledger.specs.declared.Ledger.{Ledger}
use Rattle.ledger.specs.Ledger.{no_entries}
use Rattle.job_sizes.specs.Sizes.{open_sizes}

-- a map under way, and its ledger
pub record World : Type 0 where
  pub map : Map
  pub ledger : Ledger

abbrev pub world : Map → Ledger → World
world m l = record { map = m; ledger = l }

-- before G, with the ledger whose places the job is given, and after it
pub data State : Type 0 where
  empty : Ledger → State
  begun : World → State

-- ---- G: a map with nothing set

-- nobody in any cell, each angle 0, each cosine 1
unfoldable pub empty_map : Grid → Map
empty_map g = lent_map g (replicate (cells g) 0) (replicate (angle_count g) (whole 0)) (replicate g.height (whole 1))

-- a ledger with no entries, in the places of another
unfoldable pub emptied : Ledger → Ledger
emptied l = no_entries l.places

-- ---- C, K and A: each empties the ledger, whose circles are those of the map before it

unfoldable pub with_map : World → Map → World
with_map w m = world m (emptied w.ledger)

-- the count of a cell
unfoldable pub with_count : Map → Cell → ℕ → Map
with_count m x n = record { globe = m.globe; counts = set m.counts (x.row.0 * m.globe.grid.width + x.col.0) n }

-- the cosine of a row
unfoldable pub with_cosine : Map → Row → Float → Map
with_cosine m row x = lent_map m.globe.grid m.counts m.globe.angles (set m.globe.cosines row.0 x)

-- the angle from a centre row to a row at an offset
unfoldable pub with_angle : Map → Row → Row → ℕ → Float → Map
with_angle m centre row offset x =
    let g = m.globe.grid in
    lent_map g m.counts (set m.globe.angles (sheet_index g centre row offset) x) m.globe.cosines

-- opens all of the above and the sizes, for facts that are computed
unfoldable pub open_worlds : Unit {0}
unfolding open_sizes empty_map emptied with_map with_count with_cosine with_angle
open_worlds = tt
