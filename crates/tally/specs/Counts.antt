-- The counts of a search: nothing counted, and counts added.
use Rattle.std.specs.Prelude.{ℕ, ◌+◌}
use Rattle.tally.specs.declared.SearchStats.{SearchStats}
use Rattle.tally.specs.declared.Tally.{Tally}

-- the counts of the original: levels, blocks examined and pruned, circles evaluated, kernels built
abbrev pub stats : ℕ → ℕ → ℕ → ℕ → ℕ → SearchStats
stats levels examined pruned evaluated kernels =
    record { levels = levels; blocks_examined = examined; blocks_pruned = pruned; circles_evaluated = evaluated; kernels_built = kernels }

-- the same with the cells of pruned blocks and of single-cell blocks evaluated
abbrev pub tally : SearchStats → ℕ → ℕ → Tally
tally s pruned settled = record { stats = s; cells_pruned = pruned; cells_settled = settled }

-- nothing counted
unfoldable pub no_stats : SearchStats
no_stats = stats 0 0 0 0 0

unfoldable pub no_tally : Tally
no_tally = tally no_stats 0 0

-- count by count
unfoldable pub plus_stats : SearchStats → SearchStats → SearchStats
plus_stats s t =
    stats (s.levels + t.levels) (s.blocks_examined + t.blocks_examined) (s.blocks_pruned + t.blocks_pruned)
    (s.circles_evaluated + t.circles_evaluated) (s.kernels_built + t.kernels_built)

unfoldable pub plus : Tally → Tally → Tally
plus s t = tally (plus_stats s.stats t.stats) (s.cells_pruned + t.cells_pruned) (s.cells_settled + t.cells_settled)

-- opens all of the above, for facts that are computed
unfoldable pub open_tallies : Unit {0}
unfolding no_stats no_tally plus_stats plus
open_tallies = tt
