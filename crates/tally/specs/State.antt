-- How much is counted: what bounds all counts together bounds each of them.
use Rattle.std.specs.Prelude.{ℕ, ◌+◌}
use Rattle.tally.specs.declared.SearchStats.{SearchStats}
use Rattle.tally.specs.declared.Tally.{Tally}

-- all counts of a search together: what bounds it bounds each of them
unfoldable pub stats_weight : SearchStats → ℕ
stats_weight s = s.levels + s.blocks_examined + s.blocks_pruned + s.circles_evaluated + s.kernels_built

-- the same with the cells pruned and settled
unfoldable pub weight : Tally → ℕ
weight t = stats_weight t.stats + t.cells_pruned + t.cells_settled
