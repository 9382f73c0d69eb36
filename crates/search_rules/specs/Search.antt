-- The search: levels until no block is left.
use Rattle.std.specs.Prelude.{ℕ, zero, suc, ◌+◌, cond, List, [], ◌∷◌, Float, eqb, None, unwrap_or}
use Rattle.floats.specs.Binary.{whole}
use Rattle.lists.specs.Lists.{concat_each}
use Rattle.grid.specs.Map.{Map}
use Rattle.blocks.specs.declared.Block.{Block}
use Rattle.candidates.specs.declared.Candidate.{Candidate}
use Rattle.search_rules.specs.declared.MostPopulous.{MostPopulous}
use Rattle.search_rules.specs.declared.SearchResult.{SearchResult}
use Rattle.spacing.specs.declared.Spacing.{Spacing}
use Rattle.tally.specs.declared.Tally.{Tally}
use Rattle.blocks.specs.Block.{tile, split}
use Rattle.spacing.specs.Spacing.{spacing_of}
use Rattle.candidates.specs.Candidate.{north_west}
use Rattle.levels.specs.Level.{level}
use Rattle.tally.specs.Counts.{no_tally, plus}

-- level by level, the survivors split; at most fuel levels
unfoldable pub levels : ℕ → Map → Float → SearchResult → List Block → SearchResult
levels zero m km s bs = s
levels (suc fuel) m km s [] = s
levels (suc fuel) m km s (b ∷ bs) =
    let o = level m km s.held (b ∷ bs) in
    levels fuel m km (record { held = o.held; tally = plus s.tally o.tally }) (concat_each split o.survivors)

-- The levels end within width + height. A block of several cells has its rows halved where there are two or more, and its columns too: so
-- the rows and columns of a child are together fewer by one at least, and those of a tile are at most width + height. While a block is
-- left, so is a level (`no_fuel`).
unfoldable pub searched : Map → Float → ℕ → SearchResult
searched m km spacing =
    let g = m.globe.grid in
    levels (g.width + g.height) m km (record { held = None; tally = no_tally }) (tile g spacing)

-- the answer of a search, with a tolerance of 0 persons
abbrev pub most_populous : ℕ → Candidate → Tally → MostPopulous
most_populous km centre tally = record { centre = centre; radius = record { 0 = km }; tolerance_persons = whole 0; tally = tally }

-- the search of an accepted map at a whole number of kilometres; at radius 0 the cell (0, 0) with nobody, and no counts
unfoldable pub search : Map → Spacing → ℕ → MostPopulous
search m spacing km =
    let found = searched m (whole km) (spacing_of m.globe.grid (whole km) spacing) in
    cond (eqb km 0) (most_populous 0 (north_west 0) no_tally) (most_populous km (unwrap_or found.held (north_west 0)) found.tally)

-- opens all of the above, for facts that are computed
unfoldable pub open_searches : Unit {0}
unfolding levels searched search
open_searches = tt
