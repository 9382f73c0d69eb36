-- One level of the search: its blocks in the order of their probes, in chunks for four workers, each block pruned or evaluated.
use Rattle.std.specs.Prelude.{◌+◌, ◌/◌, min, cond, List, [], ◌∷◌, ◌++◌, length, Float, Option, Some}
use Rattle.lists.specs.Counted.{max, div_ceil, one}
use Rattle.lists.specs.Lists.{fold, each, sort, pieces}
use Rattle.grid.specs.declared.Row.{Row}
use Rattle.grid.specs.Map.{Map}
use Rattle.blocks.specs.declared.Block.{Block}
use Rattle.tally.specs.Counts.{stats, tally, plus}
use Rattle.blocks.specs.Block.{area, is_cell, probe, by_probe}
use Rattle.bounds.specs.Bound.{wide_km, bound}
use Rattle.candidates.specs.declared.Candidate.{Candidate}
use Rattle.candidates.specs.Candidate.{candidate, better_held, prunes}
use Rattle.chunk_work.specs.Work.{Outcome, Work, wide_built, exact_built}

-- ---- a chunk

-- a block is pruned: no exact kernel, and what is held stays
unfoldable pub pruned : Work → Block → Float → Work
pruned w b wide =
    let o = w.outcome in
    record {
      outcome = record {
        held = o.held;
        survivors = o.survivors;
        tally = plus o.tally (tally (stats 0 1 1 0 (wide_built w b wide)) (area b) 0);
      };
      wide_row = (probe b).row;
      wide_radius = wide;
      exact_row = w.exact_row;
    }

-- otherwise the block's probe is evaluated, and the block survives
unfoldable pub evaluated : Map → Float → Work → Block → Float → Work
evaluated m km w b wide =
    let o = w.outcome in
    record {
      outcome = record {
        held = better_held o.held (Some (candidate m km (probe b)));
        survivors = o.survivors ++ b ∷ [];
        tally = plus o.tally (tally (stats 0 1 0 1 (wide_built w b wide + exact_built w b)) 0 (one (is_cell b)));
      };
      wide_row = (probe b).row;
      wide_radius = wide;
      exact_row = (probe b).row;
    }

-- one block: its bound against what the chunk holds
unfoldable pub examine : Map → Float → Work → Block → Work
examine m km w b =
    let wide = wide_km m.globe km b in
    cond (prunes (bound m km b) w.outcome.held) (pruned w b wide) (evaluated m km w b wide)

-- a chunk begins with what was held when its level began, and with two kernels that count as built: of the middle row and the plain radius
unfoldable pub started : Map → Float → Option Candidate → Work
started m km best =
    let middle_row : Row = record { 0 = m.globe.grid.height / 2 } in
    record {
      outcome = record { held = best; survivors = []; tally = tally (stats 0 0 0 0 2) 0 0 };
      wide_row = middle_row;
      wide_radius = km;
      exact_row = middle_row;
    }

-- the blocks of a chunk in turn
unfoldable pub chunk : Map → Float → Option Candidate → List Block → Outcome
chunk m km best bs = (fold (examine m km) (started m km best) bs).outcome

-- ---- a level

-- as for four workers: of as many blocks each, the last one of fewer
unfoldable pub chunks : List Block → List (List Block)
chunks bs = pieces 4 (div_ceil (length bs) (max 1 (min 4 (length bs)))) bs

-- two outcomes joined, the second after the first
unfoldable pub joined : Outcome → Outcome → Outcome
joined o p =
    record { held = better_held o.held p.held; survivors = o.survivors ++ p.survivors; tally = plus o.tally p.tally }

-- the outcomes of the chunks of blocks that are in order, joined in order
unfoldable pub level_in_order : Map → Float → Option Candidate → List Block → Outcome
level_in_order m km best sorted =
    let begun : Outcome = record { held = best; survivors = []; tally = tally (stats 1 0 0 0 0) 0 0 } in
    fold joined begun (each (chunk m km best) (chunks sorted))

-- a level: its blocks by probe
unfoldable pub level : Map → Float → Option Candidate → List Block → Outcome
level m km best bs = level_in_order m km best (sort by_probe bs)

-- opens all of the above, for facts that are computed
unfoldable pub open_levels : Unit {0}
unfolding pruned evaluated examine started chunk chunks joined level_in_order level
open_levels = tt
