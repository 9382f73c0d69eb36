-- Candidates: a centre with the population of its circle, and which of two is better.
use Rattle.std.specs.Prelude.{ℕ, Bool, false, cond, ltb, Float, Option, None, Some}
use Rattle.grid.specs.declared.Cell.{Cell}
use Rattle.grid.specs.Grid.{cell, before}
use Rattle.grid.specs.Map.{Map}
use Rattle.circle_cells.specs.Circle.{population}
use Rattle.candidates.specs.declared.Candidate.{Candidate}

-- a cell with a population
abbrev pub candidate_of : Cell → ℕ → Candidate
candidate_of x population = record { row = x.row; col = x.col; population = population }

-- the cell of a candidate
abbrev pub centre_of : Candidate → Cell
centre_of c = record { row = c.row; col = c.col }

-- a cell with the population of its circle
unfoldable pub candidate : Map → Float → Cell → Candidate
candidate m km x = candidate_of x (population m km x)

-- the cell (0, 0) with a population
unfoldable pub north_west : ℕ → Candidate
north_west population = candidate_of (cell 0 0) population

-- more people win; of as many, the first by row, then column
unfoldable pub better : Candidate → Candidate → Candidate
better c d =
    let tied = cond (before (centre_of d) (centre_of c)) d c in
    let least = cond (ltb d.population c.population) c tied in
    cond (ltb c.population d.population) d least

-- the better of what two hold
unfoldable pub better_held : Option Candidate → Option Candidate → Option Candidate
better_held None h = h
better_held (Some c) None = Some c
better_held (Some c) (Some d) = Some (better c d)

-- a bound is below the held population, so its block is pruned; an equal one lives
unfoldable pub prunes : ℕ → Option Candidate → Bool
prunes bound None = false
prunes bound (Some c) = ltb bound c.population

-- opens all of the above, for facts that are computed
unfoldable pub open_candidates : Unit {0}
unfolding candidate north_west better better_held prunes
open_candidates = tt
