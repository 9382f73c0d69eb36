-- What a search of the ring of four cells is made of.
use Rattle.floats.specs.Binary.{open_floats}
use Rattle.lists.specs.Counted.{open_counted}
use Rattle.lists.specs.Lists.{open_lists}
use Rattle.lists.specs.Front.{open_fronts}
use Rattle.grid.specs.Grid.{open_grids}
use Rattle.grid.specs.Map.{open_maps}
use Rattle.grid.specs.Answer.{open_answers}
use Rattle.grid.specs.Questions.{open_questions}
use Rattle.sums.specs.Sums.{open_sums}
use Rattle.circle_cells.specs.Circle.{open_circles}
use Rattle.blocks.specs.Block.{open_blocks}
use Rattle.bounds.specs.Bound.{open_bounds}
use Rattle.spacing.specs.Spacing.{open_spacings}
use Rattle.candidates.specs.Candidate.{open_candidates}
use Rattle.tally.specs.Counts.{open_tallies}
use Rattle.chunk_work.specs.Work.{open_works}
use Rattle.levels.specs.Level.{open_levels}
use Rattle.search_rules.specs.Search.{open_searches}
use Rattle.ring.specs.Ring.{open_rings}

-- all that a search of the ring is made of, for facts that are computed
unfoldable pub ring_open : Unit {0}
unfolding open_floats open_counted open_lists open_fronts open_grids open_maps open_answers open_questions open_sums open_circles open_blocks open_bounds open_spacings open_candidates open_tallies open_works open_levels open_searches open_rings
ring_open = tt
