-- Each number by its place.
use Rattle.test_cases.proofs.map.grid_of.Goals as goal

pub returns : goal.returns
returns c = rw (c.short_at.ensures, c.short_at-2.ensures, c.float_at.ensures, c.float_at-2.ensures, c.float_at-3.ensures)
