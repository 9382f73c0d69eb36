-- The sums under way.
use Rattle.std.specs.Prelude.{ℕ, ◌+◌, ◌*◌}
use Rattle.grid.specs.declared.Grid.{Grid}

-- how many words the rows from 0 to a row take, that row's included
abbrev pub words_through : Grid → ℕ → ℕ
words_through g row = row * (g.width + 1) + (g.width + 1)
