-- What the next bracket asks: the next radius to probe is not past the last one of a climb on the grid.
use Rattle.std.specs.Prelude.{◌≤◌}
use Rattle.grid.specs.declared.Grid.{Grid}
use Rattle.climb.specs.declared.Bracket.{Bracket}
use Rattle.climb.specs.Climb.{last_radius}
use Rattle.climb.specs.State.{next_radius}

pub record CanGoOn (g : Grid) (c : Bracket) : Type 0 where
  pub within : next_radius c ≤ last_radius g
