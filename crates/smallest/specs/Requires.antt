-- What is asked before a smallest radius is settled: what the call's questions have told beside the map.
use Rattle.std.specs.Prelude.{◌≡◌, true}
use Rattle.grid.specs.declared.Grid.{Grid}
use Rattle.search_rules.specs.declared.LevelBuffers.{LevelBuffers}
use Rattle.search_rules.specs.Requires.{TwoBuffers}
use Rattle.ledger.specs.declared.Ledger.{Ledger}
use Rattle.ledger.specs.Ledger.{ledger_in_order, places_free}
use Rattle.climb.specs.Climb.{most_radii}

-- level buffers, and a ledger that questions 11 and 12 let pass
pub record CanSettle (g : Grid) (b : LevelBuffers) (l : Ledger) : Type 0 where
  pub buffers : TwoBuffers g b.current.now b.following.now
  pub ledger : ledger_in_order g l ≡ true
  pub room : places_free l most_radii ≡ true
