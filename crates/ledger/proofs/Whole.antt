-- A ledger has as many places as its capacity: what its type says of the array, as a length.
use mathlib.Core.Path.{◌≡◌}
use mathlib.Core.List.{List}
use lib.ListN.{length}
use mir.Val.{Val}
use denote.Laws.{Is}
use Rattle.ledger.specs.declared.Ledger.{Ledger}
use Rattle.ledger.specs.Ledger.{capacity}
use Rattle.ledger.specs.contracts.Ledger as T

pub places_whole : (l : Ledger) (vs : List Val) → Is T.the_row l vs → length l.places ≡ capacity
places_whole l vs is = is.1.1.1.0.1.0.1
