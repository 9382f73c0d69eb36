-- What question 11 leaves to rely on of an entry's centre, and questions 11 and 12 of a ledger that an entry is put into.
use Rattle.std.specs.Prelude.{◌^◌, ◌≤◌, ◌≡◌, true}
use Rattle.grid.specs.declared.Grid.{Grid}
use Rattle.grid.specs.Grid.{on_grid}
use Rattle.candidates.specs.declared.Candidate.{Candidate}
use Rattle.candidates.specs.Candidate.{centre_of}
use Rattle.ledger.specs.declared.Entry.{Entry}
use Rattle.ledger.specs.declared.Ledger.{Ledger}
use Rattle.ledger.specs.Ledger.{capacity, entries, get, rising_from, place_for}

-- a centre on the grid, whose people a binary64 counts exactly
pub record InBounds (g : Grid) (c : Candidate) : Type 0 where
  pub on : on_grid g (centre_of c) ≡ true
  pub exact : c.population ≤ 2 ^ 53

-- a ledger in order with a place for an entry: one of its kilometre, or a free one
pub record PutRoom (l : Ledger) (x : Entry) : Type 0 where
  pub counted : l.len ≤ capacity
  pub rising : rising_from 0 (entries l) ≡ true
  pub place : place_for l (get l x.km.0) ≡ true
