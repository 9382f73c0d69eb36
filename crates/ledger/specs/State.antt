-- How the code sees the ledger's places: those of a fresh ledger, and where an entry is put.
use Rattle.std.specs.Prelude.{ℕ, suc, cond, List, [], ◌∷◌, leb, replicate}
use Rattle.grid.specs.Grid.{cell}
use Rattle.candidates.specs.Candidate.{candidate_of}
use Rattle.ledger.specs.declared.Entry.{Entry}
use Rattle.ledger.specs.declared.Ledger.{Ledger}
use Rattle.ledger.specs.Ledger.{capacity, entry, no_entries}

-- kilometre 0 and nobody at cell (0, 0)
abbrev pub blank : Entry
blank = entry 0 (candidate_of (cell 0 0) 0)

-- no entries, in places that are all blank
unfoldable pub fresh_ledger : Ledger
fresh_ledger = no_entries (replicate capacity blank)

-- how many entries stand before the first that is not below a kilometre
unfoldable pub place_of : List Entry → ℕ → ℕ
place_of [] km = 0
place_of (e ∷ es) km = let later = suc (place_of es km) in cond (leb km e.km.0) 0 later
