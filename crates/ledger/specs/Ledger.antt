-- The ledger: its entries, get and put, and the questions that judge it.
use Rattle.std.specs.Prelude.{ℕ, ◌+◌, ◌^◌, Bool, true, cond, ◌&&◌, List, [], ◌∷◌, length, take, leb, ltb, eqb, Option, Some, None}
use Rattle.std.specs.List.{find as first}
use Rattle.std.specs.Option.{option_map}
use Rattle.lists.specs.Front.{onto}
use Rattle.grid.specs.declared.Grid.{Grid}
use Rattle.grid.specs.Grid.{ceiling, on_grid}
use Rattle.candidates.specs.declared.Candidate.{Candidate}
use Rattle.candidates.specs.Candidate.{centre_of}
use Rattle.ledger.specs.declared.Entry.{Entry}
use Rattle.ledger.specs.declared.Ledger.{Ledger}

-- the places of a ledger
abbrev pub capacity : ℕ
capacity = 512

-- a whole kilometre with the best circle there
abbrev pub entry : ℕ → Candidate → Entry
entry km centre = record { km = record { 0 = km }; centre = centre }

-- the first len places; the others may hold anything
unfoldable pub entries : Ledger → List Entry
entries l = take l.len l.places

-- no entries in these places: every ledger that is fresh or emptied
abbrev pub no_entries : List Entry → Ledger
no_entries places = record { len = 0; places = places }

-- these entries in the places of a ledger; the places past their end are as they were
unfoldable pub with_entries : Ledger → List Entry → Ledger
with_entries l es = record { len = length es; places = onto es l.places }

-- the first entry of a kilometre, sorted or not
unfoldable pub find : List Entry → ℕ → Option Candidate
find es km = option_map (λ (e : Entry). e.centre) (first (λ (e : Entry). eqb e.km.0 km) es)

-- what a ledger holds of a kilometre
unfoldable pub get : Ledger → ℕ → Option Candidate
get l km = find (entries l) km

-- in place of an entry of the same kilometre, or before the first later one
unfoldable pub enter : List Entry → Entry → List Entry
enter [] x = x ∷ []
enter (e ∷ es) x =
    let later : List Entry = e ∷ enter es x in
    let here : List Entry = cond (eqb x.km.0 e.km.0) (x ∷ es) later in
    cond (ltb x.km.0 e.km.0) (x ∷ e ∷ es) here

-- a ledger with an entry put
unfoldable pub put : Ledger → Entry → Ledger
put l x = with_entries l (enter (entries l) x)

-- ---- question 11

-- kilometre below the ceiling, centre on the grid, population at most 2^53, up to which a binary64 counts exactly
unfoldable pub entry_in_bounds : Grid → Entry → Bool
entry_in_bounds g e = ltb e.km.0 (ceiling g) && on_grid g (centre_of e.centre) && leb e.centre.population (2 ^ 53)

-- kilometres strictly rising from a bound that the first is not below
unfoldable pub rising_from : ℕ → List Entry → Bool
rising_from least [] = true
rising_from least (e ∷ es) = leb least e.km.0 && rising_from (e.km.0 + 1) es

-- each entry in bounds
unfoldable pub all_in_bounds : Grid → List Entry → Bool
all_in_bounds g [] = true
all_in_bounds g (e ∷ es) = entry_in_bounds g e && all_in_bounds g es

-- no more entries than places, kilometres strictly rising, each entry in bounds
unfoldable pub ledger_in_order : Grid → Ledger → Bool
ledger_in_order g l = leb l.len capacity && rising_from 0 (entries l) && all_in_bounds g (entries l)

-- ---- question 12

-- so many entries more find a place
unfoldable pub places_free : Ledger → ℕ → Bool
places_free l n = leb (l.len + n) capacity

-- of a put: one, if its kilometre is new
unfoldable pub place_for : Ledger → Option Candidate → Bool
place_for l (Some c) = true
place_for l None = places_free l 1

-- opens all of the above, for facts that are computed
unfoldable pub open_ledgers : Unit {0}
unfolding entries with_entries find get enter put entry_in_bounds rising_from all_in_bounds ledger_in_order places_free place_for
open_ledgers = tt
