-- The boundary's calls on a map that lines set: so much of each array is lent as the map says.
use Rattle.std.specs.Prelude.{ℕ, Bool, List, ◌++◌, Float, take, drop}
use Rattle.grid.specs.Grid.{cell}
use Rattle.grid.specs.Map as grid-map
use Rattle.grid.specs.Answer.{Answer, decide, shown}
use Rattle.crossings.specs.Crossing.{spacing_from}
use Rattle.crossings.specs.Calls.{CircleCrossing, circle_returned, circle_crossing, SearchCrossing, search_crossing}
use Rattle.crossings.specs.Smallest.{SmallestCrossing, smallest_crossing}
use Rattle.most_populous.specs.Call.{Buffers, buffers}
use Rattle.test_cases.specs.declared.map.Map.{Map}
use Rattle.test_cases.specs.declared.map.Board.{Board}
use Rattle.test_lines.specs.Numbers.{short_number_at}

-- the map as a call sees it
abbrev pub lent_by : Board → grid-map.Map
lent_by b = grid-map.lent_map b.map.grid (take b.map.counts b.counts.items) (take b.map.angles b.angles.items) (take b.map.cosines b.cosines.items)

-- the buffers as a call is lent them
abbrev pub lent_fronts : Map → Buffers → Buffers
lent_fronts m b =
    buffers (take m.sums b.sums) (take m.current b.current) (take m.following b.following)

-- the buffers with the words that a call left in the fronts lent
abbrev pub with_fronts : Map → Buffers → Buffers → Buffers
with_fronts m b fronts =
    buffers (fronts.sums ++ drop m.sums b.sums) (fronts.current ++ drop m.current b.current)
    (fronts.following ++ drop m.following b.following)

-- words lent, by the number returned: a call that returns 0 has answered
abbrev pub shown_by : ℕ → List ℕ → List ℕ
shown_by number words = let said : Answer (Unit {0}) = decide number tt in shown said words

-- a level buffer of which the first n words were lent: of those after an answer only how many there are
abbrev pub shown_front : ℕ → ℕ → List ℕ → List ℕ
shown_front number n words = shown_by number (take n words) ++ drop n words

-- the buffers as a call left them
abbrev pub board_left : Map → ℕ → Buffers → Buffers
board_left m number b = buffers b.sums (shown_front number m.current b.current) (shown_front number m.following b.following)

-- what a search and a smallest radius returned and left: number and values, sums and the two level buffers
abbrev pub search_left : Map → ℕ → List ℕ → Float → Buffers → SearchCrossing
search_left m number words tolerance b = record { number = number; words = words; tolerance = tolerance; lent = board_left m number b }

abbrev pub smallest_left : Map → ℕ → List ℕ → List ℕ → List Float → Buffers → SmallestCrossing
smallest_left m number ledger words floats b =
    record { number = number; ledger = ledger; words = words; floats = floats; lent = board_left m number b }

-- a single circle of a map; asked are kilometre, row and column
unfoldable pub circle_played : Map → grid-map.Map → List ℕ → List ℕ → ℕ → CircleCrossing
circle_played m lent asked sums population =
    let x = circle_crossing lent (take m.sums sums) (short_number_at asked 0) (cell (short_number_at asked 1) (short_number_at asked 2)) population in
    circle_returned x.number x.population (x.sums ++ drop m.sums sums)

-- a search of a map
unfoldable pub search_played : Map → grid-map.Map → Bool → ℕ → ℕ → Buffers → List ℕ → Float → SearchCrossing
search_played m lent automatic spacing km lent_words words tolerance =
    let x = search_crossing lent (spacing_from automatic spacing) km (lent_fronts m lent_words) words tolerance in
    record { number = x.number; words = x.words; tolerance = x.tolerance; lent = with_fronts m lent_words x.lent }

-- a smallest radius of a map
unfoldable pub smallest_played : Map → grid-map.Map → Bool → ℕ → Float → List ℕ → Buffers → List ℕ → List Float → SmallestCrossing
smallest_played m lent automatic spacing share ledger lent_words words floats =
    let x = smallest_crossing lent (spacing_from automatic spacing) share ledger (lent_fronts m lent_words) words floats in
    record { number = x.number; ledger = x.ledger; words = x.words; floats = x.floats; lent = with_fronts m lent_words x.lent }
