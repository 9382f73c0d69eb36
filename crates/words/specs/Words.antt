-- A ledger as words: its number of entries, then kilometre, row, column and population of each place.
use Rattle.std.specs.Prelude.{ℕ, ◌+◌, ◌*◌, ◌^◌, Bool, cond, ◌&&◌, List, [], ◌∷◌, length, get_or, eqb, ltb}
use Rattle.lists.specs.Counted.{all_below}
use Rattle.lists.specs.Lists.{concat_each}
use Rattle.lists.specs.Front.{tabulate}
use Rattle.grid.specs.Grid.{cell}
use Rattle.candidates.specs.Candidate.{candidate_of}
use Rattle.ledger.specs.declared.Entry.{Entry}
use Rattle.ledger.specs.declared.Ledger.{Ledger}
use Rattle.ledger.specs.Ledger.{capacity, entry}
use Rattle.ledger.specs.State.{fresh_ledger}

-- ---- from a ledger to its words

-- kilometre, row, column, population
unfoldable pub entry_words : Entry → List ℕ
entry_words e = e.km.0 ∷ e.centre.row.0 ∷ e.centre.col.0 ∷ e.centre.population ∷ []

-- the number of entries, then the words of each place
unfoldable pub ledger_words : Ledger → List ℕ
ledger_words l = l.len ∷ concat_each entry_words l.places

-- ---- and back

-- the number of words of a ledger
abbrev pub ledger_length : ℕ
ledger_length = 1 + 4 * capacity

-- a word by its place, 0 beyond the end
abbrev pub word_at : List ℕ → ℕ → ℕ
word_at words i = get_or words i 0

-- the entry that the four words of a place say
unfoldable pub place_at : List ℕ → ℕ → Entry
place_at words i =
    let k = 1 + 4 * i in
    entry (word_at words k) (candidate_of (cell (word_at words (k + 1)) (word_at words (k + 2))) (word_at words (k + 3)))

-- the ledger that the words say
unfoldable pub read_ledger : List ℕ → Ledger
read_ledger words = record { len = word_at words 0; places = tabulate (place_at words) capacity }

-- kilometre, row and column are numbers of 32 bits
unfoldable pub place_fits : List ℕ → ℕ → Bool
place_fits words i =
    let k = 1 + 4 * i in
    ltb (word_at words k) (2 ^ 32) && ltb (word_at words (k + 1)) (2 ^ 32) && ltb (word_at words (k + 2)) (2 ^ 32)

-- as many words as a ledger has, and each place fits
unfoldable pub ledger_fits : List ℕ → Bool
ledger_fits words = eqb (length words) ledger_length && all_below capacity (place_fits words)

-- more entries than places: question 11 says no
unfoldable pub unreadable : Ledger
unreadable = record { len = capacity + 1; places = fresh_ledger.places }

-- the ledger of the words; other words are none that a call accepts
unfoldable pub ledger_of : List ℕ → Ledger
ledger_of words = cond (ledger_fits words) (read_ledger words) unreadable
