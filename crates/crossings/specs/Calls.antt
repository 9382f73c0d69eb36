-- What each function of the boundary gives: the number that it returns, and what it was lent as it leaves it.
use Rattle.std.specs.Prelude.{ℕ, List, [], ◌∷◌, Float}
use Rattle.grid.specs.declared.Cell.{Cell}
use Rattle.grid.specs.declared.Grid.{Grid}
use Rattle.grid.specs.Map.{Map}
use Rattle.grid.specs.Answer.{after}
use Rattle.circle_rules.specs.Call.{CircleOutcome, circle_call}
use Rattle.spacing.specs.declared.Spacing.{Spacing}
use Rattle.search_rules.specs.declared.MostPopulous.{MostPopulous}
use Rattle.most_populous.specs.Call.{Buffers, SearchOutcome, search_call}
use Rattle.ledger.specs.declared.Entry.{Entry}
use Rattle.put.specs.Call.{PutOutcome, put_call}
use Rattle.words.specs.Words.{ledger_of, ledger_words}
use Rattle.crossings.specs.Crossing.{number_of, written, buffers_left}

-- ---- the single circle

-- the number returned, the population and the sums
pub record CircleCrossing : Type 0 where
  pub number : ℕ
  pub population : ℕ
  pub sums : List ℕ

-- what the function returned and left
abbrev pub circle_returned : ℕ → ℕ → List ℕ → CircleCrossing
circle_returned number population sums = record { number = number; population = population; sums = sums }

-- what a call's outcome makes of it
unfoldable pub circle_crossed : CircleOutcome → ℕ → CircleCrossing
circle_crossed o population = circle_returned (number_of o.answer) (written (λ n. n) o.answer population) o.sums

-- from the map, the sums, the radius, the centre and what population held
unfoldable pub circle_crossing : Map → List ℕ → ℕ → Cell → ℕ → CircleCrossing
circle_crossing m sums km centre population = circle_crossed (circle_call m sums km centre) population

-- ---- the search

-- row, column, population, levels, blocks examined, blocks pruned, circles evaluated, kernels built, cells pruned, cells settled
unfoldable pub search_words : MostPopulous → List ℕ
search_words f =
    let c = f.centre in
    let t = f.tally in
    let s = t.stats in
    c.row.0 ∷ c.col.0 ∷ c.population ∷ s.levels ∷ s.blocks_examined ∷ s.blocks_pruned ∷ s.circles_evaluated ∷ s.kernels_built
    ∷ t.cells_pruned ∷ t.cells_settled ∷ []

-- the number returned, the words, the tolerance and the buffers
pub record SearchCrossing : Type 0 where
  pub number : ℕ
  pub words : List ℕ
  pub tolerance : Float
  pub lent : Buffers

-- what the function returned and left: number, words, tolerance, sums and the two level buffers
abbrev pub search_returned : ℕ → List ℕ → Float → List ℕ → List ℕ → List ℕ → SearchCrossing
search_returned number words tolerance sums current following =
    record { number = number; words = words; tolerance = tolerance; lent = buffers_left number sums current following }

-- what a call's outcome makes of it
unfoldable pub search_crossed : SearchOutcome → List ℕ → Float → SearchCrossing
search_crossed o words tolerance =
    record {
      number = number_of o.answer;
      words = written search_words o.answer words;
      tolerance = written (λ f. f.tolerance_persons) o.answer tolerance;
      lent = o.lent;
    }

-- from the map, the spacing, the radius, the buffers and what words and tolerance held
unfoldable pub search_crossing : Map → Spacing → ℕ → Buffers → List ℕ → Float → SearchCrossing
search_crossing m spacing km lent words tolerance = search_crossed (search_call m spacing km lent) words tolerance

-- ---- the put

-- the number returned, and the ledger's words
pub record PutCrossing : Type 0 where
  pub number : ℕ
  pub ledger : List ℕ

-- what the function returned and left
abbrev pub put_returned : ℕ → List ℕ → PutCrossing
put_returned number words = record { number = number; ledger = words }

-- what a call's outcome makes of it
unfoldable pub put_crossed : PutOutcome → List ℕ → PutCrossing
put_crossed o words = put_returned (number_of o.answer) (after o.answer (ledger_words o.ledger) words)

-- from the grid, the ledger's words and the entry
unfoldable pub put_crossing : Grid → List ℕ → Entry → PutCrossing
put_crossing g words x = put_crossed (put_call g (ledger_of words) x) words
