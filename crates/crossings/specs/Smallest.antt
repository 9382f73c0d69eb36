-- What the smallest-radius function of the boundary gives.
use Rattle.std.specs.Prelude.{ℕ, List, [], ◌∷◌, ◌++◌, Float, Option, None, Some}
use Rattle.lists.specs.Counted.{one}
use Rattle.grid.specs.Map.{Map}
use Rattle.grid.specs.Answer.{after}
use Rattle.spacing.specs.declared.Spacing.{Spacing}
use Rattle.most_populous.specs.Call.{Buffers}
use Rattle.probes.specs.declared.Ambiguity.{Ambiguity}
use Rattle.probes.specs.declared.Witness.{Witness}
use Rattle.probes.specs.declared.Smallest.{Smallest}
use Rattle.smallest_rules.specs.Call.{SmallestOutcome, smallest_call}
use Rattle.words.specs.Words.{ledger_of, ledger_words}
use Rattle.crossings.specs.Crossing.{number_of, written, buffers_left}

-- ---- its words and floats

-- 1, the kilometre and the population of the witness; three times 0 where there is none
unfoldable pub short_words : Option Witness → List ℕ
short_words (Some w) = 1 ∷ w.km.0 ∷ w.population ∷ []
short_words None = 0 ∷ 0 ∷ 0 ∷ []

-- 1, the lowest and the highest kilometre and how many radii; four times 0 where there is none
unfoldable pub ambiguity_words : Option Ambiguity → List ℕ
ambiguity_words (Some a) = 1 ∷ a.lowest_km.0 ∷ a.highest_km.0 ∷ a.radii ∷ []
ambiguity_words None = 0 ∷ 0 ∷ 0 ∷ 0 ∷ []

-- radius, row, column, population; the witness; whether the circle covers the grid; the ambiguity;
-- radii evaluated and reused; levels, blocks examined, blocks pruned, circles evaluated, kernels built
unfoldable pub smallest_words : Smallest → List ℕ
smallest_words a =
    let c = a.centre in
    let s = a.stats.searched in
    a.radius_km.0 ∷ c.row.0 ∷ c.col.0 ∷ c.population ∷ []
    ++ short_words a.short_below
    ++ one a.covers_whole_grid ∷ []
    ++ ambiguity_words a.ambiguity
    ++ a.stats.radii_evaluated ∷ a.stats.radii_reused
    ∷ s.levels ∷ s.blocks_examined ∷ s.blocks_pruned ∷ s.circles_evaluated ∷ s.kernels_built ∷ []

-- share, persons and total of the target, share achieved, predicate slack, tolerance
unfoldable pub smallest_floats : Smallest → List Float
smallest_floats a =
    a.target.share ∷ a.target.persons ∷ a.target.total ∷ a.share_achieved ∷ a.predicate_slack_persons ∷ a.tolerance_persons ∷ []

-- ---- the call

-- the number returned, the ledger's words, the words, the floats and the buffers
pub record SmallestCrossing : Type 0 where
  pub number : ℕ
  pub ledger : List ℕ
  pub words : List ℕ
  pub floats : List Float
  pub lent : Buffers

-- what the function returned and left: number, ledger, words, floats, sums and the two level buffers
abbrev pub smallest_returned : ℕ → List ℕ → List ℕ → List Float → List ℕ → List ℕ → List ℕ → SmallestCrossing
smallest_returned number ledger words floats sums current following =
    record { number = number; ledger = ledger; words = words; floats = floats; lent = buffers_left number sums current following }

-- what a call's outcome makes of it
unfoldable pub smallest_crossed : SmallestOutcome → List ℕ → List ℕ → List Float → SmallestCrossing
smallest_crossed o ledger words floats =
    record {
      number = number_of o.answer;
      ledger = after o.answer (ledger_words o.ledger) ledger;
      words = written smallest_words o.answer words;
      floats = written smallest_floats o.answer floats;
      lent = o.lent;
    }

-- from the map, the spacing, the share, the ledger's words, the buffers and what words and floats held
unfoldable pub smallest_crossing : Map → Spacing → Float → List ℕ → Buffers → List ℕ → List Float → SmallestCrossing
smallest_crossing m spacing share ledger lent words floats =
    smallest_crossed (smallest_call m spacing share (ledger_of ledger) lent) ledger words floats
