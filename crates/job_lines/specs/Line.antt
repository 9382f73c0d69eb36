-- The lines that a job prints, as bytes.
use Rattle.std.specs.Prelude.{ℕ, zero, suc, ◌+◌, ◌*◌, ◌/◌, ◌%◌, cond, List, [], ◌∷◌, ◌++◌, ltb, Option, None, Some}
use Rattle.search_rules.specs.declared.MostPopulous.{MostPopulous}
use Rattle.probes.specs.declared.Witness.{Witness}
use Rattle.probes.specs.declared.Smallest.{Smallest}

-- ---- numbers

-- as many digits as a 64-bit number has at most
abbrev pub most_digits : ℕ
most_digits = 20

-- and as many bytes with a space before them
abbrev pub longest_field : ℕ
longest_field = 1 + most_digits

-- a number in decimal, of at most so many digits
unfoldable pub digits : ℕ → ℕ → List ℕ
digits zero n = []
digits (suc size) n =
    let more : List ℕ = digits size (n / 10) ++ (48 + n % 10) ∷ [] in
    cond (ltb n 10) ((48 + n) ∷ []) more

-- a 64-bit number in decimal
unfoldable pub in_decimal : ℕ → List ℕ
in_decimal n = digits most_digits n

-- a space and a number
unfoldable pub field : ℕ → List ℕ
field n = 32 ∷ in_decimal n

-- one behind the other
unfoldable pub fields : List ℕ → List ℕ
fields [] = []
fields (n ∷ ns) = field n ++ fields ns

-- ---- lines

-- "refused", "most" and "least"
abbrev pub refused_word : List ℕ
refused_word = 114 ∷ 101 ∷ 102 ∷ 117 ∷ 115 ∷ 101 ∷ 100 ∷ []

abbrev pub most_word : List ℕ
most_word = 109 ∷ 111 ∷ 115 ∷ 116 ∷ []

abbrev pub least_word : List ℕ
least_word = 108 ∷ 101 ∷ 97 ∷ 115 ∷ 116 ∷ []

-- the end of every line
abbrev pub newline : List ℕ
newline = 10 ∷ []

-- the number of the refusal
unfoldable pub refused_line : ℕ → List ℕ
refused_line n = refused_word ++ fields (n ∷ []) ++ newline

-- km, row, column, population, levels, examined, pruned, evaluated, kernels, cells pruned, cells settled
unfoldable pub most_fields : MostPopulous → List ℕ
most_fields f =
    let c = f.centre in
    let s = f.tally.stats in
    f.radius.0 ∷ c.row.0 ∷ c.col.0 ∷ c.population ∷ s.levels ∷ s.blocks_examined ∷ s.blocks_pruned ∷ s.circles_evaluated ∷ s.kernels_built
    ∷ f.tally.cells_pruned ∷ f.tally.cells_settled ∷ []

-- "most" and its fields
unfoldable pub most_line : MostPopulous → List ℕ
most_line f = most_word ++ fields (most_fields f) ++ newline

-- kilometre and population of the short witness, or two times `-` where there is none
unfoldable pub short_fields : Option Witness → List ℕ
short_fields None = 32 ∷ 45 ∷ 32 ∷ 45 ∷ []
short_fields (Some w) = fields (w.km.0 ∷ w.population ∷ [])

-- km, row, column, population, short km, short population, evaluated, reused
unfoldable pub least_line : Smallest → List ℕ
least_line a =
    let c = a.centre in
    least_word ++ fields (a.radius_km.0 ∷ c.row.0 ∷ c.col.0 ∷ c.population ∷ []) ++ short_fields a.short_below
    ++ fields (a.stats.radii_evaluated ∷ a.stats.radii_reused ∷ []) ++ newline

-- the longest line is a most line: a word of four letters, eleven fields and the end
abbrev pub longest_line : ℕ
longest_line = 4 + 11 * longest_field + 1

-- opens all of the above, for facts that are computed
unfoldable pub open_lines : Unit {0}
unfolding digits in_decimal field fields refused_line most_fields most_line short_fields least_line
open_lines = tt
