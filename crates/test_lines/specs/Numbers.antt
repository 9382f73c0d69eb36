-- What a listed number stands for.
use Rattle.std.specs.Prelude.{ℕ, ◌+◌, ◌-◌, cond, not, List, eqb, ltb, Float, length, get_or}
use Rattle.std.specs.Float.{binary64}
use Rattle.std.specs.Float.Ieee.{of_bits}
use Rattle.lists.specs.Counted.{sum_below, one}

-- the largest number of 32 bits
abbrev pub largest_short : ℕ
largest_short = 4294967295

-- a number of 32 bits: those beyond become the largest
unfoldable pub short_of : ℕ → ℕ
short_of word = cond (ltb word largest_short) word largest_short

-- the number at a place, or 0 where there is none
abbrev pub number_at : List ℕ → ℕ → ℕ
number_at line i = get_or line i 0

abbrev pub short_number_at : List ℕ → ℕ → ℕ
short_number_at line i = short_of (number_at line i)

abbrev pub float_at : List ℕ → ℕ → Float
float_at line i = of_bits binary64 (number_at line i)

-- the number at a place, or the last one behind it
unfoldable pub or_last : List ℕ → ℕ → ℕ
or_last line i = cond (ltb i (length line)) (number_at line i) (number_at line (length line - 1))

-- how many of n words of a, from place i on, are not those of b from place j on
unfoldable pub differing : List ℕ → ℕ → List ℕ → ℕ → ℕ → ℕ
differing a i b j n = sum_below n (λ k. one (not (eqb (number_at a (i + k)) (number_at b (j + k)))))
