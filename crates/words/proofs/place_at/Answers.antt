-- Each word that is narrowed fits.
use mathlib.Core.Path.{◌≡◌}
use mathlib.Core.Bool.{true}
use native.Mathlib.Omega.{arith}
use Rattle.words.specs.Words.{place_at, place_fits}
use Rattle.words.proofs.Places.{fits_length, fits_place, km_fits, row_fits, col_fits}
use Rattle.words.proofs.place_at.Goals as goal
use Rattle.words.proofs.place_at.Goals.{Start}

fits : (st : Start) → place_fits st.args.words.now st.args.i ≡ true
fits st = fits_place _ st.requires.words_value _ st.requires.i_lt_capacity

pub bounds-words-at : goal.bounds-words-at
bounds-words-at c = omega (arith, fits_length _ c.requires.words_value, c.requires.i_lt_capacity)

pub overflow_cast-km : goal.overflow_cast-km
overflow_cast-km c = record { fits = km_fits _ _ (fits (goal.at.overflow_cast-km c).Start) }

pub bounds-words-at-2 : goal.bounds-words-at-2
bounds-words-at-2 c = omega (arith, fits_length _ c.requires.words_value, c.requires.i_lt_capacity)

pub overflow_cast-row : goal.overflow_cast-row
overflow_cast-row c = record { fits = row_fits _ _ (fits (goal.at.overflow_cast-row c).Start) }

pub bounds-words-at-3 : goal.bounds-words-at-3
bounds-words-at-3 c = omega (arith, fits_length _ c.requires.words_value, c.requires.i_lt_capacity)

pub overflow_cast-col : goal.overflow_cast-col
overflow_cast-col c = record { fits = col_fits _ _ (fits (goal.at.overflow_cast-col c).Start) }

pub bounds-words-at-4 : goal.bounds-words-at-4
bounds-words-at-4 c = omega (arith, fits_length _ c.requires.words_value, c.requires.i_lt_capacity)

pub returns : goal.returns
unfolding place_at
returns c = rw c.at.ensures
