-- Lists by their elements, and a buffer whose front is overwritten while its tail stays.
use Rattle.std.specs.Prelude.{ℕ, zero, suc, ◌+◌, List, [], ◌∷◌, ◌++◌, take, drop, length}

module _ {A : Type 0} where
  -- f 0, f 1 .. f (n - 1)
  unfoldable pub tabulate : (ℕ → A) → ℕ → List A
  tabulate f zero = []
  tabulate f (suc n) = tabulate f n ++ f n ∷ []

  -- l with xs over its front
  unfoldable pub onto : List A → List A → List A
  onto xs l = xs ++ drop (length xs) l

  -- l with xs over it from place at on
  abbrev pub written_at : ℕ → List A → List A → List A
  written_at at xs l = take at l ++ xs ++ drop (at + length xs) l

  -- l with its first n elements replaced by f 0, f 1 .. f (n - 1)
  unfoldable pub over : (ℕ → A) → ℕ → List A → List A
  over f n l = tabulate f n ++ drop n l

-- opens all of the above, for facts that are computed
unfoldable pub open_fronts : Unit {0}
unfolding tabulate onto over
open_fronts = tt
