-- What crosses the boundary: an answer is the number 0 and its values written, a refusal its number and nothing written.
use Rattle.std.specs.Prelude.{ℕ, Bool, cond, List, Float}
use Rattle.grid.specs.declared.Grid.{Grid}
use Rattle.grid.specs.Answer.{Answer, answered, refused, decide, shown}
use Rattle.spacing.specs.declared.Spacing.{Spacing}
use Rattle.spacing.specs.declared.Spacing.TheVariants.{Automatic, Cells}
use Rattle.most_populous.specs.Call.{Buffers, buffers}

-- ---- from numbers

-- the grid that its five numbers say
abbrev pub grid_from : ℕ → ℕ → Float → Float → Float → Grid
grid_from width height origin-lat lon-step lat-step =
    record { width = width; height = height; origin_lat = origin-lat; lon_step = lon-step; lat_step = lat-step }

-- the spacing that a flag and a number say
unfoldable pub spacing_from : Bool → ℕ → Spacing
spacing_from automatic n = cond automatic Automatic (Cells n)

-- ---- and back

module _ {A : Type 0} where
  -- 0 for an answer, or the number of the refusal
  unfoldable pub number_of : Answer A → ℕ
  number_of (answered a) = 0
  number_of (refused n) = n

  -- what is written of an answer in place of what stood there; a refusal leaves that as it was
  unfoldable pub written : {B : Type 0} → (A → B) → Answer A → B → B
  written values (answered a) before = values a
  written values (refused n) before = before

-- the buffers by the number returned: a call that returns 0 has answered
abbrev pub buffers_left : ℕ → List ℕ → List ℕ → List ℕ → Buffers
buffers_left number sums current following =
    let said : Answer (Unit {0}) = decide number tt in
    buffers sums (shown said current) (shown said following)
