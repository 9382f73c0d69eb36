-- Children and tiles one after the other: a range halved and cut in steps, a block's children by rows, and the grid's tiles row by row.
use Prim.Native.Nat.{ℕ, zero, suc, ◌+◌, ◌-◌, ◌≤◌, ◌<◌, min, max}
use mathlib.Core.Path.{◌≡◌, refl, sym, ap, ◌∙◌}
use mathlib.Core.Bool.{false, cond}
use mathlib.Core.List.{List, [], ◌∷◌, ◌++◌, append-nil}
use native.Mathlib.Decide.{dec_lt}
use native.Mathlib.Omega.{arith}
use lib.Dec.{leb}
use borrow.Author.Tests.{eq-eqb, ne_eqb, le-leb, lt-leb}
use Rattle.lists.specs.Lists.{each, concat_each}
use Rattle.grid.specs.declared.Grid.{Grid}
use Rattle.blocks.specs.declared.Block.{Block}
use Rattle.blocks.specs.Block.{Range, range, block, is_cell, middle, steps, cross, tile, halves, split}
use Rattle.blocks.specs.State.{base, column_halves, tile_row}

-- ---- halves

pub halves_one : (low high : ℕ) → low ≡ high → halves low high ≡ range low high ∷ []
unfolding halves
halves_one low high e = rw (eq-eqb low high e)

pub halves_two : (low high : ℕ) → (low ≡ high → ⊥) → halves low high ≡ range low (middle low high) ∷ range (middle low high + 1) high ∷ []
unfolding halves
halves_two low high e = rw (ne_eqb low high e)

-- the middle of small numbers is small
pub middle_small : (low high : ℕ) → low < base → high < base → middle low high < base
unfolding middle
middle_small low high p q = omega arith

-- ---- a block split

module _ (b : Block) where
  abbrev pub west : ℕ → Block
  west mid = block (range b.north.0 b.south.0) (range b.first.0 mid)

  abbrev pub east : ℕ → Block
  east mid = block (range b.north.0 b.south.0) (range (mid + 1) b.last.0)

  pub columns_one : b.first.0 ≡ b.last.0 → column_halves b ≡ b ∷ []
  unfolding column_halves each
  columns_one e = rw (halves_one b.first.0 b.last.0 e)

  pub columns_two : (b.first.0 ≡ b.last.0 → ⊥) → column_halves b ≡ west (middle b.first.0 b.last.0) ∷ east (middle b.first.0 b.last.0) ∷ []
  unfolding column_halves each
  columns_two e = rw (halves_two b.first.0 b.last.0 e)

  abbrev pub upper : ℕ → Block
  upper mid = block (range b.north.0 mid) (range b.first.0 b.last.0)

  abbrev pub lower : ℕ → Block
  lower mid = block (range (mid + 1) b.south.0) (range b.first.0 b.last.0)

  pub split_columns : is_cell b ≡ false → b.north.0 ≡ b.south.0 → split b ≡ column_halves b
  unfolding split cross concat_each column_halves
  split_columns e s =
      rw (e, halves_one b.north.0 b.south.0 s) (append-nil (each (block (range b.north.0 b.south.0)) (halves b.first.0 b.last.0)))

  pub split_rows : (mid : ℕ) → is_cell b ≡ false → (b.north.0 ≡ b.south.0 → ⊥) → mid ≡ middle b.north.0 b.south.0
      → split b ≡ column_halves (upper mid) ++ column_halves (lower mid)
  unfolding split cross concat_each column_halves
  split_rows mid e s m =
      rw (e, halves_two b.north.0 b.south.0 s, m)
      (ap (λ (r : List Block). each (block (range b.north.0 (middle b.north.0 b.south.0))) (halves b.first.0 b.last.0) ++ r)
      (append-nil (each (block (range (middle b.north.0 b.south.0 + 1) b.south.0)) (halves b.first.0 b.last.0))))

-- ---- the numbers below n, cut in steps from low on

-- enough fuel is as good as more
steps_fuel : (f f' step low n : ℕ) → 1 ≤ n → n ≤ f + low → n ≤ f' + low → steps f step low (n - 1) ≡ steps f' step low (n - 1)
unfolding steps
steps_fuel zero zero step low n p h h' = refl
steps_fuel zero (suc f') step low n p h h' = rw (lt-leb low (n - 1) (omega arith))
steps_fuel (suc f) zero step low n p h h' = rw (lt-leb low (n - 1) (omega arith))
steps_fuel (suc f) (suc f') step low n p h h' =
    let end = min (low + (step - 1)) (n - 1) in
    ap (λ (r : List Range). cond (leb low (n - 1)) (range low end ∷ r) []) (steps_fuel f f' step (end + 1) n p (omega arith) (omega arith))

abbrev pub cuts : ℕ → ℕ → ℕ → List Range
cuts n step low = steps (n - low) step low (n - 1)

pub cuts_none : (n step low : ℕ) → n ≤ low → cuts n step low ≡ []
unfolding steps
cuts_none n step low h = let e : n - low ≡ 0 = omega arith in rw e

-- a step further: after the last one nothing is left, wherever the next would begin
pub cuts_more : (n step low end next : ℕ) → low < n → end ≡ min (low + (step - 1)) (n - 1) → next ≡ low + max step 1
    → cuts n step low ≡ range low end ∷ cuts n step next
unfolding steps
cuts_more n step low end next h e k =
    let m : n - low ≡ suc (n - low - 1) = omega arith in
    ap (λ (f : ℕ). steps f step low (n - 1)) m
    ∙ rw (le-leb low (n - 1) (omega arith), ← e) (ap {B = List Range} (λ r. range low end ∷ r) rest)
  where
    rest : steps (n - low - 1) step (end + 1) (n - 1) ≡ cuts n step next
    rest = elim (dec_lt n next) [
      | yes l ↦
          steps_fuel (n - low - 1) (n - (end + 1)) step (end + 1) n (omega arith) (omega arith) (omega arith)
          ∙ cuts_none n step (end + 1) (omega arith) ∙ sym (cuts_none n step next (omega arith))
      | no l ↦
          let same : end + 1 ≡ next = omega arith in
          rw same (steps_fuel (n - low - 1) (n - next) step next n (omega arith) (omega arith) (omega arith))
    ]

-- ---- tiles

module _ (width spacing : ℕ) (rows : Range) where
  -- the tiles that are left of a row, from a column on
  abbrev pub row_from : ℕ → List Block
  row_from first = each (block rows) (cuts width spacing first)

  pub row_all : row_from 0 ≡ tile_row width spacing rows
  unfolding tile_row
  row_all = let e : width - 0 ≡ width = omega arith in rw e

  pub row_none : (first : ℕ) → width ≤ first → row_from first ≡ []
  unfolding each
  row_none first h = rw (cuts_none width spacing first h)

  pub row_cut : (first last next : ℕ) → first < width → last ≡ min (first + (spacing - 1)) (width - 1) → next ≡ first + max spacing 1
      → row_from first ≡ block rows (range first last) ∷ row_from next
  unfolding each
  row_cut first last next h e k = ap (each (block rows)) (cuts_more width spacing first last next h e k)

module _ (width height spacing : ℕ) where
  -- the tiles that are left, from a row on
  abbrev pub tiles_from : ℕ → List Block
  tiles_from north = cross (cuts height spacing north) (steps width spacing 0 (width - 1))

  pub tiles_none : (north : ℕ) → height ≤ north → tiles_from north ≡ []
  unfolding cross concat_each
  tiles_none north h = rw (cuts_none height spacing north h)

  pub tiles_cut : (north south next : ℕ) → north < height → south ≡ min (north + (spacing - 1)) (height - 1) → next ≡ north + max spacing 1
      → tiles_from north ≡ tile_row width spacing (range north south) ++ tiles_from next
  unfolding cross concat_each tile_row
  tiles_cut north south next h e k = ap (λ (r : List Range). cross r (steps width spacing 0 (width - 1))) (cuts_more height spacing north south next h e k)

pub tiles_all : (g : Grid) (spacing : ℕ) → tiles_from g.width g.height spacing 0 ≡ tile g spacing
unfolding tile
tiles_all g spacing = let e : g.height - 0 ≡ g.height = omega arith in rw e
