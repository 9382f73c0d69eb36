-- Blocks of one shape: their probes stand on one row, as far from their sides.
use Prim.Native.Nat.{ℕ, ◌+◌, ◌-◌, ◌/◌, ◌≤◌}
use mathlib.Core.Path.{◌≡◌, refl}
use mathlib.Core.Bool.{Bool, true, ◌&&◌}
use native.Mathlib.Omega.{arith}
use borrow.Author.Tests.{eqb-true}
use lib.Dec.{eqb}
use Rattle.lists.specs.Counted.{max}
use Rattle.lists.proofs.Bools.{and_left, and_right}
use Rattle.grid.specs.declared.Row.{Row}
use Rattle.blocks.specs.declared.Block.{Block}
use Rattle.blocks.specs.Block.{middle, probe, same_shape}

-- rows of one number
pub row_path : {r s : Row} → r.0 ≡ s.0 → r ≡ s
row_path p = λ i. record { 0 = p i }

-- the columns from a block's probe to the farther side
abbrev pub far_side : Block → ℕ
far_side b = max ((probe b).col.0 - b.first.0) (b.last.0 - (probe b).col.0)

-- they hang on the number of columns alone
side_is : (b : Block) → b.first.0 ≤ b.last.0 → (n : ℕ) → n ≡ b.last.0 - b.first.0 → far_side b ≡ max (n / 2) (n - n / 2)
unfolding probe middle
side_is b h n e =
    let near : b.first.0 + (b.last.0 - b.first.0) / 2 - b.first.0 ≡ n / 2 = omega arith in
    let far : b.last.0 - (b.first.0 + (b.last.0 - b.first.0) / 2) ≡ n - n / 2 = omega arith in
    rw (near, far)

module _ (a b : Block) (e : same_shape a b ≡ true) where
  abbrev norths : Bool
  norths = eqb a.north.0 b.north.0

  abbrev souths : Bool
  souths = eqb a.south.0 b.south.0

  abbrev columns : Bool
  columns = eqb (a.last.0 + b.first.0) (b.last.0 + a.first.0)

  parts : (norths && souths && columns) ≡ true
  unfolding same_shape
  parts = e

  rows : (norths && souths) ≡ true
  rows = and_left (norths && souths) columns parts

  pub shape_north : a.north ≡ b.north
  shape_north = row_path (eqb-true _ _ (and_left norths souths rows))

  pub shape_south : a.south ≡ b.south
  shape_south = row_path (eqb-true _ _ (and_right norths souths rows))

  shape_columns : a.last.0 + b.first.0 ≡ b.last.0 + a.first.0
  shape_columns = eqb-true _ _ (and_right (norths && souths) columns parts)

  pub shape_row : (probe a).row ≡ (probe b).row
  unfolding probe
  shape_row = rw (shape_north, shape_south)

  pub shape_side : b.first.0 ≤ b.last.0 → far_side a ≡ far_side b
  shape_side h =
      let n = b.last.0 - b.first.0 in
      rw (side_is a (omega (arith, shape_columns)) n (omega (arith, shape_columns)), side_is b h n refl)
