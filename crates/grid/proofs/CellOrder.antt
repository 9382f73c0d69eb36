-- Cells on the grid, and their order by row, then column.
use Prim.Native.Nat.{◌≤◌, ◌<◌}
use mathlib.Core.Path.{◌≡◌, refl}
use mathlib.Core.Bool.{Bool, true, false, ◌&&◌, ◌||◌}
use native.Mathlib.Decide.{dec_lt}
use native.Mathlib.Omega.{arith}
use lib.Dec.{T, ltb, eqb}
use borrow.Author.Tests.{ltb-true, eqb-true, lt-ltb, eq-eqb}
use Rattle.grid.specs.declared.Cell.{Cell}
use Rattle.grid.specs.declared.Grid.{Grid}
use Rattle.grid.specs.Grid.{cell, on_grid, before}

-- ---- cells

pub cell_path : {x y : Cell} → x.row.0 ≡ y.row.0 → x.col.0 ≡ y.col.0 → x ≡ y
cell_path p q = λ i. cell (p i) (q i)

pub record On (g : Grid) (x : Cell) : Type 0 where
  pub row : x.row.0 < g.height
  pub col : x.col.0 < g.width

pub on_grid_lem : (g : Grid) (x : Cell) → T (on_grid g x) → On g x
unfolding on_grid
on_grid_lem g x t = go (ltb x.row.0 g.height) refl (ltb x.col.0 g.width) refl t
  where
    go : (a : Bool) → ltb x.row.0 g.height ≡ a → (b : Bool) → ltb x.col.0 g.width ≡ b → T (a && b) → On g x
    go true p true q t = record { row = ltb-true _ _ p; col = ltb-true _ _ q }
    go true p false q t = absurd t
    go false p b q t = absurd t

pub of_on_grid : (g : Grid) (x : Cell) → On g x → T (on_grid g x)
unfolding on_grid
of_on_grid g x h = rw (lt-ltb x.row.0 g.height h.row, lt-ltb x.col.0 g.width h.col) tt

pub corner_on : (g : Grid) → 1 ≤ g.width → 1 ≤ g.height → T (on_grid g (cell 0 0))
corner_on g w h = of_on_grid g (cell 0 0) (record { row = omega arith; col = omega arith })

-- ---- before

pub data Earlier (x y : Cell) : Type 0 where
  north : x.row.0 < y.row.0 → Earlier x y
  west : x.row.0 ≡ y.row.0 → x.col.0 < y.col.0 → Earlier x y

pub earlier : (x y : Cell) → T (before x y) → Earlier x y
unfolding before
earlier x y t = go (ltb x.row.0 y.row.0) refl (eqb x.row.0 y.row.0) refl (ltb x.col.0 y.col.0) refl t
  where
    go : (a : Bool) → ltb x.row.0 y.row.0 ≡ a → (b : Bool) → eqb x.row.0 y.row.0 ≡ b → (c : Bool) → ltb x.col.0 y.col.0 ≡ c
        → T (a || (b && c)) → Earlier x y
    go true p b q c r t = north (ltb-true _ _ p)
    go false p true q true r t = west (eqb-true _ _ q) (ltb-true _ _ r)
    go false p true q false r t = absurd t
    go false p false q c r t = absurd t

pub of_earlier : (x y : Cell) → Earlier x y → T (before x y)
unfolding before
of_earlier x y (north h) = rw (lt-ltb x.row.0 y.row.0 h) tt
of_earlier x y (west e h) = rw (eq-eqb x.row.0 y.row.0 e, lt-ltb x.col.0 y.col.0 h) (either (ltb x.row.0 y.row.0))
  where
    either : (a : Bool) → T (a || true)
    either true = tt
    either false = tt

earlier_trans : {x y z : Cell} → Earlier x y → Earlier y z → Earlier x z
earlier_trans (north a) (north b) = north (omega arith)
earlier_trans (north a) (west e b) = north (omega arith)
earlier_trans (west e a) (north b) = north (omega arith)
earlier_trans (west e a) (west f b) = west (omega arith) (omega arith)

pub before_trans : (x y z : Cell) → T (before x y) → T (before y z) → T (before x z)
before_trans x y z p q = of_earlier x z (earlier_trans (earlier x y p) (earlier y z q))

pub before_not : (x : Cell) → T (before x x) → ⊥
before_not x t = go (earlier x x t)
  where
    go : Earlier x x → ⊥
    go (north h) = omega arith
    go (west e h) = omega arith

-- of two cells one stands before the other, or they are the same
pub data Compared (x y : Cell) : Type 0 where
  first : T (before x y) → Compared x y
  same : x ≡ y → Compared x y
  second : T (before y x) → Compared x y

pub compare : (x y : Cell) → Compared x y
compare x y = elim (dec_lt x.row.0 y.row.0) [
  | yes p ↦ first (of_earlier x y (north p))
  | no p ↦ elim (dec_lt y.row.0 x.row.0) [
    | yes q ↦ second (of_earlier y x (north q))
    | no q ↦ elim (dec_lt x.col.0 y.col.0) [
      | yes r ↦ first (of_earlier x y (west (omega arith) r))
      | no r ↦ elim (dec_lt y.col.0 x.col.0) [
        | yes s ↦ second (of_earlier y x (west (omega arith) s))
        | no s ↦ same (cell_path (omega arith) (omega arith))
      ]
    ]
  ]
]
