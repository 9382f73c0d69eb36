-- Tiles and children: every cell is in exactly one, their areas add up, they are rectangles of the grid, and children are shorter.
use Prim.Native.Nat.{ℕ, zero, suc, ◌+◌, ◌-◌, ◌*◌, ◌≤◌, ◌<◌}
use mathlib.Core.Path.{◌≡◌, refl, ap₂, ◌∙◌}
use mathlib.Core.Logic.{◌⊎◌, inl, inr}
use mathlib.Core.Bool.{Bool, true, false, ◌&&◌, true≢false}
use mathlib.Core.List.{List, [], ◌∷◌}
use native.Mathlib.Decide.{dec_lt}
use native.Mathlib.Omega.{arith}
use native.Mathlib.Nat.{add-zero, zero-mul, mul-zero}
use lib.ListN.{length}
use lib.Dec.{T, eqb}
use borrow.Author.Tests.{eqb-true, eqb-false}
use Rattle.lists.specs.Counted.{one}
use Rattle.lists.proofs.Bools.{cond_case, cases, and_left, and_right}
use Rattle.lists.proofs.Sums.{times_le}
use Rattle.lists.specs.Elements.{AllOf, none, also, total_of}
use Rattle.lists.proofs.Elements.{AnyOf, here, there, all_map, any_map}
use Rattle.grid.specs.declared.Cell.{Cell}
use Rattle.grid.specs.declared.Grid.{Grid}
use Rattle.grid.specs.Grid.{on_grid, cells}
use Rattle.blocks.specs.declared.Block.{Block}
use Rattle.blocks.specs.Block.{Range, range, block, area, is_cell, probe, steps, cross, tile, halves, split, Rectangle, Holds}
use Rattle.grid.proofs.CellOrder.{cell_path, on_grid_lem}
use Rattle.blocks.proofs.Ranges.{Additive, size, size_additive, having, having_of, of_having, having_additive, middle_low, middle_high, steps_add, halves_add, times, cross_times, steps_part, Half, halves_half, cross_all}

-- ---- sums over a list

module _ {A : Type 0} (f : A → ℕ) where
  -- where the sum is above 0 some element's share is
  any_positive : (xs : List A) → 1 ≤ total_of f xs → AnyOf (λ x. 1 ≤ f x) xs
  unfolding total_of
  any_positive [] h = absurd (omega arith)
  any_positive (x ∷ xs) h = elim (dec_lt 0 (f x)) [
    | yes p ↦ here p
    | no p ↦ there (any_positive xs (omega arith))
  ]

  -- where each share is above 0 there are at most as many elements
  length_total : {xs : List A} → AllOf (λ x. 1 ≤ f x) xs → length xs ≤ total_of f xs
  unfolding total_of
  length_total none = omega arith
  length_total (also p a) = omega (arith, length_total a)

-- ---- what adds up over rows and columns adds up over tiles and children

module _ (f h : Range → ℕ) (a : Additive f) (b : Additive h) where
  tile_times : (g : Grid) (spacing : ℕ) → 1 ≤ g.width → 1 ≤ g.height
      → total_of (times f h) (tile g spacing) ≡ h (range 0 (g.width - 1)) * f (range 0 (g.height - 1))
  unfolding tile
  tile_times g spacing w k =
      cross_times f h (steps g.height spacing 0 (g.height - 1)) (steps g.width spacing 0 (g.width - 1))
      ∙ ap₂ ◌*◌ (steps_add h b g.width spacing 0 (g.width - 1) (omega arith)) (steps_add f a g.height spacing 0 (g.height - 1) (omega arith))

  children_times : (c : Block) → c.north.0 ≤ c.south.0 → c.first.0 ≤ c.last.0
      → total_of (times f h) (cross (halves c.north.0 c.south.0) (halves c.first.0 c.last.0)) ≡ times f h c
  children_times c r k =
      cross_times f h (halves c.north.0 c.south.0) (halves c.first.0 c.last.0)
      ∙ ap₂ ◌*◌ (halves_add h b c.first.0 c.last.0 k) (halves_add f a c.north.0 c.south.0 r)

  split_times : (g : Grid) (c : Block) → Rectangle g c → is_cell c ≡ false → total_of (times f h) (split c) ≡ times f h c
  unfolding split
  split_times g c r e = rw e (children_times c r.rows r.columns)

-- ---- areas

area_times : area ≡ times size size
unfolding area
area_times = refl

pub tile_area : (g : Grid) (spacing : ℕ) → 1 ≤ g.width → 1 ≤ g.height → total_of area (tile g spacing) ≡ cells g
unfolding cells
tile_area g spacing w h =
    rw area_times (tile_times size size size_additive size_additive g spacing w h ∙ ap₂ ◌*◌ (omega arith) (omega arith))

pub split_area : (g : Grid) (b : Block) → Rectangle g b → is_cell b ≡ false → total_of area (split b) ≡ area b
split_area g b r e = rw area_times (split_times size size size_additive size_additive g b r e)

pub area_cell : (b : Block) → is_cell b ≡ true → area b ≡ 1
unfolding area is_cell
area_cell b e =
    let rows = eqb-true b.north.0 b.south.0 (and_left _ _ e) in
    let cols = eqb-true b.first.0 b.last.0 (and_right (eqb b.north.0 b.south.0) _ e) in
    let tall : b.south.0 + 1 - b.north.0 ≡ 1 = omega arith in
    let wide : b.last.0 + 1 - b.first.0 ≡ 1 = omega arith in
    rw (tall, wide)

pub split_cell : (b : Block) → is_cell b ≡ true → split b ≡ []
unfolding split
split_cell b e = rw e

-- a block's cells are its children's, or it is the one cell that is settled
pub split_settled : (g : Grid) (b : Block) → Rectangle g b → total_of area (split b) + one (is_cell b) ≡ area b
unfolding one total_of
split_settled g b r =
    cases (is_cell b)
    (λ e. rw (split_cell b e, e, area_cell b e))
    (λ e. rw e (add-zero (total_of area (split b)) ∙ split_area g b r e))

pub area_positive : (g : Grid) (b : Block) → Rectangle g b → 1 ≤ area b
unfolding area
area_positive g b r = times_le 1 1 (b.last.0 + 1 - b.first.0) (b.south.0 + 1 - b.north.0) (omega arith) (omega arith)

-- there are at most as many rectangles as they have cells
pub length_area : (g : Grid) {bs : List Block} → AllOf (Rectangle g) bs → length bs ≤ total_of area bs
length_area g a = length_total area (all_map (area_positive g) a)

-- ---- every cell in exactly one

-- 1 where a block holds a cell, and 0 where it does not
unfoldable pub holding : Cell → Block → ℕ
holding x = times (having x.row.0) (having x.col.0)

pub holding_of : (x : Cell) (b : Block) → Holds b x → holding x b ≡ 1
unfolding holding
holding_of x b h =
    rw (
      having_of x.col.0 (range b.first.0 b.last.0) (record { low = h.first; high = h.last }),
      having_of x.row.0 (range b.north.0 b.south.0) (record { low = h.north; high = h.south }),
    )

factors : (m n : ℕ) → 1 ≤ m * n → (1 ≤ m) × (1 ≤ n)
factors zero n h = absurd (omega (arith, zero-mul n))
factors (suc m) zero h = absurd (omega (arith, mul-zero (suc m)))
factors (suc m) (suc n) h = (omega arith, omega arith)

pub of_holding : (x : Cell) (b : Block) → 1 ≤ holding x b → Holds b x
unfolding holding
of_holding x b h =
    let both = factors (having x.col.0 (range b.first.0 b.last.0)) (having x.row.0 (range b.north.0 b.south.0)) h in
    let cols = of_having x.col.0 (range b.first.0 b.last.0) both.0 in
    let rows = of_having x.row.0 (range b.north.0 b.south.0) both.1 in
    record { north = rows.low; south = rows.high; first = cols.low; last = cols.high }

-- of a list of blocks some one holds the cell
pub held_by : (x : Cell) (bs : List Block) → 1 ≤ total_of (holding x) bs → AnyOf (λ b. Holds b x) bs
held_by x bs h = any_map (of_holding x) (any_positive (holding x) bs h)

pub tile_once : (g : Grid) (spacing : ℕ) (x : Cell) → T (on_grid g x) → total_of (holding x) (tile g spacing) ≡ 1
unfolding holding
tile_once g spacing x t =
    let on = on_grid_lem g x t in
    tile_times (having x.row.0) (having x.col.0) (having_additive x.row.0) (having_additive x.col.0) g spacing (omega arith) (omega arith)
    ∙ ap₂ ◌*◌ (having_of x.col.0 (range 0 (g.width - 1)) (record { low = omega arith; high = omega arith }))
    (having_of x.row.0 (range 0 (g.height - 1)) (record { low = omega arith; high = omega arith }))

pub tile_cover : (g : Grid) (spacing : ℕ) (x : Cell) → T (on_grid g x) → AnyOf (λ b. Holds b x) (tile g spacing)
tile_cover g spacing x t = held_by x (tile g spacing) (omega (arith, tile_once g spacing x t))

pub split_once : (g : Grid) (b : Block) → Rectangle g b → is_cell b ≡ false → (x : Cell) → total_of (holding x) (split b) ≡ holding x b
unfolding holding
split_once g b r e x =
    split_times (having x.row.0) (having x.col.0) (having_additive x.row.0) (having_additive x.col.0) g b r e

pub split_cover : (g : Grid) (b : Block) → Rectangle g b → is_cell b ≡ false → (x : Cell) → Holds b x → AnyOf (λ c. Holds c x) (split b)
split_cover g b r e x h = held_by x (split b) (omega (arith, split_once g b r e x, holding_of x b h))

-- ---- probes

pub probe_held : (g : Grid) (b : Block) → Rectangle g b → Holds b (probe b)
unfolding probe
probe_held g b r =
    record {
      north = middle_low b.north.0 b.south.0;
      south = middle_high b.north.0 b.south.0 r.rows;
      first = middle_low b.first.0 b.last.0;
      last = middle_high b.first.0 b.last.0 r.columns;
    }

-- a single cell is its probe
pub cell_probe : (g : Grid) (b : Block) → Rectangle g b → is_cell b ≡ true → (x : Cell) → Holds b x → x ≡ probe b
unfolding is_cell
cell_probe g b r e x h =
    let p = probe_held g b r in
    let rows = eqb-true b.north.0 b.south.0 (and_left _ _ e) in
    let cols = eqb-true b.first.0 b.last.0 (and_right (eqb b.north.0 b.south.0) _ e) in
    cell_path (omega arith) (omega arith)

-- ---- rectangles, and how long they are

pub tile_rectangle : (g : Grid) (spacing : ℕ) → 1 ≤ g.width → 1 ≤ g.height → AllOf (Rectangle g) (tile g spacing)
unfolding tile
tile_rectangle g spacing w h =
    cross_all (λ r c p q. record { rows = p.order; south = omega arith; columns = q.order; east = omega arith })
    (steps_part g.height spacing 0 (g.height - 1)) (steps_part g.width spacing 0 (g.width - 1))

pub split_rectangle : (g : Grid) (b : Block) → Rectangle g b → AllOf (Rectangle g) (split b)
unfolding split
split_rectangle g b r =
    cond_case (AllOf (Rectangle g)) (is_cell b) _ _ (λ e. none)
    (λ e. cross_all (λ s c p q. record { rows = p.part.order; south = omega arith; columns = q.part.order; east = omega arith })
    (halves_half b.north.0 b.south.0 r.rows) (halves_half b.first.0 b.last.0 r.columns))

-- the rows and the columns beyond the first of each
abbrev pub extent : Block → ℕ
extent b = (b.south.0 - b.north.0) + (b.last.0 - b.first.0)

-- every child is shorter, so that levels end
pub split_shorter : (g : Grid) (b : Block) → Rectangle g b → AllOf (λ c. extent c < extent b) (split b)
unfolding split is_cell
split_shorter g b r =
    cond_case (AllOf (λ c. extent c < extent b)) (eqb b.north.0 b.south.0 && eqb b.first.0 b.last.0) _ _ (λ e. none)
    (λ e. cross_all (λ s c p q. shorter s c p q (longer (eqb b.north.0 b.south.0) refl (eqb b.first.0 b.last.0) refl e))
    (halves_half b.north.0 b.south.0 r.rows) (halves_half b.first.0 b.last.0 r.columns))
  where
    longer : (s : Bool) → eqb b.north.0 b.south.0 ≡ s → (t : Bool) → eqb b.first.0 b.last.0 ≡ t → (s && t) ≡ false
        → (b.north.0 < b.south.0) ⊎ (b.first.0 < b.last.0)
    longer true p true q e = absurd (true≢false e)
    longer true p false q e = inr (omega (arith, eqb-false b.first.0 b.last.0 q))
    longer false p t q e = inl (omega (arith, eqb-false b.north.0 b.south.0 p))

    shorter : (s c : Range) → Half b.north.0 b.south.0 s → Half b.first.0 b.last.0 c
        → (b.north.0 < b.south.0) ⊎ (b.first.0 < b.last.0) → extent (block s c) < extent b
    shorter s c p q (inl h) = omega (arith, p.shorter h)
    shorter s c p q (inr h) = omega (arith, q.shorter h)

-- there are at most as many tiles as cells
pub tile_room : (g : Grid) (spacing : ℕ) → 1 ≤ g.width → 1 ≤ g.height → length (tile g spacing) ≤ cells g
tile_room g spacing w h = omega (arith, tile_area g spacing w h, length_area g (tile_rectangle g spacing w h))
