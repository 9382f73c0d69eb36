-- The people of circles: what sets of cells say of their populations.
use Prim.Native.Nat.{ℕ, ◌+◌, ◌*◌, ◌^◌, ◌≤◌, ◌<◌, zero-le}
use mathlib.Core.Path.{◌≡◌}
use mathlib.Core.Bool.{Bool, true, false, cond}
use mathlib.Core.List.{List}
use native.Mathlib.Nat.{le_refl}
use lib.Dec.{T}
use lib.ListN.{get_or}
use lib.Ieee.{Float, le, eq}
use Rattle.floats.specs.Binary.{whole}
use Rattle.lists.specs.Counted.{sum_below}
use Rattle.lists.proofs.Bools.{is_true}
use Rattle.lists.proofs.Sums.{sum_ext, sum_zeros, sum_le}
use Rattle.grid.specs.declared.Cell.{Cell}
use Rattle.grid.specs.Grid.{cell, ceiling}
use Rattle.grid.specs.Map.{Globe, Map, count}
use Rattle.grid.proofs.SheetOrder.{InOrder}
use Rattle.circle_cells.specs.Circle.{in_circle, population}
use Rattle.circle_cells.proofs.Circles.{circle_zero, circle_grows, same_radius, circle_all}

taken_le : (p q : Bool) (n : ℕ) → (T p → T q) → cond p n 0 ≤ cond q n 0
taken_le true true n h = le_refl n
taken_le true false n h = absurd (h tt)
taken_le false q n h = zero-le

part_le : (p : Bool) (n k : ℕ) → n ≤ k → cond p n 0 ≤ cond p k 0
part_le true n k h = h
part_le false n k h = le_refl 0

some_le : (p : Bool) (n : ℕ) → cond p n 0 ≤ n
some_le true n = le_refl n
some_le false n = zero-le

-- the people of all cells
abbrev pub everybody : Map → ℕ
everybody m = sum_below m.globe.grid.height (λ r. sum_below m.globe.grid.width (λ k. count m (cell r k)))

module _ (m : Map) where
  -- a circle whose cells are all in another has at most its people
  pub population_le : (x y : Float) (c d : Cell)
      → ((r k : ℕ) → r < m.globe.grid.height → k < m.globe.grid.width → T (in_circle m.globe x c (cell r k)) → T (in_circle m.globe y d (cell r k)))
      → population m x c ≤ population m y d
  unfolding population
  population_le x y c d h =
      sum_le m.globe.grid.height _ _ (λ r R. sum_le m.globe.grid.width _ _ (λ k K.
      taken_le (in_circle m.globe x c (cell r k)) (in_circle m.globe y d (cell r k)) (count m (cell r k)) (h r k R K)))

  -- circles of the same cells have the same people
  pub population_same : (x y : Float) (c d : Cell)
      → ((r k : ℕ) → r < m.globe.grid.height → k < m.globe.grid.width → in_circle m.globe x c (cell r k) ≡ in_circle m.globe y d (cell r k))
      → population m x c ≡ population m y d
  unfolding population
  population_same x y c d h =
      sum_ext m.globe.grid.height _ _ (λ r R. sum_ext m.globe.grid.width _ _ (λ k K. rw (h r k R K)))

  -- a set that has the circle's cells has its people
  pub population_of : (among : Cell → Bool) (km : Float) (c : Cell)
      → ((r k : ℕ) → r < m.globe.grid.height → k < m.globe.grid.width → among (cell r k) ≡ in_circle m.globe km c (cell r k))
      → sum_below m.globe.grid.height (λ r. sum_below m.globe.grid.width (λ k. cond (among (cell r k)) (count m (cell r k)) 0)) ≡ population m km c
  unfolding population
  population_of among km c h = sum_ext m.globe.grid.height _ _ (λ r R. sum_ext m.globe.grid.width _ _ (λ k K. rw (h r k R K)))

  pub population_zero : (c : Cell) → population m (whole 0) c ≡ 0
  unfolding population
  population_zero c =
      sum_zeros m.globe.grid.height _ (λ r R. sum_zeros m.globe.grid.width _ (λ k K. rw (circle_zero m.globe c (cell r k))))

  -- no circle has more people than all cells
  pub population_most : (km : Float) (c : Cell) → population m km c ≤ everybody m
  unfolding population
  population_most km c =
      sum_le m.globe.grid.height _ _ (λ r R. sum_le m.globe.grid.width _ _ (λ k K.
      some_le (in_circle m.globe km c (cell r k)) (count m (cell r k))))

  -- populations grow with the radius: cited by nothing yet, kept for the promise that no smaller radius would do
  pub population_grows : (n km : ℕ) → n ≤ km → km ≤ 2 ^ 53 → (c : Cell) → population m (whole n) c ≤ population m (whole km) c
  population_grows n km h l c = population_le (whole n) (whole km) c c (λ r k R K. circle_grows m.globe n km h l c (cell r k))

  -- radii that compare equal have circles of the same people
  pub same_population : (x y : Float) → T (eq x y) → (c : Cell) → population m x c ≡ population m y c
  same_population x y e c = population_same x y c c (λ r k R K. same_radius m.globe x y e c (cell r k))

  -- from the ceiling on, all people
  pub population_whole : InOrder m.globe → (km : Float) → T (le (whole (ceiling m.globe.grid)) km) → (c : Cell) → c.row.0 < m.globe.grid.height → population m km c ≡ everybody m
  unfolding population
  population_whole q km h c C =
      sum_ext m.globe.grid.height _ _ (λ r R. sum_ext m.globe.grid.width _ _ (λ k K.
      rw (is_true (in_circle m.globe km c (cell r k)) (circle_all m.globe q c C km h (cell r k) R))))

-- populations grow with the counts: cited by nothing yet, kept for promises of worlds whose counts lie between two
pub population_people : (s : Globe) (a b : List ℕ) → ((i : ℕ) → get_or a i 0 ≤ get_or b i 0)
    → (km : Float) (c : Cell) → population (record { globe = s; counts = a }) km c ≤ population (record { globe = s; counts = b }) km c
unfolding population count
population_people s a b h km c =
    sum_le s.grid.height _ _ (λ r R. sum_le s.grid.width _ _ (λ k K.
    part_le (in_circle s km c (cell r k)) (get_or a (r * s.grid.width + k) 0) (get_or b (r * s.grid.width + k) 0) (h (r * s.grid.width + k))))
