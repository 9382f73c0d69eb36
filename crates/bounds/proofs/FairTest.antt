-- A test of fairness that looks at a few radii and is good for all of them, since circles and wide circles only grow with the radius.
-- `after` lists the radii, in whole kilometres, up to which some cell is not yet reached.
use Prim.Native.Nat.{ℕ, suc, ◌^◌, ◌≤◌, ◌<◌}
use mathlib.Core.Logic.{inl, inr}
use mathlib.Core.Bool.{Bool, true, false, not, ◌&&◌, ◌||◌}
use mathlib.Core.List.{List, [], ◌∷◌}
use native.Mathlib.Omega.{arith}
use native.Mathlib.Decide.{dec_le}
use lib.Dec.{T, leb, ltb, eqb, le→leb, ltb→lt, eqb→eq}
use lib.Ieee.{Float, lt, le}
use lib.Ieee.Fits.{and_i, and_l, and_r}
use Rattle.lists.specs.Counted.{all_below}
use Rattle.lists.proofs.Bools.{is_true, of_true, or_split}
use Rattle.lists.proofs.All.{all_at}
use Rattle.floats.specs.Binary.{whole}
use Rattle.floats.proofs.Order.{le_trans}
use Rattle.floats.proofs.Round.{+0}
use Rattle.floats.proofs.Total.{lt_not_le}
use Rattle.grid.specs.declared.Cell.{Cell}
use Rattle.grid.specs.Grid.{cell, angle_of, on_grid}
use Rattle.grid.specs.Map.{Globe}
use Rattle.circle_cells.specs.Circle.{angle_to}
use Rattle.circle_cells.proofs.Angle.{angle_mono, angle_whole}
use Rattle.circle_cells.proofs.Circles.{not_zero, circle_in, circle_out}
use Rattle.blocks.specs.declared.Block.{Block}
use Rattle.blocks.specs.Block.{range, block, probe, Rectangle, Holds}
use Rattle.bounds.specs.Bound.{slack_km, wide_km, in_wide_circle}
use Rattle.bounds.specs.Fair.{FairAt}
use Rattle.bounds.proofs.Wide.{wide_grows, wide_mono}

-- ---- the test

-- c, where b holds
unfoldable pub whenever : Bool → Bool → Bool
whenever b c = not b || c

-- the angles of a whole radius and of a rectangle's wide circle there
abbrev reach : Globe → ℕ → Float
reach s km = angle_of s.grid (whole km)

abbrev wide_reach : Globe → Block → ℕ → Float
wide_reach s b km = angle_of s.grid (wide_km s (whole km) b)

-- no radius from 1 to n reaches the angle `far`, and the wide circle of n + 1 reaches the angle `near`
unfoldable pub covered_after : Globe → Block → Float → Float → ℕ → Bool
covered_after s b near far n = (eqb n 0 || lt (reach s n) far) && le near (wide_reach s b (suc n))

-- near is at most far, or that holds for a radius of the list
unfoldable pub covered : Globe → Block → Float → Float → List ℕ → Bool
covered s b near far [] = le near far
covered s b near far (n ∷ after) = let later = covered s b near far after in covered_after s b near far n || later

-- the circle around a cell is covered by a rectangle's wide circle
unfoldable pub cell_test : Globe → List ℕ → Block → Cell → Bool
cell_test s after b c =
    all_below s.grid.height (λ r. all_below s.grid.width (λ k. covered s b (angle_to s (probe b) (cell r k)) (angle_to s c (cell r k)) after))

unfoldable pub inside : Block → Cell → Bool
inside b c = leb b.north.0 c.row.0 && leb c.row.0 b.south.0 && leb b.first.0 c.col.0 && leb c.col.0 b.last.0

unfoldable pub block_test : Globe → List ℕ → Block → Bool
block_test s after b =
    le +0 (slack_km s b) && all_below s.grid.height (λ r. all_below s.grid.width (λ k. whenever (inside b (cell r k)) (cell_test s after b (cell r k))))

unfoldable pub fair_test : Globe → List ℕ → Bool
fair_test s after =
    all_below s.grid.height (λ north. all_below s.grid.height (λ south. all_below s.grid.width (λ first. all_below s.grid.width (λ last.
    whenever (leb north south && leb first last) (block_test s after (block (range north south) (range first last)))))))

-- opens the test, for facts that are computed
unfoldable pub fair_tests : Unit {0}
unfolding whenever covered_after covered cell_test inside block_test fair_test
fair_tests = tt

-- ---- its parts

pub every_at : (n : ℕ) (p : ℕ → Bool) → T (all_below n p) → (i : ℕ) → i < n → T (p i)
every_at n p t i h = of_true (p i) (all_at n p i (is_true (all_below n p) t) h)

given : (b c : Bool) → T b → T (whenever b c) → T c
unfolding whenever
given true c t u = u
given false c t u = absurd t

-- ---- one rectangle
module _ (s : Globe) (b : Block) (S : T (le +0 (slack_km s b))) (km : ℕ) (h : 1 ≤ km) (l : km ≤ 2 ^ 53) where
  wide_after : (n : ℕ) → n < km → T (le (wide_reach s b (suc n)) (wide_reach s b km))
  wide_after n p = angle_mono s.grid (wide_km s (whole (suc n)) b) (wide_km s (whole km) b) (wide_mono s b S (suc n) km p l)

  module _ (near far : Float) (i : T (le far (reach s km))) where
    not_yet : (n : ℕ) → T (eqb n 0 || lt (reach s n) far) → n < km
    not_yet n t = elim (or_split (eqb n 0) (lt (reach s n) far) t) [
      | inl z ↦ omega (arith, eqb→eq n 0 z)
      | inr u ↦ elim (dec_le km n) [
        | yes g ↦ absurd (lt_not_le (reach s n) far u (le_trans far (reach s km) (reach s n) i (angle_whole s.grid km n g)))
        | no g ↦ omega arith
      ]
    ]

    after_sound : (n : ℕ) → T (covered_after s b near far n) → T (le near (wide_reach s b km))
    unfolding covered_after
    after_sound n t =
        let p = eqb n 0 || lt (reach s n) far in
        let w = wide_reach s b (suc n) in
        le_trans near w (wide_reach s b km) (and_r p (le near w) t) (wide_after n (not_yet n (and_l p (le near w) t)))

    covered_sound : (after : List ℕ) → T (covered s b near far after) → T (le near (wide_reach s b km))
    unfolding covered
    covered_sound [] t =
        let wider = angle_mono s.grid (whole km) (wide_km s (whole km) b) (wide_grows s b km l) in
        le_trans near far (wide_reach s b km) t (le_trans far (reach s km) (wide_reach s b km) i wider)
    covered_sound (n ∷ after) t = elim (or_split (covered_after s b near far n) (covered s b near far after) t) [
      | inl u ↦ after_sound n u
      | inr u ↦ covered_sound after u
    ]

-- ---- the test is sound
module _ (s : Globe) (after : List ℕ) (test : T (fair_test s after)) where
  passed : (b : Block) → Rectangle s.grid b → T (block_test s after b)
  unfolding fair_test
  passed b o =
      let H = s.grid.height in
      let W = s.grid.width in
      let rows = leb b.north.0 b.south.0 in
      let cols = leb b.first.0 b.last.0 in
      given (rows && cols) (block_test s after b) (and_i rows cols (le→leb b.north.0 b.south.0 o.rows) (le→leb b.first.0 b.last.0 o.columns))
      (every_at W _ (every_at W _ (every_at H _ (every_at H _ test b.north.0 (omega (arith, o.rows, o.south))) b.south.0 o.south) b.first.0 (omega (arith, o.columns, o.east))) b.last.0 o.east)

  slack_passed : (b : Block) → Rectangle s.grid b → T (le +0 (slack_km s b))
  unfolding block_test
  slack_passed b o = and_l (le +0 (slack_km s b)) _ (passed b o)

  cell_passed : (b : Block) → Rectangle s.grid b → (c : Cell) → Holds b c → T (cell_test s after b c)
  unfolding block_test inside
  cell_passed b o c n =
      let p = leb b.north.0 c.row.0 in
      let q = leb c.row.0 b.south.0 in
      let u = leb b.first.0 c.col.0 in
      let v = leb c.col.0 b.last.0 in
      let north = le→leb b.north.0 c.row.0 n.north in
      let south = le→leb c.row.0 b.south.0 n.south in
      let first = le→leb b.first.0 c.col.0 n.first in
      let last = le→leb c.col.0 b.last.0 n.last in
      given (inside b c) (cell_test s after b c) (and_i (p && q && u) v (and_i (p && q) u (and_i p q north south) first) last)
      (every_at s.grid.width _
      (every_at s.grid.height _ (and_r (le +0 (slack_km s b)) _ (passed b o)) c.row.0 (omega (arith, n.south, o.south)))
      c.col.0 (omega (arith, n.last, o.east)))

  pub fair_by_test : (km : ℕ) → 1 ≤ km → km ≤ 2 ^ 53 → FairAt s km
  unfolding cell_test in_wide_circle on_grid
  fair_by_test km h l b o c n x on i =
      let near = angle_to s (probe b) x in
      let far = angle_to s c x in
      let R = ltb x.row.0 s.grid.height in
      let K = ltb x.col.0 s.grid.width in
      let t : T (covered s b near far after) =
      every_at s.grid.width _
      (every_at s.grid.height _ (cell_passed b o c n) x.row.0 (ltb→lt x.row.0 s.grid.height (and_l R K on)))
      x.col.0 (ltb→lt x.col.0 s.grid.width (and_r R K on)) in
      circle_in s (wide_km s (whole km) b) (probe b) x (not_zero km h l (wide_km s (whole km) b) (wide_grows s b km l))
      (covered_sound s b (slack_passed b o) km h l near far (circle_out s (whole km) c x i).1 after t)
