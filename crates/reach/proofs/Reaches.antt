-- The reach of a circle in a row: the offsets within an angle are those below it, and the rows reached are one band around the centre row.
use Prim.Native.Nat.{ℕ, ◌+◌, ◌-◌, ◌*◌, ◌≤◌, ◌<◌}
use mathlib.Core.Path.{◌≡◌, refl, sym, ◌∙◌}
use mathlib.Core.Bool.{Bool, true, false}
use mathlib.Core.List.{List}
use mathlib.Core.Logic.{◌⊎◌, inl, inr}
use native.Mathlib.Omega.{arith}
use lib.Dec.{ltb, eqb}
use lib.ListN.{length}
use lib.Ieee.{Float, le}
use borrow.Author.Tests.{ltb-true, ltb-false, eqb-true}
use Rattle.lists.proofs.Bools.{cases, not_both, and_left}
use Rattle.grid.specs.declared.Row.{Row}
use Rattle.grid.specs.declared.Grid.{Grid}
use Rattle.grid.specs.Grid.{most_columns, closing}
use Rattle.grid.specs.Map.{Globe, angle_at, globe_of}
use Rattle.grid.specs.Questions.{angle, sheet_complete}
use Rattle.grid.proofs.Sizes.{Sizes, grid_sizes}
use Rattle.grid.proofs.SheetOrder.{InOrder, in_order, offsets_first, rows_band}
use Rattle.reach.specs.Reach.{reach, row_places}
use Rattle.reach.specs.Requires.{Sheet}
use Rattle.reach.specs.State.{Edge}
use Rattle.lists.proofs.Counts.{count_is, count_tests}

-- whether an offset of a row is within an angle
unfoldable pub inside : Globe → ℕ → ℕ → Float → ℕ → Bool
inside s c r limit k = le (angle s c r k) limit

module _ (s : Globe) (q : InOrder s) (c : ℕ) (C : c < s.grid.height) (limit : Float) where
  module _ (r : ℕ) (R : r < s.grid.height) where
    pub inside_first : (i j : ℕ) → i ≤ j → j < closing s.grid + 1 → inside s c r limit j ≡ true → inside s c r limit i ≡ true
    unfolding inside
    inside_first i j h l e = offsets_first s q c C r R limit i j h (omega arith) e

    -- the reach by the tests on either side of it
    pub reach_edge : (n : ℕ) → Edge (inside s c r limit) 0 (closing s.grid + 1) n → reach s (record { 0 = c }) (record { 0 = r }) limit ≡ n
    unfolding reach inside
    reach_edge n e = count_is (inside s c r limit) (closing s.grid + 1) n e.to pass fail
      where
        pass : (k : ℕ) → k < n → inside s c r limit k ≡ true
        pass k h = inside_first k (n - 1) (omega arith) (omega (arith, e.to)) (e.passed (omega arith))

        fail : (k : ℕ) → n ≤ k → k < closing s.grid + 1 → inside s c r limit k ≡ false
        fail k h l =
            cases (inside s c r limit k) (λ f. absurd (not_both (inside s c r limit n) (inside_first n k h l f) (e.failed (omega arith)))) (λ f. f)

    -- an offset is within the angle where it is below the reach
    pub reach_tests : (k : ℕ) → k ≤ closing s.grid
        → le (angle s c r k) limit ≡ ltb k (reach s (record { 0 = c }) (record { 0 = r }) limit)
    unfolding reach inside
    reach_tests k l = count_tests (inside s c r limit) (closing s.grid + 1) k inside_first (omega arith)

  -- a row further out than one that is missed is missed
  pub missed_beyond : (r t : ℕ) → t < s.grid.height → (c ≤ r × r ≤ t) ⊎ (t ≤ r × r ≤ c)
      → reach s (record { 0 = c }) (record { 0 = r }) limit ≡ 0 → reach s (record { 0 = c }) (record { 0 = t }) limit ≡ 0
  missed_beyond r t h p e =
      let n = reach s (record { 0 = c }) (record { 0 = t }) limit in
      cases (le (angle s c t 0) limit)
      (λ y.
      let m = sym (reach_tests r (between p h) 0 (omega arith)) ∙ rows_band s q c C limit r t h p y in
      absurd (omega (arith, ltb-true 0 (reach s (record { 0 = c }) (record { 0 = r }) limit) m, e)))
      (λ y. let m = sym (reach_tests t h 0 (omega arith)) ∙ y in omega (arith, ltb-false 0 n m))
    where
      between : (c ≤ r × r ≤ t) ⊎ (t ≤ r × r ≤ c) → t < s.grid.height → r < s.grid.height
      between (inl w) l = omega (arith, w.1)
      between (inr w) l = omega (arith, w.1)

-- reaches read no cosine
pub reach_sheet : (g : Grid) (angles cosines others : List Float) (c r : Row) (limit : Float)
    → reach (globe_of g angles cosines) c r limit ≡ reach (globe_of g angles others) c r limit
unfolding reach angle_at
reach_sheet g angles cosines others c r limit = refl

-- what a tested sheet says in plain numbers
module _ {g : Grid} {angles : List Float} (t : Sheet g angles) where
  pub sheet_order : InOrder (globe_of g angles t.cosines)
  sheet_order = in_order (globe_of g angles t.cosines) t.order

  pub sheet_length : length angles ≡ g.height * g.height * (closing g + 1)
  unfolding sheet_complete
  sheet_length = eqb-true _ _ (and_left (eqb (length angles) (g.height * g.height * (closing g + 1))) _ t.complete)

  sheet_sizes : Sizes g
  sheet_sizes = grid_sizes g t.sizes

  pub sheet_wide : g.width ≤ most_columns
  sheet_wide = sheet_sizes.columns

  pub sheet_high : g.height ≤ row_places
  sheet_high = sheet_sizes.rows

  pub sheet_beyond : (cosines : List Float) (c : Row) → c.0 < g.height → (limit : Float) (r u : ℕ) → u < g.height → (c.0 ≤ r × r ≤ u) ⊎ (u ≤ r × r ≤ c.0)
      → reach (globe_of g angles cosines) c (record { 0 = r }) limit ≡ 0 → reach (globe_of g angles cosines) c (record { 0 = u }) limit ≡ 0
  sheet_beyond cosines c C limit r u h p e =
      reach_sheet g angles cosines t.cosines c (record { 0 = u }) limit
      ∙ missed_beyond (globe_of g angles t.cosines) sheet_order c.0 C limit r u h p
      (reach_sheet g angles t.cosines cosines c (record { 0 = r }) limit ∙ e)
