-- Corners of a map's prefix sums, for every size: rows and columns more, the words, rectangles by differences, and bounds.
use mathlib.Core.Path.{◌≡◌, refl, sym, ap₂, ◌∙◌}
use mathlib.Core.List.{List}
use Prim.Native.Nat.{ℕ, ◌+◌, ◌*◌, ◌-◌, ◌≤◌, ◌<◌, ◌^◌}
use native.Mathlib.Nat.{le_trans}
use native.Mathlib.Omega.{arith}
use lib.Arith.{digits_div, digits_mod, digits_lt}
use lib.ListN.{get_or}
use Rattle.lists.specs.Counted.{sum_below}
use Rattle.lists.proofs.Sums.{sum_plus_one, sum_both, sum_le, sum_bound, sum_grows, sum_from, sum_seg, seg_all, seg_same, times_le}
use Rattle.lists.proofs.Fronts.{over_at}
use Rattle.grid.specs.Grid.{most_columns, most_rows, cell}
use Rattle.grid.specs.Map.{Map, count}
use Rattle.sums.specs.declared.Rows.{Rows}
use Rattle.sums.specs.Sums.{corner, sums_words, sums_word, filled_sums, total, rectangle_population}
use Rattle.sums.specs.State.{counts_map}

-- the people of row r at column k
abbrev pub people : Map → ℕ → ℕ → ℕ
people m r k = count m (cell r k)

abbrev pub width_of : Map → ℕ
width_of m = m.globe.grid.width

abbrev pub height_of : Map → ℕ
height_of m = m.globe.grid.height

-- ---- rectangles

seg_both : (a b : ℕ) (f g : ℕ → ℕ) → sum_from a b (λ i. f i + g i) ≡ sum_from a b f + sum_from a b g
unfolding sum_from
seg_both a b f g = sum_both (b - a) (λ i. f (a + i)) (λ i. g (a + i))

module _ (m : Map) (rows : Rows) where
  -- a sum over the rows of each row's people in one piece of the columns, and in two
  pub one_rectangle : (g : ℕ → ℕ) (f l : ℕ) → ((r : ℕ) → g r ≡ sum_from f l (people m r)) → sum_from rows.north rows.end g ≡ rectangle_population m rows f l
  unfolding rectangle_population sum_from
  one_rectangle g f l h = seg_same rows.north rows.end g (λ r. sum_from f l (people m r)) (λ r a b. h r)

  pub two_rectangles : (g : ℕ → ℕ) (f l f' l' : ℕ) → ((r : ℕ) → g r ≡ sum_from f l (people m r) + sum_from f' l' (people m r))
      → sum_from rows.north rows.end g ≡ rectangle_population m rows f l + rectangle_population m rows f' l'
  unfolding rectangle_population sum_from
  two_rectangles g f l f' l' h =
      let one : ℕ → ℕ = λ r. sum_from f l (people m r) in
      let two : ℕ → ℕ = λ r. sum_from f' l' (people m r) in
      seg_same rows.north rows.end g (λ r. one r + two r) (λ r a b. h r) ∙ seg_both rows.north rows.end one two

  -- cut at a column
  pub rectangle_cut : (c l : ℕ) → c ≤ l → rectangle_population m rows 0 l ≡ rectangle_population m rows 0 c + rectangle_population m rows c l
  rectangle_cut c l h =
      let g : ℕ → ℕ = λ r. sum_from 0 l (people m r) in
      sym (one_rectangle g 0 l (λ r. refl))
      ∙ two_rectangles g 0 c c l (λ r. omega (arith, seg_all l (people m r), seg_all c (people m r), sum_seg c l (people m r) h))

-- ---- corners

module _ (m : Map) where
  pub corner_south : (r c : ℕ) → corner m (r + 1) c ≡ corner m r c + sum_below c (people m r)
  unfolding corner
  corner_south r c = sum_plus_one r (λ i. sum_below c (people m i))

  -- one cell by its four corners
  pub corner_cell : (r c : ℕ) → corner m (r + 1) (c + 1) + corner m r c ≡ corner m r (c + 1) + corner m (r + 1) c + people m r c
  corner_cell r c = omega (arith, corner_south r (c + 1), corner_south r c, sum_plus_one c (people m r))

  -- rows west of a column: two corners
  pub corner_rows : (rows : Rows) (c : ℕ) → rows.north ≤ rows.end → corner m rows.end c ≡ corner m rows.north c + rectangle_population m rows 0 c
  unfolding corner
  corner_rows rows c h =
      let f : ℕ → ℕ = λ r. sum_below c (people m r) in
      omega (arith, sum_seg rows.north rows.end f h, one_rectangle m rows f 0 c (λ r. sym (seg_all c (people m r))))

  -- corners grow southward and eastward
  pub corner_grows_south : (n s c : ℕ) → n ≤ s → corner m n c ≤ corner m s c
  corner_grows_south n s c h = omega (arith, corner_rows (record { north = n; end = s }) c h)

  pub corner_grows_east : (r f l : ℕ) → f ≤ l → corner m r f ≤ corner m r l
  unfolding corner
  corner_grows_east r f l h = sum_le r (λ i. sum_below f (people m i)) (λ i. sum_below l (people m i)) (λ i p. sum_grows f l (people m i) h)

  pub corner_total : (r c : ℕ) → r ≤ height_of m → c ≤ width_of m → corner m r c ≤ total m
  unfolding total
  corner_total r c p q = le_trans (corner_grows_south r (height_of m) c p) (corner_grows_east (height_of m) c (width_of m) q)

  -- a map with a sheet has the people of its grid and counts
  pub bare_total : total (counts_map m.globe.grid m.counts) ≡ total m
  unfolding total corner count
  bare_total = refl

  -- a rectangle has at most all people
  pub rectangle_total : (rows : Rows) (f l : ℕ) → rows.north ≤ rows.end → rows.end ≤ height_of m → f ≤ l → l ≤ width_of m → rectangle_population m rows f l ≤ total m
  rectangle_total rows f l n e p q = omega (arith, rectangle_cut m rows f l p, corner_rows rows l n, corner_total rows.end l e q)

  -- ---- every count below 2 ^ 32

  module _ (small : (i : ℕ) → get_or m.counts i 0 < 2 ^ 32) where
    pub row_bound : (r c : ℕ) → sum_below c (people m r) ≤ c * (2 ^ 32 - 1)
    unfolding count
    row_bound r c = sum_bound c (people m r) (2 ^ 32 - 1) (λ k p. let h = small (r * width_of m + k) in omega arith)

    pub corner_bound : (r c : ℕ) → corner m r c ≤ r * (c * (2 ^ 32 - 1))
    unfolding corner
    corner_bound r c = sum_bound r (λ i. sum_below c (people m i)) (c * (2 ^ 32 - 1)) (λ i p. row_bound i c)

    pub corner_small : (r c : ℕ) → r ≤ most_rows → c ≤ most_columns → corner m r c ≤ most_rows * most_columns * (2 ^ 32 - 1)
    corner_small r c p q =
        let inner : c * (2 ^ 32 - 1) ≤ most_columns * (2 ^ 32 - 1) = times_le c (2 ^ 32 - 1) most_columns (2 ^ 32 - 1) q (omega arith) in
        let outer : r * (c * (2 ^ 32 - 1)) ≤ most_rows * (most_columns * (2 ^ 32 - 1)) = times_le r (c * (2 ^ 32 - 1)) most_rows (most_columns * (2 ^ 32 - 1)) p inner in
        omega (arith, corner_bound r c, outer)

    pub total_small : height_of m ≤ most_rows → width_of m ≤ most_columns → total m ≤ most_rows * most_columns * (2 ^ 32 - 1)
    unfolding total
    total_small p q = corner_small (height_of m) (width_of m) p q

  -- ---- words

  pub word_at : (r c k : ℕ) → c < width_of m + 1 → k ≡ r * (width_of m + 1) + c → sums_word m k ≡ corner m r c
  unfolding sums_word
  word_at r c k h e = rw e (ap₂ (corner m) (digits_div r h) (digits_mod r h))

  -- a buffer that starts with the prefix sums has each corner at its place
  pub corner_read : (l s : List ℕ) (r c : ℕ) → s ≡ filled_sums m l → r ≤ height_of m → c ≤ width_of m → get_or s (r * (width_of m + 1) + c) 0 ≡ corner m r c
  unfolding filled_sums sums_words
  corner_read l s r c e p q =
      rw e
      (over_at (sums_word m) ((height_of m + 1) * (width_of m + 1)) l (r * (width_of m + 1) + c) 0 (digits_lt (omega arith) (omega arith))
      ∙ word_at r c (r * (width_of m + 1) + c) (omega arith) refl)

  pub corner_place : (r c : ℕ) → r ≤ height_of m → c ≤ width_of m → r * (width_of m + 1) + c < sums_words m.globe.grid
  unfolding sums_words
  corner_place r c p q = digits_lt (omega arith) (omega arith)
