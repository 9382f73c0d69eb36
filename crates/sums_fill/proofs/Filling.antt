-- The words that filling writes, for every size: those of row 0, and of a next row one by one.
use mathlib.Core.Path.{◌≡◌, refl, sym, ap, ◌∙◌}
use mathlib.Core.List.{List, [], ◌∷◌, ◌++◌}
use Prim.Native.Nat.{ℕ, zero, suc, ◌+◌, ◌*◌, ◌/◌, ◌%◌, ◌≤◌, ◌<◌, suc-le-suc}
use native.Mathlib.Nat.{add_comm, mul_comm, le-add_left, le_refl, le_step, mul-le-mul_right, suc-mul}
use native.Mathlib.Numerals.{add-one}
use native.Mathlib.Omega.{arith}
use lib.ListN.{length, drop, get_or, set, replicate, replicate-append-replicate}
use Rattle.lists.specs.Counted.{sum_below}
use Rattle.lists.specs.Front.{tabulate, over}
use Rattle.lists.proofs.Sums.{sum_none, sum_zeros}
use Rattle.lists.proofs.Fronts.{over_at, over_step}
use Rattle.grid.specs.Map.{Map, count}
use Rattle.sums.specs.Sums.{corner, sums_word}
use Rattle.sums.proofs.Laws.{people, width_of, corner_south, word_at}

-- ---- a buffer's front, not of the table alone

module _ {A : Type 0} where
  tabulate_ext : (f g : ℕ → A) (n : ℕ) → ((i : ℕ) → i < n → f i ≡ g i) → tabulate f n ≡ tabulate g n
  unfolding tabulate
  tabulate_ext f g zero h = refl
  tabulate_ext f g (suc n) h = rw (tabulate_ext f g n (λ i p. h i (le_step p)), h n (le_refl (suc n)))

  pub over_ext : (f g : ℕ → A) (n : ℕ) (l : List A) → ((i : ℕ) → i < n → f i ≡ g i) → over f n l ≡ over g n l
  unfolding over
  over_ext f g n l h = ap (λ (xs : List A). xs ++ drop n l) (tabulate_ext f g n h)

  pub tabulate_same : (n : ℕ) (v : A) → tabulate (λ i. v) n ≡ replicate n v
  unfolding tabulate
  tabulate_same zero v = refl
  tabulate_same (suc n) v = ap (λ (xs : List A). xs ++ v ∷ []) (tabulate_same n v) ∙ replicate-append-replicate n 1 v ∙ ap (λ k. replicate k v) (add-one n)

-- ---- a row's cells and words are within the whole

pub cells_in : (w h row : ℕ) → row < h → row * w + w ≤ w * h
cells_in w h row l = rw (← suc-mul row w, mul_comm w h) (mul-le-mul_right w l)

pub words_in : (w h row : ℕ) → row < h → row * (w + 1) + (w + 1) + (w + 1) ≤ (h + 1) * (w + 1)
words_in w h row l = rw (← suc-mul row (w + 1), ← suc-mul (suc row) (w + 1), add-one h) (mul-le-mul_right (w + 1) (suc-le-suc l))

pub first_in_lem : (w h : ℕ) → w + 1 ≤ (h + 1) * (w + 1)
first_in_lem w h = rw (add-one h, suc-mul h (w + 1)) (le-add_left (w + 1) (h * (w + 1)))

pub next_row : (w row : ℕ) → (row + 1) * (w + 1) + (w + 1) ≡ row * (w + 1) + (w + 1) + (w + 1)
next_row w row = rw (add-one row, suc-mul row (w + 1))

pub all_rows : (w h : ℕ) → (h + 1) * (w + 1) ≡ w + 1 + h * (w + 1)
all_rows w h = rw (add-one h, suc-mul h (w + 1)) (add_comm (h * (w + 1)) (w + 1))

-- ---- words

-- a word of the sums of counts in rows of w
unfoldable pub word_of : ℕ → List ℕ → ℕ → ℕ
word_of w counts i = sum_below (i / (w + 1)) (λ r. sum_below (i % (w + 1)) (λ k. get_or counts (r * w + k) 0))

module _ (m : Map) where
  corner_north : (c : ℕ) → corner m 0 c ≡ 0
  unfolding corner
  corner_north c = sum_none (λ r. sum_below c (people m r))

  corner_west : (r : ℕ) → corner m r 0 ≡ 0
  unfolding corner
  corner_west r = sum_zeros r (λ i. sum_below 0 (people m i)) (λ i h. sum_none (people m i))

  -- the words of row 0
  pub word_first : (k : ℕ) → k < width_of m + 1 → sums_word m k ≡ 0
  word_first k h = word_at m 0 k k h (omega arith) ∙ corner_north k

  -- the first word of a row
  pub word_west : (r k : ℕ) → k ≡ r * (width_of m + 1) → sums_word m k ≡ 0
  word_west r k e = word_at m r 0 k (omega arith) (omega arith) ∙ corner_west r

  -- ---- the words of the next row, one by one

  -- a map's words by its width and counts alone, as a loop knows them
  pub word_of_lem : sums_word m ≡ word_of (width_of m) m.counts
  unfolding sums_word corner count word_of
  word_of_lem = refl

  -- what stands above the word that is filled next
  pub row_up : (l : List ℕ) (row col : ℕ) → col < width_of m
      → get_or (over (sums_word m) (row * (width_of m + 1) + (width_of m + 1) + 1 + col) l) (row * (width_of m + 1) + 1 + col) 0 ≡ corner m row (col + 1)
  row_up l row col h =
      over_at (sums_word m) (row * (width_of m + 1) + (width_of m + 1) + 1 + col) l (row * (width_of m + 1) + 1 + col) 0 (omega arith)
      ∙ word_at m row (col + 1) (row * (width_of m + 1) + 1 + col) (omega arith) (omega arith)

  pub row_step : (l sums : List ℕ) (row col : ℕ) → col < width_of m → row * (width_of m + 1) + (width_of m + 1) + 1 + col < length l
      → sums ≡ over (sums_word m) (row * (width_of m + 1) + (width_of m + 1) + 1 + col) l
      → set sums (row * (width_of m + 1) + (width_of m + 1) + 1 + col) (get_or sums (row * (width_of m + 1) + 1 + col) 0 + sum_below (col + 1) (people m row))
      ≡ over (sums_word m) (row * (width_of m + 1) + (width_of m + 1) + 1 + (col + 1)) l
  row_step l sums row col h room e =
      let k = row * (width_of m + 1) + (width_of m + 1) + 1 + col in
      let here : sums_word m k ≡ corner m row (col + 1) + sum_below (col + 1) (people m row) =
      word_at m (row + 1) (col + 1) k (omega arith) (rw (add-one row, suc-mul row (width_of m + 1)) (omega arith)) ∙ corner_south m row (col + 1) in
      let next : row * (width_of m + 1) + (width_of m + 1) + 1 + (col + 1) ≡ k + 1 = omega arith in
      rw next (over_step (sums_word m) k l sums _ room e (rw (e, row_up l row col h) (sym here)))
