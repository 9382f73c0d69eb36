-- Finite sums of a function of the index: over the numbers below a bound, and over a range.
use mathlib.Core.Path.{◌≡◌, refl, sym, ap, ap₂, ◌∙◌}
use Prim.Native.Nat.{ℕ, zero, suc, ◌+◌, ◌*◌, ◌-◌, ◌≤◌, ◌<◌, zero-le}
use native.Mathlib.Nat.{add-zero, add-suc, suc-mul, zero-mul, mul-le-mul, le_refl, le_step, add-le-add}
use native.Mathlib.Numerals.{add-one}
use native.Mathlib.Omega.{arith}
use Rattle.lists.specs.Counted.{sum_below}

-- ---- below a bound

pub sum_none : (f : ℕ → ℕ) → sum_below 0 f ≡ 0
unfolding sum_below
sum_none f = refl

pub sum_suc : (n : ℕ) (f : ℕ → ℕ) → sum_below (suc n) f ≡ sum_below n f + f n
unfolding sum_below
sum_suc n f = refl

-- the step of a loop that adds
pub sum_plus_one : (n : ℕ) (f : ℕ → ℕ) → sum_below (n + 1) f ≡ sum_below n f + f n
sum_plus_one n f = rw add-one (sum_suc n f)

pub sum_ext : (n : ℕ) (f g : ℕ → ℕ) → ((i : ℕ) → i < n → f i ≡ g i) → sum_below n f ≡ sum_below n g
unfolding sum_below
sum_ext zero f g h = refl
sum_ext (suc n) f g h = ap₂ ◌+◌ (sum_ext n f g (λ i p. h i (le_step p))) (h n (le_refl (suc n)))

pub sum_zeros : (n : ℕ) (f : ℕ → ℕ) → ((i : ℕ) → i < n → f i ≡ 0) → sum_below n f ≡ 0
unfolding sum_below
sum_zeros zero f h = refl
sum_zeros (suc n) f h = ap₂ ◌+◌ (sum_zeros n f (λ i p. h i (le_step p))) (h n (le_refl (suc n)))

pub sum_both : (n : ℕ) (f g : ℕ → ℕ) → sum_below n (λ i. f i + g i) ≡ sum_below n f + sum_below n g
unfolding sum_below
sum_both zero f g = refl
sum_both (suc n) f g = let e = sum_both n f g in omega arith

-- in two parts
pub sum_add : (m n : ℕ) (f : ℕ → ℕ) → sum_below (m + n) f ≡ sum_below m f + sum_below n (λ i. f (m + i))
sum_add m zero f = rw (add-zero, sum_none (λ i. f (m + i)), add-zero)
sum_add m (suc n) f =
    let e = sum_add m n f in
    rw (add-suc m n, sum_suc (m + n) f, sum_suc n (λ i. f (m + i))) (omega arith)

pub sum_split : (a n : ℕ) (f : ℕ → ℕ) → a ≤ n → sum_below n f ≡ sum_below a f + sum_below (n - a) (λ i. f (a + i))
sum_split a n f h =
    let e : n ≡ a + (n - a) = omega arith in
    ap (λ k. sum_below k f) e ∙ sum_add a (n - a) f

pub sum_le : (n : ℕ) (f g : ℕ → ℕ) → ((i : ℕ) → i < n → f i ≤ g i) → sum_below n f ≤ sum_below n g
unfolding sum_below
sum_le zero f g h = le_refl 0
sum_le (suc n) f g h = add-le-add (sum_le n f g (λ i p. h i (le_step p))) (h n (le_refl (suc n)))

pub sum_constant : (n b : ℕ) → sum_below n (λ i. b) ≡ n * b
sum_constant zero b = sum_none (λ i. b) ∙ sym (zero-mul b)
sum_constant (suc n) b = rw (sum_suc n (λ i. b), suc-mul, sum_constant n b)

pub sum_bound : (n : ℕ) (f : ℕ → ℕ) (b : ℕ) → ((i : ℕ) → i < n → f i ≤ b) → sum_below n f ≤ n * b
sum_bound n f b h = rw (← sum_constant n b) (sum_le n f (λ i. b) h)

-- a shorter sum is at most the longer one, and so is each term
pub sum_grows : (m n : ℕ) (f : ℕ → ℕ) → m ≤ n → sum_below m f ≤ sum_below n f
sum_grows m n f h = omega (arith, sum_split m n f h)

-- ---- over a range

-- f a + .. + f (b - 1)
unfoldable pub sum_from : ℕ → ℕ → (ℕ → ℕ) → ℕ
sum_from a b f = sum_below (b - a) (λ i. f (a + i))

pub sum_seg : (a n : ℕ) (f : ℕ → ℕ) → a ≤ n → sum_below n f ≡ sum_below a f + sum_from a n f
unfolding sum_from
sum_seg a n f h = sum_split a n f h

pub seg_all : (n : ℕ) (f : ℕ → ℕ) → sum_from 0 n f ≡ sum_below n f
seg_all n f = let e = sum_seg 0 n f zero-le in omega (arith, sum_none f)

pub seg_same : (a b : ℕ) (f g : ℕ → ℕ) → ((i : ℕ) → a ≤ i → i < b → f i ≡ g i) → sum_from a b f ≡ sum_from a b g
unfolding sum_from
seg_same a b f g h = sum_ext (b - a) (λ i. f (a + i)) (λ i. g (a + i)) (λ i p. h (a + i) (omega arith) (omega arith))

pub seg_zeros : (a b : ℕ) (f : ℕ → ℕ) → ((i : ℕ) → a ≤ i → i < b → f i ≡ 0) → sum_from a b f ≡ 0
unfolding sum_from
seg_zeros a b f h = sum_zeros (b - a) (λ i. f (a + i)) (λ i p. h (a + i) (omega arith) (omega arith))

-- a sum of what a test takes, where it takes one range and where it takes all but one
module _ (f g : ℕ → ℕ) (a b n : ℕ) (p : a ≤ b) (q : b ≤ n) where
  pub one_piece : ((i : ℕ) → i < a → g i ≡ 0) → ((i : ℕ) → a ≤ i → i < b → g i ≡ f i) → ((i : ℕ) → b ≤ i → i < n → g i ≡ 0)
      → sum_below n g ≡ sum_from a b f
  one_piece west within east =
      omega (arith, sum_seg b n g q, sum_seg a b g p, sum_zeros a g west, seg_same a b g f within, seg_zeros b n g east)

  pub two_pieces : ((i : ℕ) → i < a → g i ≡ f i) → ((i : ℕ) → a ≤ i → i < b → g i ≡ 0) → ((i : ℕ) → b ≤ i → i < n → g i ≡ f i)
      → sum_below n g ≡ sum_from b n f + sum_from 0 a f
  two_pieces west out east =
      omega (arith, sum_seg b n g q, sum_seg a b g p, sum_ext a g f west, seg_zeros a b g out, seg_same b n g f east, seg_all a f)

-- a product's bound with every number written: where the bounds are numerals their product computes, and `mul-le-mul` cannot read them off it
pub times_le : (a b m n : ℕ) → a ≤ m → b ≤ n → a * b ≤ m * n
times_le a b m n p q = mul-le-mul p q
