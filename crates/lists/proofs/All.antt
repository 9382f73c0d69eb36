-- A test at every number below a bound: the form of a loop that returns at the first that fails.
use mathlib.Core.Path.{◌≡◌, refl, ap₂}
use mathlib.Core.Bool.{Bool, true, false, ◌&&◌}
use Prim.Native.Nat.{ℕ, zero, suc, ◌+◌, ◌<◌}
use native.Mathlib.Decide.{dec_lt}
use native.Mathlib.Nat.{le_refl, le_step}
use native.Mathlib.Numerals.{add-one}
use native.Mathlib.Omega.{arith}
use Rattle.lists.specs.Counted.{all_below}
use Rattle.lists.proofs.Bools.{and_both, and_left, and_right, and_no}

pub all_none : (p : ℕ → Bool) → all_below 0 p ≡ true
unfolding all_below
all_none p = refl

pub all_plus_one : (n : ℕ) (p : ℕ → Bool) → all_below (n + 1) p ≡ (all_below n p && p n)
unfolding all_below
all_plus_one n p = rw (add-one n)

-- the step of the loop
pub all_more : (n : ℕ) (p : ℕ → Bool) → all_below n p ≡ true → p n ≡ true → all_below (n + 1) p ≡ true
all_more n p a b = rw (all_plus_one n p) (and_both (all_below n p) (p n) a b)

pub all_at : (n : ℕ) (p : ℕ → Bool) (i : ℕ) → all_below n p ≡ true → i < n → p i ≡ true
unfolding all_below
all_at zero p i a h = absurd (omega arith)
all_at (suc n) p i a h = elim (dec_lt i n) [
  | yes q ↦ all_at n p i (and_left (all_below n p) (p n) a) q
  | no q ↦ let e : i ≡ n = omega arith in rw e (and_right (all_below n p) (p n) a)
]

pub all_fails : (n : ℕ) (p : ℕ → Bool) (i : ℕ) → i < n → p i ≡ false → all_below n p ≡ false
unfolding all_below
all_fails zero p i h e = absurd (omega arith)
all_fails (suc n) p i h e = elim (dec_lt i n) [
  | yes q ↦ rw (all_fails n p i q e)
  | no q ↦ let k : n ≡ i = omega arith in rw k (and_no (all_below i p) (p i) e)
]

pub all_of : (n : ℕ) (p : ℕ → Bool) → ((i : ℕ) → i < n → p i ≡ true) → all_below n p ≡ true
unfolding all_below
all_of zero p h = refl
all_of (suc n) p h = and_both (all_below n p) (p n) (all_of n p (λ i l. h i (le_step l))) (h n (le_refl (suc n)))

pub all_ext : (n : ℕ) (p q : ℕ → Bool) → ((i : ℕ) → i < n → p i ≡ q i) → all_below n p ≡ all_below n q
unfolding all_below
all_ext zero p q h = refl
all_ext (suc n) p q h = ap₂ ◌&&◌ (all_ext n p q (λ i l. h i (le_step l))) (h n (le_refl (suc n)))

-- rows and columns: a test at every j below m i, for every i below n
module _ (n : ℕ) (m : ℕ → ℕ) (p : ℕ → ℕ → Bool) where
  pub all_rows_at : (i j : ℕ) → all_below n (λ k. all_below (m k) (p k)) ≡ true → i < n → j < m i → p i j ≡ true
  all_rows_at i j a h l = all_at (m i) (p i) j (all_at n (λ k. all_below (m k) (p k)) i a h) l

  pub all_rows_of : ((i j : ℕ) → i < n → j < m i → p i j ≡ true) → all_below n (λ k. all_below (m k) (p k)) ≡ true
  all_rows_of h = all_of n (λ k. all_below (m k) (p k)) (λ i l. all_of (m i) (p i) (λ j k. h i j l k))
