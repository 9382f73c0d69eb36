-- General laws that this crate needs: two tests that say the same; floats that do not fall.
use Prim.Native.Nat.{ℕ, zero, suc, ◌+◌, ◌-◌, ◌≤◌, ◌<◌}
use mathlib.Core.Path.{◌≡◌, refl, sym}
use mathlib.Core.Bool.{Bool, true, false}
use native.Mathlib.Omega.{arith}
use native.Mathlib.Numerals.{add-one}
use lib.Ieee.{Float, le}
use Rattle.lists.specs.Counted.{all_below}
use Rattle.lists.proofs.Bools.{is_true, of_true}
use Rattle.lists.proofs.All.{all_at}
use Rattle.floats.proofs.Order.{le_trans}

pub same_true : (a b : Bool) → (a ≡ true → b ≡ true) → (b ≡ true → a ≡ true) → a ≡ b
same_true true b f g = sym (f refl)
same_true false true f g = g refl
same_true false false f g = refl

-- ---- numbers that do not fall: the first and the last bound them all

le_through : (x y z : Float) → le x y ≡ true → le y z ≡ true → le x z ≡ true
le_through x y z a b = is_true (le x z) (le_trans x y z (of_true (le x y) a) (of_true (le y z) b))

module _ (f : ℕ → Float) (n : ℕ) (rise : all_below n (λ k. le (f k) (f (k + 1))) ≡ true) where
  step_up : (k : ℕ) → k < n → le (f k) (f (k + 1)) ≡ true
  step_up k h = all_at n (λ k. le (f k) (f (k + 1))) k rise h

  pub at_least_first : (x : Float) → le x (f 0) ≡ true → (k : ℕ) → k ≤ n → le x (f k) ≡ true
  at_least_first x first zero h = first
  at_least_first x first (suc k) h =
      rw (← add-one k) (le_through x (f k) (f (k + 1)) (at_least_first x first k (omega arith)) (step_up k (omega arith)))

  pub at_most_last : (y : Float) → le (f n) y ≡ true → (k : ℕ) → k ≤ n → le (f k) y ≡ true
  at_most_last y last k h = go (n - k) k (omega arith)
    where
      go : (d k : ℕ) → k + d ≡ n → le (f k) y ≡ true
      go zero k e = let z : k ≡ n = omega arith in rw z last
      go (suc d) k e = le_through (f k) (f (k + 1)) y (step_up k (omega arith)) (go d (k + 1) (omega arith))
