-- Sums and tests over the numbers below a bound, and three operations on natural numbers.
use Rattle.std.specs.Prelude.{ℕ, zero, suc, ◌+◌, ◌-◌, ◌/◌, Bool, true, cond, ◌&&◌, ltb}

-- f 0 + f 1 + .. + f (n - 1)
unfoldable pub sum_below : ℕ → (ℕ → ℕ) → ℕ
sum_below zero f = 0
sum_below (suc n) f = sum_below n f + f n

-- f holds at 0, 1 .. n - 1
unfoldable pub all_below : ℕ → (ℕ → Bool) → Bool
all_below zero f = true
all_below (suc n) f = all_below n f && f n

-- the greater of two
unfoldable pub max : ℕ → ℕ → ℕ
max a b = cond (ltb a b) b a

-- a / b, rounded up
unfoldable pub div_ceil : ℕ → ℕ → ℕ
div_ceil a b = (a + (b - 1)) / b

-- 1 for true, 0 for false: how a test counts
unfoldable pub one : Bool → ℕ
one b = cond b 1 0

-- opens all of the above, for facts that are computed
unfoldable pub open_counted : Unit {0}
unfolding sum_below all_below max div_ceil one
open_counted = tt
