-- How many workers a level is cut for: from one to four.
use Prim.Native.Nat.{ℕ, ◌≤◌, min}
use mathlib.Core.Path.{◌≡◌, ◌∙◌}
use mathlib.Core.Bool.{true, false}
use native.Mathlib.Omega.{arith}
use borrow.Author.Tests.{ltb-true, ltb-false}
use lib.Dec.{ltb}
use Rattle.lists.specs.Counted.{max}
use Rattle.lists.proofs.Bools.{cases, cond_true, cond_false, cond_case}

pub most_one : (n : ℕ) → 1 ≤ n → max 1 n ≡ n
unfolding max
most_one n h =
    cases (ltb 1 n) (λ (e : ltb 1 n ≡ true). cond_true (ltb 1 n) n 1 e)
    (λ (e : ltb 1 n ≡ false). cond_false (ltb 1 n) n 1 e ∙ omega (arith, ltb-false 1 n e))

pub workers_few : (n : ℕ) → (1 ≤ max 1 (min 4 n)) × (max 1 (min 4 n) ≤ 4)
unfolding max
workers_few n = cond_case (λ (w : ℕ). (1 ≤ w) × (w ≤ 4)) (ltb 1 (min 4 n)) (min 4 n) 1 (λ e. (omega (arith, ltb-true 1 (min 4 n) e), omega arith)) (λ e. (omega arith, omega arith))
