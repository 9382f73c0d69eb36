-- How many numbers below a bound pass a test, where those that pass come first.
use Prim.Native.Nat.{ℕ, zero, suc, ◌+◌, ◌≤◌, ◌<◌}
use mathlib.Core.Path.{◌≡◌, sym, ◌∙◌}
use mathlib.Core.Bool.{Bool, true, false}
use native.Mathlib.Decide.{dec_lt}
use native.Mathlib.Omega.{arith}
use borrow.Author.Tests.{lt-ltb, le-ltb}
use lib.Dec.{ltb}
use Rattle.lists.specs.Counted.{sum_below, one}
use Rattle.lists.proofs.Sums.{sum_none, sum_suc}
use Rattle.lists.proofs.Bools.{cases}

module _ (p : ℕ → Bool) where
  -- the numbers below n that pass
  abbrev passing : ℕ → ℕ
  passing n = sum_below n (λ k. one (p k))

  passing_yes : (n : ℕ) → p n ≡ true → passing (suc n) ≡ passing n + 1
  unfolding one
  passing_yes n e = sum_suc n (λ k. one (p k)) ∙ rw e

  passing_no : (n : ℕ) → p n ≡ false → passing (suc n) ≡ passing n
  unfolding one
  passing_no n e = sum_suc n (λ k. one (p k)) ∙ rw e (omega arith)

  pub count_le : (n : ℕ) → sum_below n (λ k. one (p k)) ≤ n
  count_le zero = omega (arith, sum_none (λ k. one (p k)))
  count_le (suc n) = cases (p n) (λ e. omega (arith, passing_yes n e, count_le n)) (λ e. omega (arith, passing_no n e, count_le n))

  -- those below m pass, and those from m on do not
  pub count_is : (n m : ℕ) → m ≤ n → ((k : ℕ) → k < m → p k ≡ true) → ((k : ℕ) → m ≤ k → k < n → p k ≡ false)
      → sum_below n (λ k. one (p k)) ≡ m
  count_is zero m h pass fail = omega (arith, sum_none (λ k. one (p k)))
  count_is (suc n) m h pass fail = elim (dec_lt n m) [
    | yes q ↦ omega (arith, passing_yes n (pass n q), count_is n n (omega arith) (λ k l. pass k (omega arith)) (λ k u l. absurd (omega arith)))
    | no q ↦ passing_no n (fail n (omega arith) (omega arith)) ∙ count_is n m (omega arith) pass (λ k u l. fail k u (omega arith))
  ]

  -- where each number before one that passes does so too, the test asks whether a number is below the count
  pub count_tests : (n k : ℕ) → ((i j : ℕ) → i ≤ j → j < n → p j ≡ true → p i ≡ true) → k < n → p k ≡ ltb k (sum_below n (λ k. one (p k)))
  count_tests zero k closed h = absurd (omega arith)
  count_tests (suc n) k closed h = cases (p n) all (some (count_tests n k (λ i j u l. closed i j u (omega arith))))
    where
      all : p n ≡ true → p k ≡ ltb k (passing (suc n))
      all e =
          let c = count_is (suc n) (suc n) (omega arith) (λ i l. closed i n (omega arith) (omega arith) e) (λ i u l. absurd (omega arith)) in
          closed k n (omega arith) (omega arith) e ∙ sym (lt-ltb k (passing (suc n)) (omega (arith, c)))

      some : (k < n → p k ≡ ltb k (passing n)) → p n ≡ false → p k ≡ ltb k (passing (suc n))
      some before e = rw (passing_no n e) (elim (dec_lt k n) [
        | yes q ↦ before q
        | no q ↦ let f : k ≡ n = omega arith in rw f (e ∙ sym (le-ltb n (passing n) (count_le n)))
      ])
