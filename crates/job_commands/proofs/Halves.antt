-- Numbers of several bytes, by their halves, and of bytes from a place on.
use Prim.Native.Nat.{ℕ, suc, ◌+◌, ◌*◌, ◌≤◌, ◌<◌}
use mathlib.Core.Path.{◌≡◌, refl, ◌∙◌, ap}
use mathlib.Core.List.{List}
use native.Mathlib.Omega.{arith}
use native.Mathlib.Numerals.{add-one}
use lib.Ieee.{binary64, of_bits}
use lib.ListN.{length, drop, get_or}
use lib.Seq.{drop-cons, drop-drop}
use Rattle.job_commands.specs.Command.{little, number, float}
use Rattle.job_commands.proofs.Numbers.{number_one}

module _ (bs : List ℕ) where
  -- the byte at the place, and the number behind it
  number_more : (p k : ℕ) → p < length bs → number p (suc k) bs ≡ get_or bs p 0 + 256 * number (p + 1) k bs
  unfolding number little
  number_more p k h = rw (add-one p, drop-cons bs p 0 h)

  number_front : (p k : ℕ) → p < length bs → number p (suc k) bs ≡ number p 1 bs + 256 * number (p + 1) k bs
  number_front p k h = omega (arith, number_more p k h, number_one bs p h)

  pub number_two_halves : (p : ℕ) → p + 2 ≤ length bs → number p 2 bs ≡ number p 1 bs + 256 * number (p + 1) 1 bs
  number_two_halves p h = number_front p 1 (omega arith)

  number_pair : (p k : ℕ) → p + 2 ≤ length bs → number p (suc (suc k)) bs ≡ number p 2 bs + 65536 * number (p + 2) k bs
  number_pair p k h =
      let q : p + 1 + 1 ≡ p + 2 = omega arith in
      let far : number (p + 1) (suc k) bs ≡ number (p + 1) 1 bs + 256 * number (p + 2) k bs
      = number_front (p + 1) k (omega arith) ∙ ap (λ (n : ℕ). number (p + 1) 1 bs + 256 * number n k bs) q in
      omega (arith, number_front p (suc k) (omega arith), far, number_two_halves p h)

  pub number_four_halves : (p : ℕ) → p + 4 ≤ length bs → number p 4 bs ≡ number p 2 bs + 65536 * number (p + 2) 2 bs
  number_four_halves p h = number_pair p 2 (omega arith)

  pub number_eight_halves : (p : ℕ) → p + 8 ≤ length bs → number p 8 bs ≡ number p 4 bs + 4294967296 * number (p + 4) 4 bs
  number_eight_halves p h =
      let q : p + 2 + 2 ≡ p + 4 = omega arith in
      let far : number (p + 2) 6 bs ≡ number (p + 2) 2 bs + 65536 * number (p + 4) 4 bs
      = number_pair (p + 2) 4 (omega arith) ∙ ap (λ (n : ℕ). number (p + 2) 2 bs + 65536 * number n 4 bs) q in
      omega (arith, number_pair p 6 (omega arith), far, number_four_halves p (omega arith))

  pub number_here : (from k : ℕ) → number 0 k (drop from bs) ≡ number from k bs
  unfolding number
  number_here from k = refl

  -- a place behind another
  pub number_drop : (from p k : ℕ) → number p k (drop from bs) ≡ number (from + p) k bs
  unfolding number
  number_drop from p k = rw drop-drop

  pub float_drop : (from p : ℕ) → float p (drop from bs) ≡ float (from + p) bs
  unfolding float
  float_drop from p = ap (of_bits binary64) (number_drop from p 8)
