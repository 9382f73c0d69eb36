-- `absolute` is the library's, the sign cleared; and as a choice by comparisons with zero, the form that code without the library has.
use Prim.Native.Nat.{ℕ, zero, suc, ◌+◌, ◌*◌, ◌^◌, ◌<◌}
use mathlib.Core.Path.{◌≡◌, refl, sym, ◌∙◌}
use mathlib.Core.Bool.{Bool, true, false, cond}
use native.Mathlib.Omega.{arith}
use native.Mathlib.Nat.{zero-mul, mul-one, one-mul, mul-pos, two-pow-succ, zero-lt-suc}
use lib.IntN.{ℤ, pos, negsuc}
use lib.Dec.{T, eqb→eq}
use lib.Pow.{pow_pos}
use lib.Ieee.{Float, nan, inf, fin, binary64, up, down, fits, lt, eq, neg, of_bits}
use lib.Ieee.Fits.{up_pos}
use borrow.Author.Tests.{lt-ltb, le-ltb, ne_eqb}
use Rattle.std.specs.Float.{float_with_sign}
use Rattle.floats.specs.Binary.{absolute}
use Rattle.floats.proofs.Round.{+0, zero_bits}

pub unsigned_is : (x : Float) → float_with_sign false x ≡ absolute x
unfolding float_with_sign absolute
unsigned_is nan = refl
unsigned_is (inf s) = refl
unsigned_is (fin s m e) = refl

-- ---- by comparisons

not_one : (k : ℕ) → 2 ^ suc k ≡ 1 → ⊥
not_one k h = omega (arith, two-pow-succ k, pow_pos k)

-- a zero that fits has the exponent 0
pub zero_exponent : (s : Bool) (e : ℤ) → T (fits binary64 (fin s 0 e)) → e ≡ pos 0
unfolding fits
zero_exponent s (pos zero) h = refl
zero_exponent s (pos (suc k)) h = absurd (not_one k (sym (mul-one (2 ^ suc k)) ∙ eqb→eq (2 ^ suc k * 1) 1 h))
zero_exponent s (negsuc k) h = absurd (not_one k (sym (one-mul (2 ^ suc k)) ∙ eqb→eq (1 * 2 ^ suc k) 1 h))

-- the sizes that a comparison of a nonzero value with zero has
above : (m : ℕ) (e : ℤ) → 0 * down e < suc m * up e * 1
above m e = omega (arith, zero-mul (down e), mul-one (suc m * up e), mul-pos (zero-lt-suc m) (up_pos e))

by_zero : (x : Float) → T (fits binary64 x) → absolute x ≡ cond (lt x +0) (neg x) (cond (eq x +0) +0 x)
unfolding absolute lt eq neg
by_zero nan F = refl
by_zero (inf true) F = refl
by_zero (inf false) F = refl
by_zero (fin true zero e) F = rw (zero_exponent true e F)
by_zero (fin false zero e) F = rw (zero_exponent false e F)
by_zero (fin true (suc m) e) F = rw (lt-ltb 0 (suc m * up e * 1 + 0 * down e) (omega (arith, above m e)))
by_zero (fin false (suc m) e) F =
    let a = above m e in
    rw (le-ltb (suc m * up e * 1) (0 * down e) (omega arith), ne_eqb (suc m * up e * 1) (0 * down e) (λ z. omega arith))

-- at every value that fits, -0.0, `nan` and the infinities included
pub absolute_is : (x : Float) → T (fits binary64 x) → absolute x ≡ cond (lt x (of_bits binary64 0)) (neg x) (cond (eq x (of_bits binary64 0)) (of_bits binary64 0) x)
absolute_is x F = rw zero_bits (by_zero x F)
