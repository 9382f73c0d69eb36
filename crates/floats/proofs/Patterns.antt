-- The value of a NaN's pattern.
use Prim.Native.Nat.{ℕ}
use mathlib.Core.Path.{◌≡◌, refl, sym, ◌∙◌}
use mathlib.Core.Bool.{true, false}
use lib.Ieee.{Float, nan, inf, fin, binary64, is_nan, of_bits, nan_bits}
use lib.Ieee.Bits.{nan_bits_is}
use Rattle.lists.proofs.Bools.{of_true}

nan_only : (x : Float) → is_nan x ≡ true → nan ≡ x
unfolding is_nan
nan_only nan h = refl
nan_only (inf s) h = absurd (of_true false h)
nan_only (fin s m e) h = absurd (of_true false h)

pub nan_of : (bits : ℕ) → nan_bits binary64 bits ≡ true → nan ≡ of_bits binary64 bits
nan_of bits h = nan_only (of_bits binary64 bits) (sym (nan_bits_is binary64 bits) ∙ h)
