-- The one float that is not a number has these bits.
use Rattle.std.proofs.Common.{◌≡◌, true, Float, refl, rules}
use Rattle.std.specs.Float.{binary64}
use lib.Ieee.{nan, inf, fin, is_nan, to_bits}
use Rattle.test_lines.proofs.numbers.bits_of.Goals as goal

bits_of_nan : (x : Float) → is_nan x ≡ true → 0x7ff8000000000000 ≡ to_bits binary64 x
unfolding is_nan to_bits
bits_of_nan nan e = refl
bits_of_nan (inf s) e = cc
bits_of_nan (fin s m k) e = cc

pub returns-then-is_nan : goal.returns-then-is_nan
returns-then-is_nan c = bits_of_nan c.args.x (search rules)
