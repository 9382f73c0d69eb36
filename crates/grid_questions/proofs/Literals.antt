-- The literals of the code are the definitions' whole numbers.
use mathlib.Core.Path.{◌≡◌, refl, ap}
use mathlib.Core.Bool.{not}
use lib.Ieee.{Float, binary64, eq, ne, of_bits}
use Rattle.floats.specs.Binary.{whole, open_floats}
use Rattle.floats.proofs.Literals.{literal_0}

pub literal_90 : of_bits binary64 0x4056800000000000 ≡ whole 90
unfolding open_floats
literal_90 = refl

pub literal_360 : of_bits binary64 0x4076800000000000 ≡ whole 360
unfolding open_floats
literal_360 = refl

-- the code's test by the definition's
pub not_zero : (x : Float) → ne x (of_bits binary64 0) ≡ not (eq x (whole 0))
unfolding ne
not_zero x = ap (λ z. not (eq x z)) literal_0
