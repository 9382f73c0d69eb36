-- The literals of the code are the definitions' whole numbers.
use mathlib.Core.Path.{◌≡◌, refl}
use lib.Ieee.{binary64, of_bits}
use Rattle.floats.specs.Binary.{whole, open_floats}

pub literal_0 : of_bits binary64 0 ≡ whole 0
unfolding open_floats
literal_0 = refl

pub literal_1 : of_bits binary64 0x3ff0000000000000 ≡ whole 1
unfolding open_floats
literal_1 = refl

pub literal_4 : of_bits binary64 0x4010000000000000 ≡ whole 4
unfolding open_floats
literal_4 = refl

pub literal_8 : of_bits binary64 0x4020000000000000 ≡ whole 8
unfolding open_floats
literal_8 = refl
