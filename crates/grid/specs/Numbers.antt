-- The constants of SPECIFICATION, section 1.6, by their bits, each tied to its decimal.
use Rattle.std.specs.Prelude.{ℕ, ◌≡◌, refl, false, pos, negsuc, Float}
use Rattle.std.specs.Float.{fin, binary64}
use Rattle.std.specs.Float.Ieee.{of_bits}
use Rattle.floats.specs.Binary.{decimal, open_floats}

-- the Earth's mean radius in kilometres (IUGG), 6371.0088
abbrev pub earth : Float
earth = of_bits binary64 0x40b8e30240b78034

-- the first whole kilometre at which every circle on the Earth is the whole grid
abbrev pub earth_ceiling : ℕ
earth_ceiling = 20016

-- half a turn, 3.141592653589793
abbrev pub π : Float
π = of_bits binary64 0x400921fb54442d18

-- a degree in radians, 0.017453292519943295
abbrev pub radian : Float
radian = of_bits binary64 0x3f91df46a2529d39

-- 1e-9
abbrev pub nano : Float
nano = of_bits binary64 0x3e112e0be826d695

-- 2 ^ -52, the Rust's EPSILON
abbrev pub ε : Float
ε = of_bits binary64 0x3cb0000000000000

-- the Rust's MAX, (2 ^ 53 - 1) × 2 ^ 971
abbrev pub largest : Float
largest = of_bits binary64 0x7fefffffffffffff

-- 0.5
abbrev pub ½ : Float
½ = of_bits binary64 0x3fe0000000000000

pub record Decimals : Type 0 where
  pub earth_is : earth ≡ decimal 63710088 4
  pub π-is : π ≡ decimal 3141592653589793 15
  pub radian_is : radian ≡ decimal 17453292519943295 18
  pub nano_is : nano ≡ decimal 1 9
  pub ε-is : ε ≡ fin false 1 (negsuc 51)
  pub largest_is : largest ≡ fin false 9007199254740991 (pos 971)
  pub ½-is : ½ ≡ decimal 5 1

pub decimals : Decimals
unfolding open_floats
decimals = record { earth_is = refl; π-is = refl; radian_is = refl; nano_is = refl; ε-is = refl; largest_is = refl; ½-is = refl }
