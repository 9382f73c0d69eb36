-- Facts of the definitions that are computed, one for each case of `next_up`, `absolute`, `greater` and `lesser`.
use mathlib.Core.Path.{◌≡◌, refl}
use mathlib.Core.Bool.{true, false}
use lib.Ieee.{nan, inf, binary64, neg, to_bits, of_bits}
use Rattle.floats.specs.Binary.{open_floats, whole, decimal, ◌⊕◌, absolute, greater, lesser, next_up}

pub record Computed : Type 0 where
  pub next_of_zero : to_bits binary64 (next_up (whole 0)) ≡ 1
  pub next_of_minus_zero : to_bits binary64 (next_up (of_bits binary64 0x8000000000000000)) ≡ 1
  pub next_of_one : to_bits binary64 (next_up (whole 1)) ≡ 0x3ff0000000000001
  pub next_of_minus_one : to_bits binary64 (next_up (neg (whole 1))) ≡ 0xbfefffffffffffff
  pub next_of_2^53 : to_bits binary64 (next_up (whole 9007199254740992)) ≡ 0x4340000000000001
  pub next_of_smallest_below : next_up (of_bits binary64 0x8000000000000001) ≡ of_bits binary64 0x8000000000000000
  pub next_of_largest : next_up (of_bits binary64 0x7fefffffffffffff) ≡ inf false
  pub next_of_infinity : next_up (inf false) ≡ inf false
  pub next_of_minus_infinity : to_bits binary64 (next_up (inf true)) ≡ 0xffefffffffffffff
  pub next_of_nan : next_up nan ≡ nan
  pub absolute_minus_zero : absolute (of_bits binary64 0x8000000000000000) ≡ whole 0
  pub absolute_minus_one : absolute (neg (whole 1)) ≡ whole 1
  pub greater_of_zeros : greater (whole 0) (neg (whole 0)) ≡ whole 0
  pub greater_of_two : greater (whole 1) (whole 2) ≡ whole 2
  pub lesser_of_two : lesser (whole 2) (whole 1) ≡ whole 1
  pub whole_rounds : to_bits binary64 (whole 9007199254740993) ≡ 0x4340000000000000
  pub decimal_tenth : to_bits binary64 (decimal 1 1) ≡ 0x3fb999999999999a
  pub decimal_sum : to_bits binary64 (decimal 1 1 ⊕ decimal 2 1) ≡ 0x3fd3333333333334

pub computed : Computed
unfolding open_floats
computed = record {
  next_of_zero = refl;
  next_of_minus_zero = refl;
  next_of_one = refl;
  next_of_minus_one = refl;
  next_of_2^53 = refl;
  next_of_smallest_below = refl;
  next_of_largest = refl;
  next_of_infinity = refl;
  next_of_minus_infinity = refl;
  next_of_nan = refl;
  absolute_minus_zero = refl;
  absolute_minus_one = refl;
  greater_of_zeros = refl;
  greater_of_two = refl;
  lesser_of_two = refl;
  whole_rounds = refl;
  decimal_tenth = refl;
  decimal_sum = refl;
}
