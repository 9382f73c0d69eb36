-- Binary64: the operators, whole numbers, and the few operations that the Rust has beyond the operators. The operators are abbreviations of
-- what a program's code means, so that a contract that cites them needs no proof of its own.
use Rattle.std.specs.Prelude.{ℕ, ◌+◌, ◌-◌, ◌^◌, Bool, true, false, cond, pos, Float}
use Rattle.std.specs.Float.{nan, inf, fin, binary64}
use Rattle.std.specs.Float.Ieee.{round, add, sub, mul, div, lt, le, eq, of_int, of_bits, to_bits}

-- the decimal n / 10 ^ k, as a program's literal has it: the nearest binary64
unfoldable pub decimal : ℕ → ℕ → Float
decimal n k = round binary64 false n (10 ^ k)

-- a whole number, as a cast gives it
abbrev pub whole : ℕ → Float
whole n = of_int binary64 (pos n)

-- the operators, each rounded to the nearest value
infixl 65 ◌⊕◌ ◌⊖◌
infixl 70 ◌⊗◌ ◌⊘◌
abbrev pub ◌⊕◌ : Float → Float → Float
x ⊕ y = add binary64 x y

abbrev pub ◌⊖◌ : Float → Float → Float
x ⊖ y = sub binary64 x y

abbrev pub ◌⊗◌ : Float → Float → Float
x ⊗ y = mul binary64 x y

abbrev pub ◌⊘◌ : Float → Float → Float
x ⊘ y = div binary64 x y

-- neither NaN nor infinite
unfoldable pub finite : Float → Bool
finite nan = false
finite (inf s) = false
finite (fin s m e) = true

-- IEEE 754's abs: the sign cleared
unfoldable pub absolute : Float → Float
absolute nan = nan
absolute (inf s) = inf false
absolute (fin s m e) = fin false m e

-- of two numbers the greater, the first where they are equal; and the lesser
unfoldable pub greater : Float → Float → Float
greater x y = cond (lt x y) y x

unfoldable pub lesser : Float → Float → Float
lesser x y = cond (lt y x) y x

-- one more in the bits of a value above 0, one less in those of a value below 0
unfoldable pub next_bits : Bool → ℕ → ℕ
next_bits negative bits = cond negative (bits - 1) (bits + 1)

-- IEEE 754's nextUp: the least value that compares greater. After either zero comes the smallest value above 0, whose bits are 1.
unfoldable pub next_up : Float → Float
next_up nan = nan
next_up (inf false) = inf false
next_up (inf true) = of_bits binary64 (next_bits true (to_bits binary64 (inf true)))
next_up (fin s m e) =
    let x = fin s m e in
    let zero = eq x (of_bits binary64 0) in
    cond zero (of_bits binary64 1) (of_bits binary64 (next_bits s (to_bits binary64 x)))

-- opens all of the above, for facts that are computed
unfoldable pub open_floats : Unit {0}
unfolding decimal round add sub mul div of_int of_bits to_bits finite absolute greater lesser next_bits next_up lt le eq
open_floats = tt
