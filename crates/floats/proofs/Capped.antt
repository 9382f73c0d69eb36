-- A number over a positive finite one, capped: the angle of a radius is of this form. It grows with the number.
use lib.Dec.{T}
use lib.Ieee.{Float, lt, le}
use Rattle.floats.specs.Binary.{◌⊘◌, finite, lesser}
use Rattle.floats.proofs.Round.{+0}
use Rattle.floats.proofs.Total.{number, le_number}
use Rattle.floats.proofs.Div.{div_mono}
use Rattle.floats.proofs.Pick.{lesser_mono}
use Rattle.floats.proofs.Number.{div_number}

module _ (c cap : Float) (C : T (finite c)) (P : T (lt +0 c)) (K : T (number cap)) where
  pub capped_mono : (x y : Float) → T (le x y) → T (le (lesser (x ⊘ c) cap) (lesser (y ⊘ c) cap))
  capped_mono x y h =
      lesser_mono (x ⊘ c) (y ⊘ c) cap
      (div_mono x y c h P (div_number x c (le_number x y h).0 C P) (div_number y c (le_number x y h).1 C P)) K
