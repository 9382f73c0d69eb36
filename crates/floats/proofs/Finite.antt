-- `finite` is the library's test, and two comparisons with the infinities; what passes it is a number.
use mathlib.Core.Path.{◌≡◌, refl}
use mathlib.Core.Bool.{true, false, ◌&&◌}
use lib.Dec.{T}
use lib.Ieee.{Float, nan, inf, fin, lt}
use Rattle.std.specs.Float.{float_is_finite}
use Rattle.floats.specs.Binary.{finite}
use Rattle.floats.proofs.Total.{number}

pub finite_is : (x : Float) → float_is_finite x ≡ finite x
unfolding float_is_finite finite
finite_is nan = refl
finite_is (inf s) = refl
finite_is (fin s m e) = refl

pub finite_within : (x : Float) → finite x ≡ (lt x (inf false) && lt (inf true) x)
unfolding finite lt
finite_within nan = refl
finite_within (inf true) = refl
finite_within (inf false) = refl
finite_within (fin s m e) = refl

pub finite_number : (x : Float) → T (finite x) → T (number x)
unfolding finite
finite_number nan h = h
finite_number (inf s) h = absurd h
finite_number (fin s m e) h = tt
