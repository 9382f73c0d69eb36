-- The angle of a radius grows with the radius, up to half a turn at the ceiling.
use Prim.Native.Nat.{ℕ, ◌≤◌}
use mathlib.Core.Path.{◌≡◌, refl}
use lib.Dec.{T}
use lib.Ieee.{Float, of_bits, lt, le}
use Rattle.floats.specs.Binary.{open_floats, finite, whole}
use Rattle.floats.proofs.Whole.{whole_le}
use Rattle.floats.proofs.Capped.{capped_mono}
use Rattle.grid.specs.declared.Grid.{Grid}
use Rattle.grid.specs.Numbers.{earth, π}
use Rattle.grid.specs.Grid.{body_radius, ceiling, angle_of}

pub angle_mono : (g : Grid) (x y : Float) → T (le x y) → T (le (angle_of g x) (angle_of g y))
unfolding angle_of body_radius finite of_bits lt
angle_mono g x y h = capped_mono earth π tt tt tt x y h

pub angle_whole : (g : Grid) (n k : ℕ) → n ≤ k → T (le (angle_of g (whole n)) (angle_of g (whole k)))
angle_whole g n k h = angle_mono g (whole n) (whole k) (whole_le n k h)

pub angle_ceiling : (g : Grid) → angle_of g (whole (ceiling g)) ≡ π
unfolding open_floats angle_of body_radius ceiling
angle_ceiling g = refl
