-- The ring of four cells of SPECIFICATION, section 9.
use Rattle.std.specs.Prelude.{[], ◌∷◌, false, true, pos}
use Rattle.std.specs.Float.{fin}
use Rattle.floats.specs.Binary.{whole, decimal}
use Rattle.grid.specs.Map.{Map, Globe}

-- G 4 1 45.0 90.0 -90.0, offset 1 a quarter turn, offset 2 half a turn, cosine 1
unfoldable pub ring_globe : Globe
ring_globe =
    record {
      grid = record {
        width = 4;
        height = 1;
        origin_lat = fin false 45 (pos 0);
        lon_step = fin false 45 (pos 1);
        lat_step = fin true 45 (pos 1);
      };
      angles = whole 0 ∷ decimal 15707963267948966 16 ∷ decimal 3141592653589793 15 ∷ [];
      cosines = whole 1 ∷ [];
    }

-- 5, 1, 7 and 3 people
unfoldable pub ring : Map
ring = record { globe = ring_globe; counts = 5 ∷ 1 ∷ 7 ∷ 3 ∷ [] }

-- the same with nobody in it
unfoldable pub empty_ring : Map
empty_ring = record { globe = ring_globe; counts = 0 ∷ 0 ∷ 0 ∷ 0 ∷ [] }

-- opens all of the above, for facts that are computed
unfoldable pub open_rings : Unit {0}
unfolding ring_globe ring empty_ring
open_rings = tt
