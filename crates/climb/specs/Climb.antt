-- The climb and the bisection over whole kilometres, for any probe: neither floats nor the ledger stand here.
use Rattle.std.specs.Prelude.{ℕ, zero, suc, ◌+◌, ◌-◌, ◌*◌, ◌/◌, Bool, cond, List, [], ◌∷◌, ltb}
use Rattle.grid.specs.declared.Grid.{Grid}
use Rattle.grid.specs.Grid.{ceiling}
use Rattle.grid.specs.Numbers.{earth_ceiling}

-- km, then twice that, while below the cap, and then the cap; at most fuel doublings
unfoldable pub doublings : ℕ → ℕ → ℕ → List ℕ
doublings zero cap km = cap ∷ []
doublings (suc fuel) cap km =
    let more : List ℕ = km ∷ doublings fuel cap (2 * km) in
    cond (ltb km cap) more (cap ∷ [])

-- 1, 2, 4 .. and last the cap, which is below 2 ^ 15
unfoldable pub climb_radii : ℕ → List ℕ
climb_radii cap = doublings 15 cap 1

-- the last radius of a climb on the grid, the kilometre below the ceiling: the ceiling is not probed, since every circle there is the whole grid
unfoldable pub last_radius : Grid → ℕ
last_radius g = ceiling g - 1

-- the largest cap, the kilometre below the Earth's ceiling: no body is larger
abbrev pub most_cap : ℕ
most_cap = earth_ceiling - 1

-- where a run ends, S being its state and F what a probe finds: all radii short, or at a radius that reached, with what was found there
pub data Ended (S F : Type 0) : Type 0 where
  all_short : S → Ended S F
  reached_at : S → ℕ → F → Ended S F

module _ {S F : Type 0} (probed : S → ℕ → S) (latest : S → F) (reaches : F → Bool) where
  -- from low up to high, which reached with what is given; middles rounded down; at most fuel probes
  unfoldable pub bisect : ℕ → S → ℕ → ℕ → F → Ended S F
  bisect zero s low high found = reached_at s high found
  bisect (suc fuel) s low high found =
      let mid = low + (high - low) / 2 in
      let next = probed s mid in
      let lower = bisect fuel next low mid (latest next) in
      let upper = bisect fuel next (mid + 1) high found in
      let more = cond (reaches (latest next)) lower upper in
      cond (ltb low high) more (reached_at s high found)

  -- the radii in turn until one reaches; then bisect from the last short + 1 (0 if none)
  unfoldable pub climb : S → ℕ → List ℕ → Ended S F
  climb s low [] = all_short s
  climb s low (km ∷ kms) =
      let next = probed s km in
      let closed = bisect 15 next low km (latest next) in
      let further = climb next (km + 1) kms in
      cond (reaches (latest next)) closed further

-- the most radii that a climb and a bisection take: 15 up to 16,384 km and 13 halvings of the 8,192 radii from 8,193 on, or 16 up to 20,015 km
-- and 12 halvings of the 3,631 radii from 16,385 on
abbrev pub most_radii : ℕ
most_radii = 28

-- opens all of the above, for facts that are computed
unfoldable pub open_climbs : Unit {0}
unfolding last_radius doublings climb_radii bisect climb
open_climbs = tt
