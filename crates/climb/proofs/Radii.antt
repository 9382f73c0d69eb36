-- The radii of the climb, for any cap from 1 to the largest: each leaves a bracket that few halvings close, and the last is the cap.
use Prim.Native.Nat.{ℕ, zero, suc, ◌+◌, ◌-◌, ◌*◌, ◌^◌, ◌≤◌, ◌<◌}
use mathlib.Core.Path.{◌≡◌, refl}
use mathlib.Core.List.{List, [], ◌∷◌}
use native.Mathlib.Omega.{arith}
use native.Mathlib.Nat.{two-pow-succ, one-le-pow}
use lib.Dec.{ltb}
use borrow.Author.Tests.{ltb-true, ltb-false}
use Rattle.lists.proofs.Bools.{cond_case}
use Rattle.grid.specs.declared.Grid.{Grid}
use Rattle.grid.specs.Grid.{ceiling}
use Rattle.grid.proofs.Body.{ceiling_least, ceiling_most}
use Rattle.climb.specs.Climb.{last_radius, most_cap, most_radii, doublings, climb_radii}

-- ---- the last radius of a climb on a grid

module _ (g : Grid) where
  pub last_below : last_radius g + 1 ≡ ceiling g
  unfolding last_radius
  last_below = omega (arith, ceiling_least g)

  pub last_least : 1 ≤ last_radius g
  last_least = omega (arith, last_below, ceiling_least g)

  pub last_most : last_radius g ≤ most_cap
  last_most = omega (arith, last_below, ceiling_most g)

-- ---- the radii up to it, or to any cap

-- a bracket of that width is closed by so many halvings, within 15 and within the most radii in all, n of them gone
pub record Closes (n width : ℕ) : Type 0 where
  pub halvings : ℕ
  pub fuel : halvings ≤ 15
  pub few : n + halvings ≤ most_radii
  pub enough : width < 2 ^ halvings

-- from n probes gone, the last of them one kilometre below `low`: each radius leaves a bracket that closes, and the last radius is the cap
abbrev pub Steps : ℕ → ℕ → ℕ → List ℕ → Type 0
Steps cap n low [] = (low ≡ cap + 1) × (n ≤ most_radii)
Steps cap n low (km ∷ kms) = (low ≤ km) × (km ≤ cap) × Closes (suc n) (km - low) × Steps cap (suc n) (km + 1) kms

steps_from : (cap fuel n : ℕ) → fuel + n ≡ 14 → 2 ^ n + 1 ≤ cap → cap ≤ most_cap → Steps cap (suc n) (2 ^ n + 1) (doublings fuel cap (2 ^ suc n))
unfolding doublings
steps_from cap zero n e l h =
    let k : n ≡ 14 = omega arith in
    let low : 2 ^ 14 + 1 ≤ cap = rw k at l in
    rw k
    (low, omega arith, record { halvings = 12; fuel = omega arith; few = omega arith; enough = omega arith }, (refl, omega arith))
steps_from cap (suc fuel) n e l h =
    let p = two-pow-succ n in
    let one : 1 ≤ 2 ^ n = one-le-pow n 2 (omega arith) in
    let double : 2 * 2 ^ suc n ≡ 2 ^ suc (suc n) = omega (arith, two-pow-succ (suc n)) in
    cond_case (Steps cap (suc n) (2 ^ n + 1)) (ltb (2 ^ suc n) cap) _ _
    (λ t.
    let u = ltb-true (2 ^ suc n) cap t in (
      omega arith,
      omega arith,
      record { halvings = n; fuel = omega arith; few = omega arith; enough = omega arith },
      rw double (steps_from cap fuel (suc n) (omega arith) (omega arith) h),
    ))
    (λ t.
    let u = ltb-false (2 ^ suc n) cap t in
    (omega arith, omega arith, record { halvings = n; fuel = omega arith; few = omega arith; enough = omega arith }, (refl, omega arith)))

pub climb_steps : (cap : ℕ) → 1 ≤ cap → cap ≤ most_cap → Steps cap 0 0 (climb_radii cap)
unfolding climb_radii doublings
climb_steps cap l h =
    cond_case (Steps cap 0 0) (ltb 1 cap) _ _
    (λ t.
    let u = ltb-true 1 cap t in
    (omega arith, l, record { halvings = 1; fuel = omega arith; few = omega arith; enough = omega arith }, steps_from cap 14 0 refl (omega arith) h))
    (λ t.
    let u = ltb-false 1 cap t in
    (omega arith, omega arith, record { halvings = 1; fuel = omega arith; few = omega arith; enough = omega arith }, (refl, omega arith)))
