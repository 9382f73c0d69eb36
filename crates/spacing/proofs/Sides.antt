-- The widest side that fits, as the code finds it: what is left to halve gives the whole's answer.
use Prim.Native.Nat.{ℕ, zero, suc, ◌+◌, ◌-◌, ◌/◌, ◌%◌, ◌≤◌, ◌<◌}
use mathlib.Core.Path.{◌≡◌, refl, sym, ap, ap₂, ◌∙◌}
use mathlib.Core.Bool.{true, false, cond}
use native.Mathlib.Omega.{arith}
use lib.Ieee.{Float}
use lib.Dec.{ltb}
use borrow.Author.Tests.{lt-ltb, le-ltb}
use Rattle.grid.specs.declared.Grid.{Grid}
use Rattle.spacing.specs.Spacing.{side_fits, widest_side}

module _ (g : Grid) (km : Float) where
  -- enough fuel is as good as more
  widest_fuel : (f f' low high : ℕ) → high ≤ f + low → high ≤ f' + low → widest_side f g km low high ≡ widest_side f' g km low high
  unfolding widest_side
  widest_fuel zero zero low high h h' = refl
  widest_fuel zero (suc f') low high h h' = rw (le-ltb low high (omega arith))
  widest_fuel (suc f) zero low high h h' = rw (le-ltb low high (omega arith))
  widest_fuel (suc f) (suc f') low high h h' =
      let distance = high - low in
      let mid = low + distance / 2 + distance % 2 in
      ap₂ (λ (a b : ℕ). cond (ltb low high) (cond (side_fits g km mid) a b) low) (widest_fuel f f' mid high (omega arith) (omega arith))
      (widest_fuel f f' low (mid - 1) (omega arith) (omega arith))

  -- the widest side from low to high
  abbrev pub widest : ℕ → ℕ → ℕ
  widest low high = widest_side (high - low) g km low high

  pub widest_whole : (longest : ℕ) → widest 1 longest ≡ widest_side longest g km 1 longest
  widest_whole longest = widest_fuel (longest - 1) longest 1 longest (omega arith) (omega arith)

  pub widest_none : (low high : ℕ) → high ≤ low → widest low high ≡ low
  unfolding widest_side
  widest_none low high h = let e : high - low ≡ 0 = omega arith in rw e

  module _ (low high mid : ℕ) (h : low < high) (m : mid ≡ low + (high - low) / 2 + (high - low) % 2) where
    halved : widest low high ≡ cond (side_fits g km mid) (widest mid high) (widest low (mid - 1))
    unfolding widest_side
    halved =
        let fuel = high - low - 1 in
        let k : high - low ≡ suc fuel = omega arith in
        ap (λ (f : ℕ). widest_side f g km low high) k
        ∙ rw (lt-ltb low high h, ← m)
        (ap₂ (λ (a b : ℕ). cond (side_fits g km mid) a b) (widest_fuel fuel (high - mid) mid high (omega arith) (omega arith))
        (widest_fuel fuel (mid - 1 - low) low (mid - 1) (omega arith) (omega arith)))

    pub widest_up : side_fits g km mid ≡ true → widest mid high ≡ widest low high
    widest_up e = sym (halved ∙ rw e)

    pub widest_down : side_fits g km mid ≡ false → widest low (mid - 1) ≡ widest low high
    widest_down e = sym (halved ∙ rw e)

pub ruleset halving = (widest_whole, widest_none, widest_up, widest_down)
