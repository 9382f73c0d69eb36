-- Blocks of one shape have one wide radius, and so one wide kernel.
use Prim.Native.Nat.{ℕ, ◌≤◌}
use mathlib.Core.Path.{◌≡◌, refl, sym, ap, ap₂, ◌∙◌}
use mathlib.Core.Bool.{true}
use mathlib.Core.List.{List, []}
use lib.Ieee.{Float}
use Rattle.floats.specs.Binary.{whole, ◌⊕◌, ◌⊖◌, ◌⊗◌, absolute, greater}
use Rattle.grid.specs.declared.Row.{Row}
use Rattle.grid.specs.declared.Grid.{Grid}
use Rattle.grid.specs.Numbers.{radian}
use Rattle.grid.specs.Grid.{arc_km, centre_lat}
use Rattle.grid.specs.Map.{Globe, cosine_at, globe_of}
use Rattle.kernel.specs.Kernel.{kernel_of}
use Rattle.blocks.specs.declared.Block.{Block}
use Rattle.blocks.specs.Block.{probe, same_shape}
use Rattle.blocks.proofs.Shapes.{far_side, shape_north, shape_south, shape_row, shape_side}
use Rattle.bounds.specs.Bound.{slack_margin, slack_km, widened_by, wide_km}
use Rattle.bounds.specs.State.{wide_kernel}

-- the slack of a block by what it reads of it
abbrev slack_from : Globe → Row → Row → Row → ℕ → Float
slack_from s row north south side =
    let g = s.grid in
    let lat = centre_lat g row in
    let delta_lat = greater (absolute (centre_lat g north ⊖ lat)) (absolute (centre_lat g south ⊖ lat)) in
    let delta_lon = whole side ⊗ absolute g.lon_step in
    arc_km g (delta_lat ⊗ radian ⊕ delta_lon ⊗ radian ⊗ cosine_at s row) ⊗ slack_margin

slack_from_lem : (s : Globe) (b : Block) → slack_km s b ≡ slack_from s (probe b).row b.north b.south (far_side b)
unfolding slack_km
slack_from_lem s b = refl

module _ (s : Globe) (km : Float) (a b : Block) (e : same_shape a b ≡ true) (h : b.first.0 ≤ b.last.0) where
  same_slack : slack_km s a ≡ slack_km s b
  same_slack =
      slack_from_lem s a ∙ (λ i. slack_from s (shape_row a b e i) (shape_north a b e i) (shape_south a b e i) (shape_side a b e h i)) ∙ sym (slack_from_lem s b)

  same_wide : wide_km s km a ≡ wide_km s km b
  unfolding wide_km
  same_wide = ap (widened_by km) same_slack

  pub same_wide_kernel : wide_kernel s km a ≡ wide_kernel s km b
  unfolding wide_kernel
  same_wide_kernel = ap₂ (kernel_of s) (shape_row a b e) same_wide

-- no angle is read
pub wide_sheet : (g : Grid) (angles cosines : List Float) (km : Float) (b : Block) → wide_km (globe_of g [] cosines) km b ≡ wide_km (globe_of g angles cosines) km b
unfolding wide_km slack_km cosine_at
wide_sheet g angles cosines km b = refl
