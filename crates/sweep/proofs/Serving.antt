-- Kernels at hand: which blocks a wide one serves, and what of it is the block's.
use mathlib.Core.Path.{◌≡◌, ap, subst, ◌∙◌}
use mathlib.Core.Bool.{true}
use mathlib.Core.List.{List}
use mathlib.Core.Logic.{◌⊎◌, inl, inr}
use native.Mathlib.Omega.{arith}
use lib.Ieee.{Float}
use Rattle.grid.specs.declared.Row.{Row}
use Rattle.grid.specs.declared.Grid.{Grid}
use Rattle.grid.specs.Map.{Globe, globe_of}
use Rattle.kernel.specs.declared.Kernel.{Kernel}
use Rattle.kernel.specs.State.{KernelAt}
use Rattle.kernel.proofs.Placing.{kernel_km}
use Rattle.blocks.specs.declared.Block.{Block}
use Rattle.blocks.specs.Block.{probe, same_shape, Rectangle}
use Rattle.blocks.proofs.Shapes.{shape_north, shape_south}
use Rattle.bounds.specs.Bound.{wide_km}
use Rattle.bounds.specs.State.{wide_kernel}
use Rattle.bounds.proofs.Shaped.{same_wide_kernel}
use Rattle.levels.specs.State.{Serves}
use Rattle.chunk_work.specs.State.{no_shape}

-- ---- wide kernels

module _ (s : Globe) (km : Float) (b : Block) (k : Kernel) (is : k ≡ wide_kernel s km b) where
  pub wide_at : KernelAt s (probe b).row (wide_km s km b) k
  unfolding wide_kernel
  wide_at = is

  pub wide_radius_lem : k.km ≡ wide_km s km b
  wide_radius_lem = kernel_km s (probe b).row (wide_km s km b) k wide_at

module _ (g : Grid) (angles cosines : List Float) (km : Float) where
  -- any kernel serves the shape of no block
  pub serves_none : (shape : Block) → shape ≡ no_shape → (k : Kernel) → Serves g angles cosines km shape k
  unfolding no_shape
  serves_none shape s k b r e =
      let q = subst (λ (x : Block). same_shape x b ≡ true) s e in
      absurd (omega (arith, ap (λ (x : Row). x.0) (shape_north no_shape b q), ap (λ (x : Row). x.0) (shape_south no_shape b q), r.rows))

  -- a block's wide kernel serves its shape
  pub serves_own : (shape b : Block) (k : Kernel) → shape ≡ b → k ≡ wide_kernel (globe_of g angles cosines) km b → Serves g angles cosines km shape k
  serves_own shape b k s is x r e =
      is ∙ same_wide_kernel (globe_of g angles cosines) km b x (subst (λ (y : Block). same_shape y x ≡ true) s e) r.columns

  -- what is kept serves as before
  pub serves_still : (shape shape' : Block) (k k' : Kernel) → shape' ≡ shape → k' ≡ k → Serves g angles cosines km shape k → Serves g angles cosines km shape' k'
  serves_still shape shape' k k' s is served x r e = is ∙ served x r (subst (λ (y : Block). same_shape y x ≡ true) s e)

  -- the kernel at hand for a block: built for it, or kept where its shape is the one served
  pub wide_now : (b : Block) (r : Rectangle g b) (shape shape' : Block) (k k' : Kernel) → Serves g angles cosines km shape k
      → ((shape' ≡ b) × (k' ≡ wide_kernel (globe_of g angles cosines) km b)) ⊎ ((same_shape shape b ≡ true) × (shape' ≡ shape) × (k' ≡ k))
      → (k' ≡ wide_kernel (globe_of g angles cosines) km b) × Serves g angles cosines km shape' k'
  wide_now b r shape shape' k k' served (inl built) = (built.1, serves_own shape' b k' built.0 built.1)
  wide_now b r shape shape' k k' served (inr kept) =
      (kept.2 ∙ served b r kept.0, serves_still shape shape' k k' kept.1 kept.2 served)
