-- The wide circle of a block as code holds it.
use Rattle.std.specs.Prelude.{Float}
use Rattle.grid.specs.Map.{Globe}
use Rattle.kernel.specs.declared.Kernel.{Kernel}
use Rattle.kernel.specs.Kernel.{kernel_of}
use Rattle.blocks.specs.declared.Block.{Block}
use Rattle.blocks.specs.Block.{probe}
use Rattle.bounds.specs.Bound.{wide_km}

-- the kernel of a block's wide circle
unfoldable pub wide_kernel : Globe → Float → Block → Kernel
wide_kernel s km b = kernel_of s (probe b).row (wide_km s km b)
