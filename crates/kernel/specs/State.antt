-- Kernels at hand, and where the runs of rows end on the way to one.
use Rattle.std.specs.Prelude.{ℕ, ◌-◌, ◌≡◌, List, get_or, Float}
use Rattle.floats.specs.Binary.{whole}
use Rattle.grid.specs.declared.Row.{Row}
use Rattle.grid.specs.Map.{Globe}
use Rattle.reach.specs.Reach.{row_places}
use Rattle.kernel.specs.declared.Kernel.{Kernel}
use Rattle.kernel.specs.Kernel.{run_end, kernel_of}

-- a kernel is that of a row and a radius
abbrev pub KernelAt : Globe → Row → Float → Kernel → Type 0
KernelAt s row km k = k ≡ kernel_of s row km

-- a kernel by its rows alone: nothing else of it counts for its people
abbrev pub rows_only : Kernel → Kernel
rows_only k = record { row = k.north; km = whole 0; north = k.north; end = k.end; reach = k.reach; run = k.run }

-- where the run of a row ends
abbrev pub run_in : List ℕ → ℕ → ℕ
run_in reaches row = run_end (λ r. get_or reaches r 0) (row_places - row) row
