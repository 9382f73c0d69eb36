-- Fairness: on a fair globe a block's bound is at least the population of each of its cells' circles, at every radius up to the ceiling.
use Prim.Native.Nat.{ℕ, zero, suc, ◌≤◌, zero-le}
use mathlib.Core.Path.{◌≡◌}
use native.Mathlib.Decide.{dec_lt}
use native.Mathlib.Omega.{arith}
use Rattle.floats.specs.Binary.{whole}
use Rattle.grid.specs.Grid.{ceiling}
use Rattle.grid.specs.Map.{Map}
use Rattle.grid.proofs.SheetOrder.{InOrder}
use Rattle.circle_cells.proofs.Populations.{population_zero}
use Rattle.kernel.proofs.Populations.{population_total}
use Rattle.bounds.specs.Fair.{Fair}
use Rattle.bounds.proofs.Bounds.{Bounded, inside_bounded}
use Rattle.bounds.proofs.Wide.{bound_ceiling}

-- radius 0 and the ceiling need no fairness
pub fair_bounded : (m : Map) → InOrder m.globe → Fair m.globe → (km : ℕ) → km ≤ ceiling m.globe.grid → Bounded m (whole km)
fair_bounded m q fair zero l b o x h = rw (population_zero m x) zero-le
fair_bounded m q fair (suc km) l b o x h = elim (dec_lt (suc km) (ceiling m.globe.grid)) [
  | yes p ↦ inside_bounded m (whole (suc km)) (fair (suc km) (omega arith) p) b o x h
  | no p ↦
      let e : suc km ≡ ceiling m.globe.grid = omega arith in
      rw (e, bound_ceiling m q b o) (population_total m (whole (ceiling m.globe.grid)) x)
]
