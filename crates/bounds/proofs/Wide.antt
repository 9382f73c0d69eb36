-- Wide circles: a widened radius is no less than the radius and grows with it, so from the ceiling on a block's bound is all people.
use Prim.Native.Nat.{ℕ, ◌^◌, ◌≤◌, ◌<◌}
use mathlib.Core.Path.{◌≡◌, refl}
use mathlib.Core.Bool.{Bool, true, false, cond}
use native.Mathlib.Omega.{arith}
use lib.IntN.{pos}
use lib.Dec.{T}
use lib.Ieee.{Float, nan, inf, fin, binary64, of_bits, le, fits}
use lib.Ieee.Fits.{add-fits, of_int-fits}
use lib.Ieee.Exact.{HasValue}
use Rattle.floats.specs.Binary.{whole, finite, greater, ◌⊕◌}
use Rattle.floats.proofs.Round.{+0}
use Rattle.floats.proofs.Total as float
use Rattle.floats.proofs.Add.{add_mono}
use Rattle.floats.proofs.Own.{add_grows}
use Rattle.floats.proofs.Number.{add_number}
use Rattle.floats.proofs.Finite.{finite_number}
use Rattle.floats.proofs.Pick.{greater_right, greater_le, greater_mono}
use Rattle.floats.proofs.Largest as top
use Rattle.floats.proofs.Whole.{whole_value, whole_le}
use Rattle.lists.proofs.Bools.{of_true, cond_case}
use Rattle.grid.specs.Numbers.{largest}
use Rattle.grid.specs.Grid.{ceiling}
use Rattle.grid.specs.Map.{Globe, Map}
use Rattle.grid.proofs.Body.{ceiling_most}
use Rattle.grid.proofs.SheetOrder.{InOrder}
use Rattle.sums.specs.Sums.{total}
use Rattle.kernel.proofs.Populations.{population_all}
use Rattle.blocks.specs.declared.Block.{Block}
use Rattle.blocks.specs.Block.{Rectangle, middle, probe}
use Rattle.bounds.specs.Bound.{slack_km, widened_by, wide_km, bound}

-- a radius that can be widened: a finite binary64
pub record Radius (x : Float) : Type 0 where
  pub known : T (fits binary64 x)
  pub within : T (finite x)

finite_value : (x : Float) (s : Bool) (a c : ℕ) → HasValue x s a c → T (finite x)
unfolding finite
finite_value nan s a c h = absurd h
finite_value (inf t) s a c h = absurd h
finite_value (fin t m e) s a c h = tt

pub whole_radius : (n : ℕ) → n ≤ 2 ^ 53 → Radius (whole n)
whole_radius n h = record { known = of_int-fits binary64 (pos n); within = finite_value (whole n) false n 1 (whole_value n h) }

largest_is : largest ≡ top.largest binary64
unfolding of_bits
largest_is = refl

below_largest : (x : Float) → Radius x → T (le x largest)
below_largest x r = rw largest_is (top.le_largest binary64 x r.known r.within)

-- no less than the radius, whatever the slack
pub widened_grows : (slack x : Float) → Radius x → T (le x (widened_by x slack))
unfolding widened_by
widened_grows slack x r =
    let wide = x ⊕ slack in
    cond_case (λ z. T (le x z)) (finite wide) (greater wide x) largest
    (λ e. greater_right wide x (finite_number wide (of_true (finite wide) e)) (finite_number x r.within)) (λ e. below_largest x r)

-- ---- a slack that is not below 0: the widened radius grows with the radius

-- what lies between a finite number and a finite number is finite
finite_between : (k x y : Float) → T (finite k) → T (le k x) → T (le x y) → T (finite y) → T (finite x)
unfolding le finite
finite_between nan x y K h l F = absurd K
finite_between (inf s) x y K h l F = absurd K
finite_between (fin s m e) nan y K h l F = absurd h
finite_between (fin s m e) (inf true) y K h l F = absurd h
finite_between (fin s m e) (inf false) nan K h l F = absurd l
finite_between (fin s m e) (inf false) (inf t) K h l F = absurd F
finite_between (fin s m e) (inf false) (fin t n d) K h l F = absurd l
finite_between (fin s m e) (fin t n d) y K h l F = tt

-- x and y widened to p and v; b and c say whether those are finite
chosen : (x y p v : Float) → Radius x → T (fits binary64 p) → T (le x y) → T (le p v) → (b c : Bool) → (T b → T (finite p)) → (T c → T b)
    → T (le (cond b (greater p x) largest) (cond c (greater v y) largest))
chosen x y p v r P h l true true B C = greater_mono p x v y l h
chosen x y p v r P h l true false B C = greater_le p x largest (below_largest p (record { known = P; within = B tt })) (below_largest x r)
chosen x y p v r P h l false true B C = absurd (C tt)
chosen x y p v r P h l false false B C = float.le_refl largest (float.le_number x largest (below_largest x r)).1

module _ (slack : Float) (S : T (le +0 slack)) where
  sum_number : (x : Float) → Radius x → T (float.number (x ⊕ slack))
  sum_number x r = add_number x slack r.within (float.le_number +0 slack S).1

  pub widened_mono : (x y : Float) → Radius x → Radius y → T (le x y) → T (le (widened_by x slack) (widened_by y slack))
  unfolding widened_by
  widened_mono x y r q h =
      let p = x ⊕ slack in
      let v = y ⊕ slack in
      let l = add_mono x y slack h (sum_number x r) (sum_number y q) in
      chosen x y p v r (add-fits binary64 x slack) h l (finite p) (finite v) (λ t. t)
      (λ t. finite_between x p v r.within (add_grows x slack r.known S (sum_number x r)) l t)

-- ---- the wide radius of a block

module _ (s : Globe) (b : Block) where
  pub wide_grows : (km : ℕ) → km ≤ 2 ^ 53 → T (le (whole km) (wide_km s (whole km) b))
  unfolding wide_km
  wide_grows km l = widened_grows (slack_km s b) (whole km) (whole_radius km l)

  pub wide_mono : T (le +0 (slack_km s b)) → (n km : ℕ) → n ≤ km → km ≤ 2 ^ 53 → T (le (wide_km s (whole n) b) (wide_km s (whole km) b))
  unfolding wide_km
  wide_mono S n km h l = widened_mono (slack_km s b) S (whole n) (whole km) (whole_radius n (omega arith)) (whole_radius km l) (whole_le n km h)

-- the probe of a rectangle on the grid is on the grid
pub probe_row_lem : (s : Globe) (b : Block) → Rectangle s.grid b → (probe b).row.0 < s.grid.height
unfolding probe middle
probe_row_lem s b o = omega (arith, o.rows, o.south)

-- at the ceiling the bound is all people
pub bound_ceiling : (m : Map) → InOrder m.globe → (b : Block) → Rectangle m.globe.grid b → bound m (whole (ceiling m.globe.grid)) b ≡ total m
unfolding bound
bound_ceiling m q b o =
    let km = ceiling m.globe.grid in
    population_all m q (wide_km m.globe (whole km) b) (wide_grows m.globe b km (omega (arith, ceiling_most m.globe.grid))) (probe b) (probe_row_lem m.globe b o)
