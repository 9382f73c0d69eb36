-- What the constructors give: the row, the column and the radius of the number itself, and exactly where it is in range.
use Rattle.std.specs.Prelude.{Some, None, ℕ, ◌≡◌, Bool, true, false, cond, leb, ltb}
use Rattle.std.proofs.Common.{arith}
use Rattle.std.proofs.lemmas.Option.{cond_some}
use Rattle.grid.specs.declared.Row.{Row}
use Rattle.grid.specs.declared.Col.{Col}
use Rattle.grid.specs.declared.RadiusKm.{RadiusKm}
use Rattle.grid.specs.declared.Grid.{Grid}
use Rattle.grid.specs.Grid.{ceiling, row_found, col_found, radius_found}

-- nothing by a test: it said no
cond_none : {A : Type 0} (b : Bool) (x : A) → cond b (Some x) None ≡ None → b ≡ false
cond_none b x e = grind arith

module _ (g : Grid) (i : ℕ) where
  pub row_on : (r : Row) → row_found g i ≡ Some r → (ltb i g.height ≡ true) × (i ≡ r.0)
  unfolding row_found
  row_on r e = let p = cond_some _ _ _ e in (p.0, cc)

  pub row_off : row_found g i ≡ None → ltb i g.height ≡ false
  unfolding row_found
  row_off e = cond_none _ _ e

  pub col_on : (c : Col) → col_found g i ≡ Some c → (ltb i g.width ≡ true) × (i ≡ c.0)
  unfolding col_found
  col_on c e = let p = cond_some _ _ _ e in (p.0, cc)

  pub col_off : col_found g i ≡ None → ltb i g.width ≡ false
  unfolding col_found
  col_off e = cond_none _ _ e

module _ (g : Grid) (km : ℕ) where
  pub radius_within : (r : RadiusKm) → radius_found g km ≡ Some r → (leb km (ceiling g) ≡ true) × (km ≡ r.0)
  unfolding radius_found
  radius_within r e = let p = cond_some _ _ _ e in (p.0, cc)

  pub radius_is : (r : RadiusKm) → radius_found g km ≡ Some r → r ≡ record { 0 = km }
  unfolding radius_found
  radius_is r e = rw (cond_some _ _ _ e).1

  pub radius_beyond : radius_found g km ≡ None → leb km (ceiling g) ≡ false
  unfolding radius_found
  radius_beyond e = cond_none _ _ e
