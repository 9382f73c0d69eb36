-- Question 8 of a radius is its constructor.
use Rattle.std.specs.Prelude.{Some, None, ℕ, ◌≡◌, true, false}
use Rattle.grid.specs.declared.Grid.{Grid}
use Rattle.grid.specs.declared.RadiusKm.{RadiusKm}
use Rattle.grid.specs.Grid.{radius_found}
use Rattle.grid.specs.Questions.{radius_in_range}
use Rattle.grid.proofs.Found.{radius_within, radius_beyond}

module _ (g : Grid) (km : ℕ) where
  pub within_range : (r : RadiusKm) → radius_found g km ≡ Some r → radius_in_range g km ≡ true
  unfolding radius_in_range
  within_range r e = (radius_within g km r e).0

  pub beyond_range : radius_found g km ≡ None → radius_in_range g km ≡ false
  unfolding radius_in_range
  beyond_range e = radius_beyond g km e
