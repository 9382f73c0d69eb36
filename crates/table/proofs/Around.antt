-- A centre column's span, whole, inland, or across the seam in the west or in the east.
use Rattle.sums.proofs.Bands.{around_turn, around_inland, around_west, around_east}

pub ruleset around = (around_turn, around_inland, around_west, around_east)
