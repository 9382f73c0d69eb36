-- The ring of four cells is fair. Its circles change only where km / 6371.0088 passes a quarter turn, after 10,007 km, and a half turn: so two
-- radii are tested, 1 and 10,008.
use Prim.Native.Nat.{ℕ}
use mathlib.Core.List.{List, [], ◌∷◌}
use native.Mathlib.Nat.{le_trans, le_of_lt}
use lib.Dec.{T, lit≤}
use Rattle.bounds.specs.Fair.{Fair}
use Rattle.bounds.proofs.FairTest.{fair_test, fair_tests, fair_by_test}
use Rattle.ring.specs.Ring.{ring_globe}
use Rattle.ring.proofs.Ring.{ring_open}

-- the radii that reach no further cell
abbrev short : List ℕ
short = 0 ∷ 10007 ∷ []

ring_passes : T (fair_test ring_globe short)
unfolding ring_open fair_tests
ring_passes = tt

pub ring_fair : Fair ring_globe
unfolding ring_open
ring_fair km h l = fair_by_test ring_globe short ring_passes km h (le_trans (le_of_lt l) (lit≤ tt))
