-- The ring's smallest radii, computed from the definitions.
use mathlib.Core.Path.{refl}
use Rattle.ledger.specs.Ledger.{open_ledgers}
use Rattle.climb.specs.Climb.{open_climbs}
use Rattle.share.specs.Target.{open_shares}
use Rattle.probes.specs.Probes.{open_probes}
use Rattle.probes.specs.Smallest.{open_smallest}
use Rattle.ring.specs.Radii.{RingRadii, values_of}
use Rattle.ring.proofs.Ring.{ring_open}

-- all that a run is made of beside a search, for facts that are computed
unfoldable pub run_open : Unit {0}
unfolding open_ledgers open_climbs open_shares open_probes open_smallest
run_open = tt

pub ring_radii : RingRadii
unfolding ring_open run_open values_of
ring_radii = record { share_half = λ places. refl; share_1 = λ places. refl; nobody = λ places. refl; nobody_ambiguity = λ places. refl }
