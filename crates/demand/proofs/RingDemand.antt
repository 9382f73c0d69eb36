-- Demand 3 on the ring of four cells, which is accepted and fair.
use Prim.Native.Nat.{ℕ, zero, suc, ◌^◌, ◌<◌}
use native.Mathlib.Omega.{arith}
use lib.ListN.{get_or}
use Rattle.ring.specs.Ring.{ring}
use Rattle.ring.proofs.Searches.{ring_searches}
use Rattle.demand.specs.Demand3.{Accepted, Demand3}
use Rattle.demand.proofs.RingFair.{ring_fair}
use Rattle.demand.proofs.Demand3.{demand_3}

ring_counted : (i : ℕ) → get_or ring.counts i 0 < 2 ^ 32
unfolding ring
ring_counted zero = omega arith
ring_counted (suc zero) = omega arith
ring_counted (suc (suc zero)) = omega arith
ring_counted (suc (suc (suc zero))) = omega arith
ring_counted (suc (suc (suc (suc i)))) = omega arith

pub ring_accepted : Accepted ring
ring_accepted = record { asked = ring_searches.accepted; counted = ring_counted }

pub ring_demand : Demand3 ring
unfolding ring
ring_demand = demand_3 ring ring_accepted ring_fair
