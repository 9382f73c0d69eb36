-- The ring's smallest radii: what the marked facts (1), (8) and (9) of SPECIFICATION, section 9.4, say, once the call's questions are answered.
use Rattle.std.specs.Prelude.{ℕ, false, List, ◌≡◌, Float, negsuc, Option, None, Some}
use Rattle.std.specs.Float.{fin}
use Rattle.floats.specs.Binary.{whole}
use Rattle.grid.specs.Map.{Map}
use Rattle.grid.specs.Grid.{cell}
use Rattle.spacing.specs.declared.Spacing.TheVariants.{Cells}
use Rattle.candidates.specs.declared.Candidate.{Candidate}
use Rattle.candidates.specs.Candidate.{candidate_of}
use Rattle.ledger.specs.declared.Entry.{Entry}
use Rattle.ledger.specs.Ledger.{no_entries}
use Rattle.probes.specs.declared.Witness.{Witness}
use Rattle.probes.specs.declared.Smallest.{Smallest}
use Rattle.probes.specs.Smallest.{smallest, spread, witness}
use Rattle.ring.specs.Ring.{ring, empty_ring}

-- the smallest radius with spacing 4 from a fresh ledger, whose places may hold anything
abbrev pub ring_settled : Map → Float → List Entry → Smallest
ring_settled m share places = (smallest m (Cells 4) share (no_entries places)).answer

-- the values that the line `least` prints
pub record LeastValues : Type 0 where
  pub km : ℕ
  pub centre : Candidate
  pub short : Option Witness
  pub evaluated : ℕ
  pub reused : ℕ

-- those values of an answer
unfoldable pub values_of : Smallest → LeastValues
values_of s =
    record {
      km = s.radius_km.0;
      centre = s.centre;
      short = s.short_below;
      evaluated = s.stats.radii_evaluated;
      reused = s.stats.radii_reused;
    }

-- 2 ^ -1
abbrev pub half : Float
half = fin false 1 (negsuc 0)

-- short at a kilometre with so many people
abbrev pub short_at : ℕ → ℕ → Option Witness
short_at km population = Some (witness km population)

-- share 0.5 and share 1 of the ring, and share 0.5 of the ring with nobody
pub record RingRadii : Type 0 where
  pub share_half : (places : List Entry)
      → values_of (ring_settled ring half places) ≡ record { km = 10008; centre = candidate_of (cell 0 3) 15; short = short_at 10007 7; evaluated = 28; reused = 0 }
  pub share_1 : (places : List Entry)
      → values_of (ring_settled ring (whole 1) places) ≡ record { km = 20016; centre = candidate_of (cell 0 0) 16; short = short_at 20015 15; evaluated = 16; reused = 0 }
  pub nobody : (places : List Entry)
      → values_of (ring_settled empty_ring half places) ≡ record { km = 0; centre = candidate_of (cell 0 0) 0; short = None; evaluated = 2; reused = 0 }
  pub nobody_ambiguity : (places : List Entry)
      → (ring_settled empty_ring half places).ambiguity ≡ Some (spread 0 1 2)
