-- The 96 bytes of the ring's job, and its two lines.
use Rattle.std.specs.Prelude.{ℕ, ◌≡◌, List, [], ◌∷◌, ◌++◌}
use Rattle.ledger.specs.declared.Entry.{Entry}
use Rattle.ledger.specs.Ledger.{no_entries}
use Rattle.job_rules.specs.Job.{program}
use Rattle.ring.specs.Facts.{MarkedFacts}

-- G 4 1 45.0 90.0 -90.0
unfoldable pub grid_bytes : List ℕ
grid_bytes = 71 ∷ 4 ∷ 1 ∷ 0 ∷ 0 ∷ 0 ∷ 0 ∷ 0 ∷ 128 ∷ 70 ∷ 64 ∷ 0 ∷ 0 ∷ 0 ∷ 0 ∷ 0 ∷ 128 ∷ 86 ∷ 64 ∷ 0 ∷ 0 ∷ 0 ∷ 0 ∷ 0 ∷ 128 ∷ 86 ∷ 192 ∷ []

-- C 5, 1, 7, 3 in row 0
unfoldable pub count_bytes : List ℕ
count_bytes = 67 ∷ 0 ∷ 0 ∷ 5 ∷ 0 ∷ 0 ∷ 0 ∷ 67 ∷ 0 ∷ 1 ∷ 1 ∷ 0 ∷ 0 ∷ 0 ∷ 67 ∷ 0 ∷ 2 ∷ 7 ∷ 0 ∷ 0 ∷ 0 ∷ 67 ∷ 0 ∷ 3 ∷ 3 ∷ 0 ∷ 0 ∷ 0 ∷ []

-- A offset 1 a quarter turn, offset 2 half a turn
unfoldable pub angle_bytes : List ℕ
angle_bytes = 65 ∷ 0 ∷ 0 ∷ 1 ∷ 24 ∷ 45 ∷ 68 ∷ 84 ∷ 251 ∷ 33 ∷ 249 ∷ 63 ∷ 65 ∷ 0 ∷ 0 ∷ 2 ∷ 24 ∷ 45 ∷ 68 ∷ 84 ∷ 251 ∷ 33 ∷ 9 ∷ 64 ∷ []

-- M 4 10008, R 4 0.5, E
unfoldable pub call_bytes : List ℕ
call_bytes = 77 ∷ 4 ∷ 0 ∷ 24 ∷ 39 ∷ 82 ∷ 4 ∷ 0 ∷ 0 ∷ 0 ∷ 0 ∷ 0 ∷ 0 ∷ 0 ∷ 224 ∷ 63 ∷ 69 ∷ []

-- all of it
unfoldable pub ring_job : List ℕ
ring_job = grid_bytes ++ count_bytes ++ angle_bytes ++ call_bytes

-- most 10008 0 3 15 3 7 2 5 17 2 2
unfoldable pub most_ring : List ℕ
most_ring = 109 ∷ 111 ∷ 115 ∷ 116 ∷ 32 ∷ 49 ∷ 48 ∷ 48 ∷ 48 ∷ 56 ∷ 32 ∷ 48 ∷ 32 ∷ 51 ∷ 32 ∷ 49 ∷ 53 ∷ 32 ∷ 51 ∷ 32 ∷ 55 ∷ 32 ∷ 50 ∷ 32 ∷ 53 ∷ 32 ∷ 49 ∷ 55 ∷ 32 ∷ 50 ∷ 32 ∷ 50 ∷ 10 ∷ []

-- least 10008 0 3 15 10007 7 28 0
unfoldable pub least_ring : List ℕ
least_ring = 108 ∷ 101 ∷ 97 ∷ 115 ∷ 116 ∷ 32 ∷ 49 ∷ 48 ∷ 48 ∷ 48 ∷ 56 ∷ 32 ∷ 48 ∷ 32 ∷ 51 ∷ 32 ∷ 49 ∷ 53 ∷ 32 ∷ 49 ∷ 48 ∷ 48 ∷ 48 ∷ 55 ∷ 32 ∷ 55 ∷ 32 ∷ 50 ∷ 56 ∷ 32 ∷ 48 ∷ 10 ∷ []

-- the nine marked facts, and the job of 96 bytes with its two lines, whatever the places of its ledger hold
pub record RingJob : Type 0 where
  pub facts : MarkedFacts
  pub lines : (places : List Entry) → program (no_entries places) ring_job ≡ most_ring ++ least_ring

-- opens all of the above, for facts that are computed
unfoldable pub open_ring_jobs : Unit {0}
unfolding grid_bytes count_bytes angle_bytes call_bytes ring_job most_ring least_ring
open_ring_jobs = tt
