-- A probe on an accepted map with its sums filled: what its functions ask for, and what they give together.
use Prim.Native.Nat.{ℕ, ◌^◌, ◌≤◌, ◌<◌}
use mathlib.Core.Path.{◌≡◌}
use mathlib.Core.List.{List}
use native.Mathlib.Omega.{arith}
use lib.Ieee.{Float}
use Rattle.std.proofs.Common.{Some, None}
use Rattle.grid.specs.declared.Grid.{Grid}
use Rattle.grid.specs.Map.{Map}
use Rattle.grid.proofs.Sizes.{grid_sizes}
use Rattle.sums.specs.Sums.{total}
use Rattle.sums.proofs.Laws.{bare_total}
use Rattle.spacing.specs.declared.Spacing.{Spacing}
use Rattle.candidates.specs.declared.Candidate.{Candidate}
use Rattle.levels.specs.State.{summed_map}
use Rattle.levels.specs.Requires.{Ready}
use Rattle.search_rules.specs.declared.MostPopulous.{MostPopulous}
use Rattle.search_rules.specs.Search.{search}
use Rattle.ledger.specs.declared.Entry.{Entry}
use Rattle.ledger.specs.declared.Ledger.{Ledger}
use Rattle.ledger.specs.Ledger.{entry, get, put}
use Rattle.ledger.specs.Requires.{InBounds, PutRoom}
use Rattle.ledger.proofs.Putting.{room_free}
use Rattle.ledger.proofs.Order.{got_in_bounds, ordered}
use Rattle.climb.specs.Climb.{most_radii}
use Rattle.probes.specs.declared.RunState.{RunState}
use Rattle.probes.specs.State.{reused_more, evaluated_more, noted, state_with, state_after, ledger_with, ledger_probed, probe_count, InOrder}
use Rattle.probes.specs.Requires.{CanNote, CanEvaluate}
use Rattle.probes.proofs.Kept.{SearchSound}
use Rattle.probes.proofs.AnySheet.{search_sound}

-- the people of a table's map, exactly
pub people_exact : (g : Grid) (angles cosines : List Float) (sums : List ℕ) → Ready g angles cosines sums → total (summed_map g angles cosines sums) ≤ 2 ^ 53
people_exact g angles cosines sums r = omega (arith, bare_total (summed_map g angles cosines sums), r.table.exact)

pub ready_sound : (g : Grid) (angles cosines : List Float) (sums : List ℕ) → Ready g angles cosines sums → (spacing : Spacing) (km : ℕ)
    → SearchSound g (search (summed_map g angles cosines sums) spacing km)
ready_sound g angles cosines sums r spacing km =
    search_sound (summed_map g angles cosines sums) (grid_sizes g r.sizes) (people_exact g angles cosines sums r) spacing km

module _ {g : Grid} {l : Ledger} {s : RunState} (i : InOrder g l s) (few : probe_count s < most_radii) where
  can_note : (c : Candidate) → InBounds g c → CanNote s c
  can_note c b = record { exact = b.exact; few = few; radii = i.radii }

  pub can_reuse : (km : ℕ) {c : Candidate} → get l km ≡ Some c → CanNote s c
  can_reuse km {c} e = can_note c (got_in_bounds g l km c i.ledger e)

  pub can_put : (x : Entry) → PutRoom l x
  can_put x = room_free l x (omega (arith, i.room)) (ordered g l i.ledger).rising

  pub can_evaluate : {f : MostPopulous} → SearchSound g f → CanEvaluate s f
  can_evaluate {f} k = record { note = can_note f.centre k.centre; light = omega (arith, i.light, k.light) }

module _ (m : Map) (spacing : Spacing) (persons slack : Float) (l : Ledger) (s : RunState) (km : ℕ) where
  -- one probe on
  pub record ProbedTo (l' : Ledger) (s' : RunState) : Type 0 where
    pub ledger : l' ≡ ledger_probed m spacing l km
    pub state : s' ≡ state_after m spacing persons slack s l km

  pub after_reuse : {c : Candidate} → get l km ≡ Some c → {l' : Ledger} → l' ≡ l → {s' : RunState} → s' ≡ noted persons slack s km c (reused_more s.stats) → ProbedTo l' s'
  unfolding state_after state_with ledger_probed ledger_with
  after_reuse e h f = record { ledger = rw e h; state = rw e f }

  pub after_search : get l km ≡ None → {f : MostPopulous} → f ≡ search m spacing km → {x : Entry} → x ≡ entry km f.centre → {l' : Ledger} → l' ≡ put l x
      → {s' : RunState} → s' ≡ noted persons slack s km f.centre (evaluated_more s.stats f.tally.stats) → ProbedTo l' s'
  unfolding state_after state_with ledger_probed ledger_with
  after_search e k x h f = record { ledger = rw (e, ← k, ← x) h; state = rw (e, ← k) f }
