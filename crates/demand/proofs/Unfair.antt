-- The search on the thin ring misses the best circle, computed from the definitions.
use Prim.Native.Nat.{ℕ, zero, suc, ◌<◌, ◌^◌}
use mathlib.Core.Path.{◌≡◌, refl, ap₂}
use mathlib.Core.Logic.{◌⊎◌, inl, inr}
use mathlib.Core.Bool.{◌||◌}
use mathlib.Core.List.{[], ◌∷◌}
use native.Mathlib.Omega.{arith}
use lib.Dec.{T, ltb, eqb, ltb→lt, eqb→eq, lit≤, lit<}
use lib.ListN.{get_or}
use lib.Ieee.Fits.{and_l, and_r}
use Rattle.lists.specs.Counted.{all_below}
use Rattle.lists.proofs.Bools.{or_split}
use Rattle.floats.specs.Binary.{whole}
use Rattle.grid.specs.declared.Cell.{Cell}
use Rattle.grid.specs.Grid.{cell, on_grid}
use Rattle.circle_cells.specs.Circle.{population}
use Rattle.blocks.specs.Block.{range, block}
use Rattle.bounds.specs.Fair.{Fair}
use Rattle.bounds.proofs.FairTest.{every_at}
use Rattle.ring.specs.Ring.{ring_globe}
use Rattle.ring.proofs.Searches.{ring_call_open}
use Rattle.demand.specs.Demand3.{Accepted, Best}
use Rattle.demand.specs.Unfair.{thin_ring, Missed}

thin_accepted : Accepted thin_ring
unfolding ring_call_open thin_ring
thin_accepted = record { asked = refl; counted = small }
  where
    small : (i : ℕ) → get_or (5 ∷ 3 ∷ 2 ∷ 7 ∷ []) i 0 < 2 ^ 32
    small zero = lit< tt
    small (suc zero) = lit< tt
    small (suc (suc zero)) = lit< tt
    small (suc (suc (suc zero))) = lit< tt
    small (suc (suc (suc (suc i)))) = lit< tt

-- its rectangle of the columns 2 and 3: column 3 is in its own circle, and not in the wide circle around column 2
thin_unfair : Fair thin_ring.globe → ⊥
unfolding ring_call_open thin_ring
thin_unfair fair =
    fair 1 (lit≤ tt) (lit< tt) (block (range 0 0) (range 2 3)) (record { rows = lit≤ tt; south = lit< tt; columns = lit≤ tt; east = lit< tt })
    (cell 0 3) (record { north = lit≤ tt; south = lit≤ tt; first = lit≤ tt; last = lit≤ tt }) (cell 0 3) tt tt

-- every other circle has fewer than 7 people
thin_others : T (all_below 1 (λ r. all_below 4 (λ k. ltb (population thin_ring (whole 1) (cell r k)) 7 || eqb k 3)))
unfolding ring_call_open thin_ring
thin_others = tt

seven : population thin_ring (whole 1) (cell 0 3) ≡ 7
unfolding ring_call_open thin_ring
seven = refl

thin_case : (x : Cell) → T (on_grid thin_ring.globe.grid x) → (population thin_ring (whole 1) x < 7) ⊎ (x ≡ cell 0 3)
unfolding on_grid ring_globe thin_ring
thin_case x on =
    let r = ltb→lt x.row.0 1 (and_l (ltb x.row.0 1) (ltb x.col.0 4) on) in
    let k = ltb→lt x.col.0 4 (and_r (ltb x.row.0 1) (ltb x.col.0 4) on) in
    let p = population thin_ring (whole 1) x in
    let row : x.row.0 ≡ 0 = omega arith in
    elim (or_split (ltb p 7) (eqb x.col.0 3) (every_at 4 _ (every_at 1 _ thin_others x.row.0 r) x.col.0 k)) [
      | inl t ↦ inl (ltb→lt p 7 t)
      | inr e ↦ inr (ap₂ cell row (eqb→eq x.col.0 3 e))
    ]

thin_best : Best thin_ring 1 (cell 0 3)
unfolding ring_call_open thin_ring
thin_best =
    record {
      on = tt;
      fullest = λ x on. elim (thin_case x on) [
        | inl l ↦ omega (arith, seven)
        | inr e ↦ rw e (omega arith)
      ];
      first = λ x on e. elim (thin_case x on) [
        | inl l ↦ absurd (omega (arith, seven))
        | inr i ↦ inl i
      ];
    }

pub missed : Missed
unfolding ring_call_open thin_ring
missed = record { accepted = thin_accepted; unfair = thin_unfair; named = refl; named_people = refl; best = thin_best; best_people = seven }
