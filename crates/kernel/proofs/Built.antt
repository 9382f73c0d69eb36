-- The kernel that the walks and the marking of runs leave is the kernel of the row and the radius.
use Prim.Native.Nat.{ℕ, ◌-◌, ◌≤◌, ◌<◌}
use mathlib.Core.Path.{◌≡◌, sym, ◌∙◌}
use mathlib.Core.Bool.{Bool, true, false}
use mathlib.Core.List.{List}
use mathlib.Core.Logic.{◌⊎◌, inl, inr}
use native.Mathlib.Decide.{dec_lt}
use native.Mathlib.Omega.{arith}
use lib.ListN.{length, get_or, replicate, length-replicate, get_or-replicate, get_or-eq_default}
use lib.Ieee.{Float, binary64, of_bits, eq}
use Rattle.floats.specs.Binary.{whole}
use Rattle.floats.proofs.Literals.{literal_0}
use Rattle.grid.specs.declared.Row.{Row}
use Rattle.grid.specs.Grid.{angle_of}
use Rattle.grid.specs.Map.{Globe}
use Rattle.kernel.specs.Kernel.{row_reach, run_end, row_run, kernel_of}
use Rattle.reach.specs.Reach.{row_places}
use Rattle.reach.specs.State.{Filled, NorthWalked, SouthWalked, reach_in}
use Rattle.kernel.specs.State.{run_in}
use Rattle.kernel.specs.Requires.{Outlined}
use Rattle.kernel.proofs.Kernels.{made, kernel_is, reach_none, reach_off, reach_on, run_on, run_off}

-- the test of radius 0, by the code's number and by the definition's
pub zero_test : (km : Float) (b : Bool) → eq km (of_bits binary64 0) ≡ b → eq km (whole 0) ≡ b
zero_test km b e = rw literal_0 at e

-- a list of zeros has 0 at every place
zeros : (n i : ℕ) → ◌≡◌ {A = ℕ} (get_or (replicate n 0) i 0) 0
zeros n i = elim (dec_lt i n) [
  | yes p ↦ get_or-replicate n i 0 0 p
  | no p ↦ get_or-eq_default (replicate n 0) 0 (omega (arith, length-replicate {A = ℕ} n 0))
]

module _ (s : Globe) (c : Row) (km : Float) (high : s.grid.height ≤ row_places) (on : c.0 < s.grid.height) where
  -- radius 0
  pub built_empty : eq km (whole 0) ≡ true → made c km c.0 c.0 (replicate row_places 0) (replicate row_places 0) ≡ kernel_of s c km
  built_empty z =
      kernel_is s c km high on c.0 c.0 (replicate row_places 0) (replicate row_places 0)
      (record {
        north_on = omega arith;
        end_on = omega arith;
        on = omega arith;
        touched = λ r h u. absurd (omega arith);
        missed = λ r h. zeros row_places r;
      })
      (length-replicate {A = ℕ} row_places 0) (λ r h. zeros row_places r ∙ sym (reach_none s c km r z))
      (length-replicate {A = ℕ} row_places 0) (λ r h. zeros row_places r ∙ sym (run_off s c km r (reach_none s c km r z)))

  -- another radius, where a row further out than one that is missed is missed
  module _ (z : eq km (whole 0) ≡ false) {limit : Float} (limited : limit ≡ angle_of s.grid km)
      (beyond : (r t : ℕ) → t < s.grid.height → (c.0 ≤ r × r ≤ t) ⊎ (t ≤ r × r ≤ c.0) → reach_in s c limit r ≡ 0 → reach_in s c limit t ≡ 0)
      {n e : ℕ} {mid last : List ℕ} (north : NorthWalked s c limit (replicate row_places 0) mid n) (south : SouthWalked s c limit mid last e) where
    touched_on : (r : ℕ) → r < s.grid.height → row_reach s c km r ≡ reach_in s c limit r
    touched_on r p = rw limited (reach_on s c km r p z)

    missed_north_lem : (r : ℕ) → r < n → reach_in s c limit r ≡ 0
    missed_north_lem r h =
        let l : n ≤ c.0 = north.rows.ordered in
        beyond (n - 1) r (omega arith) (inr (omega arith, omega arith)) (north.missed (omega arith))

    missed_south : (r : ℕ) → e ≤ r → r < s.grid.height → reach_in s c limit r ≡ 0
    missed_south r h u = beyond e r u (inl (south.rows.ordered, h)) (south.missed (omega arith))

    outside : (r : ℕ) → (r < n) ⊎ (e ≤ r) → get_or last r 0 ≡ 0
    outside r (inl h) =
        let l : n ≤ c.0 = north.rows.ordered in
        south.rows.kept r (inl (omega arith)) ∙ north.rows.kept r (inl h) ∙ zeros row_places r
    outside r (inr h) =
        let l : c.0 ≤ e = south.rows.ordered in
        south.rows.kept r (inr h) ∙ north.rows.kept r (inr (omega arith)) ∙ zeros row_places r

    inside : (r : ℕ) → n ≤ r → r < e → (get_or last r 0 ≡ reach_in s c limit r) × (0 < reach_in s c limit r)
    inside r h u = elim (dec_lt r c.0) [
      | yes p ↦ (south.rows.kept r (inl p) ∙ north.rows.filled r h p, north.rows.touched r h p)
      | no p ↦ (south.rows.filled r (omega arith) u, south.rows.touched r (omega arith) u)
    ]

    each : (r : ℕ) → get_or last r 0 ≡ row_reach s c km r
    each r = elim (dec_lt r s.grid.height) [
      | no p ↦ outside r (inr (omega (arith, south.on))) ∙ sym (reach_off s c km r (omega arith))
      | yes p ↦ elim (dec_lt r n) [
        | yes w ↦ outside r (inl w) ∙ sym (touched_on r p ∙ missed_north_lem r w)
        | no w ↦ elim (dec_lt r e) [
          | yes v ↦ (inside r (omega arith) v).0 ∙ sym (touched_on r p)
          | no v ↦ outside r (inr (omega arith)) ∙ sym (touched_on r p ∙ missed_south r (omega arith) p)
        ]
      ]
    ]

    pub built_outline : length last ≡ row_places → Outlined last n e
    built_outline len =
        record {
          places = len;
          ordered = omega (arith, north.rows.ordered, south.rows.ordered);
          on = omega (arith, south.on);
          touched = λ r h u. let i = inside r h u in omega (arith, i.0, i.1);
          missed = outside e (inr (omega arith));
        }

    module _ {runs : List ℕ} (marked : Filled (run_in last) n e (replicate row_places 0) runs) where
      unmarked : (r : ℕ) → (r < n) ⊎ (e ≤ r) → get_or runs r 0 ≡ row_run s c km r
      unmarked r h = marked.kept r h ∙ zeros row_places r ∙ sym (run_off s c km r (sym (each r) ∙ outside r h))

      each_run : (r : ℕ) → get_or runs r 0 ≡ row_run s c km r
      each_run r = elim (dec_lt r n) [
        | yes w ↦ unmarked r (inl w)
        | no w ↦ elim (dec_lt r e) [
          | yes v ↦
              let i = inside r (omega arith) v in
              marked.filled r (omega arith) v ∙ (λ i. run_end (λ (j : ℕ). each j i) (row_places - r) r) ∙ sym (run_on s c km r (omega (arith, i.0, i.1, each r)))
          | no v ↦ unmarked r (inr (omega arith))
        ]
      ]

      pub built_walked : length last ≡ row_places → length runs ≡ row_places → made c km n e last runs ≡ kernel_of s c km
      built_walked len len-run =
          kernel_is s c km high on n e last runs
          (record {
            north_on = north.rows.ordered;
            end_on = south.rows.ordered;
            on = south.on;
            touched = (built_outline len).touched;
            missed = outside;
          })
          len (λ r h. each r) len-run (λ r h. each_run r)
