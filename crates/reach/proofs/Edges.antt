-- Where the offsets within an angle end, as tests among the angles of a row find it: that is the reach.
use Prim.Native.Nat.{ℕ, ◌+◌, ◌-◌, ◌*◌, ◌/◌, ◌≤◌, ◌<◌}
use mathlib.Core.Path.{◌≡◌, sym, ap, ◌∙◌}
use mathlib.Core.Bool.{Bool, true, false}
use mathlib.Core.List.{List, []}
use native.Mathlib.Decide.{dec_lt}
use native.Mathlib.Omega.{arith}
use lib.ListN.{length, get_or, take, drop}
use Rattle.std.proofs.lemmas.Grind.{common_steps}
use lib.Ieee.{Float, le, nan}
use Rattle.std.specs.List.Sorted.{IsPartitionedBy, IsPartitionPoint}
use Rattle.lists.proofs.Bools.{not_both}
use Rattle.grid.specs.declared.Row.{Row}
use Rattle.grid.specs.declared.Grid.{Grid}
use Rattle.grid.specs.Grid.{closing}
use Rattle.grid.specs.Map.{Globe, angle_at, sheet_index, globe_of, sheet_of}
use Rattle.grid.specs.Requires.{InSheet}
use Rattle.grid.proofs.Index.{place_in}
use Rattle.reach.specs.Reach.{reach}
use Rattle.reach.specs.Requires.{PairOnSheet}
use Rattle.reach.specs.State.{passes, Edge}
use Rattle.reach.proofs.Reaches.{inside, inside_first, reach_edge, reach_sheet, sheet_order, sheet_length, sheet_wide, sheet_high}

module _ (p : ℕ → Bool) where
  -- what was found from low up to high, where the test passes just before low and fails at high
  pub edge_wider : {low high n : ℕ} (most : ℕ) → high ≤ most → (0 < low → p (low - 1) ≡ true) → (high < most → p high ≡ false)
      → Edge p low high n → Edge p 0 most n
  edge_wider {low} {high} {n} most h first last e =
      record { from = omega arith; to = omega (arith, e.to); passed = passed; failed = failed }
    where
      passed : 0 < n → p (n - 1) ≡ true
      passed u = elim (dec_lt low n) [
        | yes q ↦ e.passed q
        | no q ↦ let f : n ≡ low = omega (arith, e.from) in rw f (first (omega arith))
      ]

      failed : n < most → p n ≡ false
      failed u = elim (dec_lt n high) [
        | yes q ↦ e.failed q
        | no q ↦ let f : n ≡ high = omega (arith, e.to) in rw f (last (omega arith))
      ]

  -- a number that passes and one that fails are not the same
  pub apart : (m n : ℕ) → m ≤ n → p m ≡ true → p n ≡ false → m < n
  apart m n h t f = elim (dec_lt m n) [
    | yes q ↦ q
    | no q ↦ let e : n ≡ m = omega arith in absurd (not_both (p m) t (rw e at f))
  ]

-- a row of the sheet, found by its first place
module _ {g : Grid} {angles : List Float} {c r : Row} (p : PairOnSheet g angles c r) where
  pub place_of : (k : ℕ) → k ≤ closing g → InSheet g c r k
  place_of k l =
      record {
        wide = sheet_wide p.sheet;
        high = sheet_high p.sheet;
        centre_on = p.centre_on;
        row_on = p.row_on;
        offset_on = l;
      }

  module _ {first : ℕ} (e : first ≡ sheet_index g c r 0) where
    pub row_fits : (k : ℕ) → k ≤ g.width / 2 → first + k < length angles
    unfolding sheet_index closing
    row_fits k l = omega (arith, e, place_in g c r k (place_of k l), sheet_length p.sheet)

    pub place_fits_lem : (k : ℕ) → k ≤ closing g → first + k < length angles
    unfolding closing
    place_fits_lem k l = row_fits k l

    pub last_fits : first + g.width / 2 < length angles
    last_fits = row_fits (g.width / 2) (omega arith)

    -- the row by itself, as code cuts it out
    abbrev pub row_part : List Float
    row_part = take (first + g.width / 2 + 1 - first) (drop first angles)

    pub row_length : length row_part ≡ g.width / 2 + 1
    row_length = let h = last_fits in grind (arith, common_steps)

    module _ (limit : Float) where
      abbrev s : Globe
      s = globe_of g angles p.sheet.cosines

      passes_is : (k : ℕ) → inside s c.0 r.0 limit k ≡ passes angles first limit k
      unfolding inside angle_at sheet_index
      passes_is k = let f : (c.0 * g.height + r.0) * (closing g + 1) + k ≡ first + k = omega (arith, e) in rw f

      pub row_reach : (cosines : List Float) (n : ℕ) → Edge (passes angles first limit) 0 (g.width / 2 + 1) n
          → n ≡ reach (globe_of g angles cosines) c r limit
      unfolding closing
      row_reach cosines n d =
          sym (reach_edge s (sheet_order p.sheet) c.0 p.centre_on limit r.0 p.row_on n
          (record { from = d.from; to = d.to; passed = λ h. passes_is (n - 1) ∙ d.passed h; failed = λ h. passes_is n ∙ d.failed h }))
          ∙ reach_sheet g angles p.sheet.cosines cosines c r limit

      pub edge_reach : (n : ℕ) → Edge (passes angles first limit) 0 (closing g + 1) n → n ≡ reach (sheet_of g angles) c r limit
      unfolding closing
      edge_reach n d = row_reach [] n d

      -- the angles of the row do not fall, and where they leave the limit the reach ends
      same : (k : ℕ) → (d : Float) → k < length row_part → get_or row_part k d ≡ get_or angles (first + k) nan
      same k d l = let h = last_fits in grind (arith, common_steps)

      pub row_rises : IsPartitionedBy (λ y. le y limit) row_part
      unfolding closing
      row_rises i j d h l e =
          let on : j ≤ g.width / 2 = omega (arith, row_length) in
          rw (same i d (omega arith))
          (sym (passes_is i)
          ∙ inside_first s (sheet_order p.sheet) c.0 p.centre_on limit r.0 p.row_on i j h (omega arith)
          (passes_is j ∙ sym (ap (λ y. le y limit) (same j d l)) ∙ e))

      pub row_halved : (cosines : List Float) (k : ℕ) → k ≤ length row_part
          → IsPartitionPoint (λ y. le y limit ≡ true) (λ y. le y limit ≡ false) row_part k → k ≡ reach (globe_of g angles cosines) c r limit
      row_halved cosines k l (below, above) =
          let on : k ≤ g.width / 2 + 1 = omega (arith, row_length) in
          row_reach cosines k
          (record {
            from = omega arith;
            to = on;
            passed = λ h. sym (ap (λ y. le y limit) (same (k - 1) nan (omega arith))) ∙ below (k - 1) nan (omega arith) (omega arith);
            failed = λ h.
                let u : k < length row_part = omega (arith, row_length) in
                sym (ap (λ y. le y limit) (same k nan u)) ∙ above k nan (omega arith) u;
          })
