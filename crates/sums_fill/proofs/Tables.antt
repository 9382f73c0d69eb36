-- Filled tables: the map of a table is the map that filled it, and what the tests of a call give.
use mathlib.Core.Path.{◌≡◌, refl, sym, ap, ◌∙◌}
use mathlib.Core.Bool.{true}
use mathlib.Core.List.{List}
use mathlib.Core.Logic.{⊎_elim}
use Prim.Native.Nat.{ℕ, ◌+◌, ◌*◌, ◌/◌, ◌%◌, ◌≤◌, ◌<◌, ◌^◌}
use native.Mathlib.Nat.{mul_comm, zero-mul, mod-lt, div-add-mod', div-lt_iff_lt-mul, eq-zero-or-pos}
use native.Mathlib.Omega.{arith}
use borrow.Author.Tests.{leb-true, eqb-true}
use lib.ListN.{length, get_or}
use lib.Seq.{ext_get_or}
use Rattle.lists.specs.Front.{tabulate}
use Rattle.lists.proofs.Fronts.{length_tabulate, get_d_tabulate, length_over, over_fix}
use Rattle.grid.specs.declared.Grid.{Grid}
use Rattle.grid.specs.Grid.{cells}
use Rattle.grid.specs.Map.{Map, count}
use Rattle.grid.specs.Questions.{sizes_in_range, counts_complete}
use Rattle.grid.proofs.Sizes.{grid_sizes}
use Rattle.sums.specs.Sums.{corner, sums_words, sums_word, filled_sums, sums_fit}
use Rattle.sums.specs.State.{counts_map, table_map, globe_map, sums_at, count_at, counts_of}
use Rattle.sums.specs.Requires.{Summed}
use Rattle.sums.proofs.Laws.{people, width_of, height_of, corner_cell, corner_read, total_small}
use Rattle.sums_fill.specs.Requires.{Fillable}

-- the row and the column of the count at a place
place_in : (w h i : ℕ) → i < w * h → (i / w < h) × (i % w < w)
place_in w h i l =
    ⊎_elim (λ (e : w ≡ 0). absurd (none e)) (λ (p : 0 < w). ((div-lt_iff_lt-mul p).1 (rw mul_comm at l), mod-lt i p)) (eq-zero-or-pos w)
  where
    none : w ≡ 0 → ⊥
    none e = omega (arith, rw (e, zero-mul h) at l)

-- ---- the tests of a call

-- questions 1, 4 and 7 answered "yes"
pub fillable : (m : Map) (sums : List ℕ) → sizes_in_range m.globe.grid ≡ true → counts_complete m ≡ true → sums_fit m.globe.grid sums ≡ true
    → Fillable m.globe.grid m.counts sums
unfolding counts_complete cells sums_fit
fillable m sums sizes complete fit =
    let s = grid_sizes m.globe.grid sizes in
    record {
      columns = s.columns;
      rows = s.rows;
      complete = eqb-true (length m.counts) (width_of m * height_of m) complete;
      room = leb-true (sums_words m.globe.grid) (length sums) fit;
    }

-- ---- a map with a sheet has the sums of its grid and counts; so has a table with a sheet, at globe_map

module _ (m : Map) where
  pub bare_filled : (l : List ℕ) → filled_sums (counts_map m.globe.grid m.counts) l ≡ filled_sums m l
  unfolding filled_sums sums_word corner count
  bare_filled l = refl

-- ---- a filled buffer

module _ (m : Map) (l : List ℕ) where
  pub length_filled : sums_words m.globe.grid ≤ length l → length (filled_sums m l) ≡ length l
  unfolding filled_sums
  length_filled h = length_over (sums_word m) (sums_words m.globe.grid) l h

  module _ (s : List ℕ) (filled : s ≡ filled_sums m l) where
    pub filled_own : s ≡ filled_sums m s
    unfolding filled_sums
    filled_own = over_fix (sums_word m) (sums_words m.globe.grid) l s filled

    -- the four words at a cell's corners give its count
    pub count_read : (r c : ℕ) → r < height_of m → c < width_of m → count_at m.globe.grid s r c ≡ people m r c
    unfolding count_at sums_at
    count_read r c p q =
        rw (
          corner_read m l s (r + 1) (c + 1) filled (omega arith) (omega arith),
          corner_read m l s r c filled (omega arith) (omega arith),
          corner_read m l s r (c + 1) filled (omega arith) (omega arith),
          corner_read m l s (r + 1) c filled (omega arith) (omega arith),
        )
        (omega (arith, corner_cell m r c))

    -- so the counts are read back
    pub counts_read : length m.counts ≡ width_of m * height_of m → counts_of m.globe.grid s ≡ m.counts
    unfolding counts_of cells count
    counts_read complete =
        ext_get_or 0 (counts_of m.globe.grid s) m.counts (length_tabulate at_index n ∙ sym complete) (λ i h. each i (rw (length_tabulate at_index n) at h))
      where
        n : ℕ
        n = width_of m * height_of m

        at_index : ℕ → ℕ
        at_index i = count_at m.globe.grid s (i / width_of m) (i % width_of m)

        each : (i : ℕ) → i < n → get_or (tabulate at_index n) i 0 ≡ get_or m.counts i 0
        each i h =
            let at = place_in (width_of m) (height_of m) i h in
            get_d_tabulate at_index n i 0 h ∙ count_read (i / width_of m) (i % width_of m) at.0 at.1
            ∙ ap (λ (k : ℕ). get_or m.counts k 0) (div-add-mod' i (width_of m))

-- ---- a filled table

-- what a call knows once it has filled the sums
module _ (g : Grid) (counts l s : List ℕ) (told : Fillable g counts l) (filled : s ≡ filled_sums (counts_map g counts) l) where
  pub table_counts : counts_of g s ≡ counts
  table_counts = counts_read (counts_map g counts) l s filled told.complete

  pub table_map_lem : table_map g s ≡ counts_map g counts
  table_map_lem = ap (counts_map g) table_counts

  pub summed : ((i : ℕ) → get_or counts i 0 < 2 ^ 32) → Summed g s
  summed small =
      record {
        columns = told.columns;
        rows = told.rows;
        room = rw (filled, length_filled (counts_map g counts) l told.room) told.room;
        words = rw table_map_lem (filled_own (counts_map g counts) l s filled);
        exact = rw table_map_lem (omega (arith, total_small (counts_map g counts) small told.rows told.columns));
      }

-- the same of a map with its sheet
module _ (m : Map) (l s : List ℕ) (told : Fillable m.globe.grid m.counts l) (filled : s ≡ filled_sums m l) where
  pub globe_map_lem : globe_map m.globe s ≡ m
  globe_map_lem = ap (λ (counts : List ℕ). record { globe = m.globe; counts = counts }) (counts_read m l s filled told.complete)

  pub globe_summed : ((i : ℕ) → get_or m.counts i 0 < 2 ^ 32) → Summed m.globe.grid s
  globe_summed small = summed m.globe.grid m.counts l s told (filled ∙ sym (bare_filled m l)) small
