-- Children one after the other, as the code writes them.
use Prim.Native.Nat.{ℕ, ◌+◌, ◌<◌}
use mathlib.Core.Path.{◌≡◌, refl, sym, ap, ◌∙◌}
use mathlib.Core.Bool.{true, false}
use mathlib.Core.List.{List, [], ◌∷◌, ◌++◌, append-nil}
use native.Mathlib.Omega.{arith}
use native.Mathlib.Nat.{add-zero}
use lib.Dec.{eqb}
use borrow.Author.Tests.{eqb-true, eqb-false}
use lib.ListN.{length, set, length-append}
use Rattle.lists.specs.Lists.{each}
use Rattle.lists.proofs.Folds.{length_each, each_append}
use Rattle.lists.proofs.Writes.{written_none, Writing, writing_start, writing_step, writing_more, writing_end, writing_done}
use Rattle.blocks.specs.declared.Block.{Block}
use Rattle.blocks.specs.Block.{is_cell, middle, split}
use Rattle.blocks.specs.State.{Written, word_of, column_halves}
use Rattle.blocks.proofs.Cuts.{west, east, upper, lower, columns_one, columns_two, split_rows}
use Rattle.pieces.specs.Requires.{CanHalve, CanSplit}

-- what has been written, once nothing is left
pub all_written : {l₀ : List ℕ} {at₀ : ℕ} {whole l : List ℕ} {at : ℕ} {left : List ℕ} → Writing l₀ at₀ whole l at left → left ≡ [] → Written l₀ at₀ whole l at
all_written w e = record { place = writing_end w e; words = writing_done w e }

-- a comparison's result as a fact
pub same : {x y : ℕ} → true ≡ eqb x y → x ≡ y
same e = eqb-true _ _ (sym e)

pub different : {x y : ℕ} → false ≡ eqb x y → x ≡ y → ⊥
different e = eqb-false _ _ (sym e)

-- ---- a block whose columns are halved

module _ (b : Block) (l : List ℕ) (at : ℕ) (h : CanHalve b l at) where
  start : Writing l at (each word_of (column_halves b)) l at (each word_of (column_halves b))
  start = writing_start l at (each word_of (column_halves b)) (rw (length_each word_of (column_halves b)) h.room)

  pub room_one : true ≡ eqb b.first.0 b.last.0 → at < length l
  room_one e = omega (arith, h.room, ap (length {A = Block}) (columns_one b (same e)))

  pub room_two : false ≡ eqb b.first.0 b.last.0 → at + 1 < length l
  room_two e = omega (arith, h.room, ap (length {A = Block}) (columns_two b (different e)))

  pub halve_one : (v : ℕ) → true ≡ eqb b.first.0 b.last.0 → v ≡ word_of b → Written l at (each word_of (column_halves b)) (set l at v) (at + 1)
  unfolding each
  halve_one v e k = rw k (all_written (writing_step start (word_of b) [] (ap (each word_of) (columns_one b (same e)))) refl)

  pub halve_two : (mid v w : ℕ) → false ≡ eqb b.first.0 b.last.0 → mid ≡ middle b.first.0 b.last.0 → v ≡ word_of (west b mid) → w ≡ word_of (east b mid)
      → Written l at (each word_of (column_halves b)) (set (set l at v) (at + 1) w) (at + 2)
  unfolding each
  halve_two mid v w e m p q =
      let two : each word_of (column_halves b) ≡ word_of (west b mid) ∷ word_of (east b mid) ∷ [] = rw m (ap (each word_of) (columns_two b (different e))) in
      let one = writing_step start (word_of (west b mid)) (word_of (east b mid) ∷ []) two in
      let done = all_written (writing_step one (word_of (east b mid)) [] refl) refl in
      let k : at + 1 + 1 ≡ at + 2 = omega arith in
      rw (p, q, ← k) done

-- ---- a block split

module _ (b : Block) where
  pub none_written : (l : List ℕ) (at : ℕ) → split b ≡ [] → Written l at (each word_of (split b)) l at
  unfolding each
  none_written l at e = rw e (record { place = sym (add-zero at); words = sym (written_none at l) })

  pub columns_fit : (l : List ℕ) (at : ℕ) → CanSplit b l at → split b ≡ column_halves b → CanHalve b l at
  columns_fit l at h e = record { first = h.small.first; last = h.small.last; room = rw e at h.room }

  module _ (l : List ℕ) (at : ℕ) (h : CanSplit b l at) (mid : ℕ) (e : is_cell b ≡ false) (s : false ≡ eqb b.north.0 b.south.0)
      (m : mid ≡ middle b.north.0 b.south.0) where
    number : length (split b) ≡ length (column_halves (upper b mid)) + length (column_halves (lower b mid))
    number = ap (length {A = Block}) (split_rows b mid e (different s) m) ∙ length-append (column_halves (upper b mid)) (column_halves (lower b mid))

    pub upper_fits : CanHalve (upper b mid) l at
    upper_fits = record { first = h.small.first; last = h.small.last; room = omega (arith, number, h.room) }

    pub lower_fits : (l' : List ℕ) (next : ℕ) → length l' ≡ length l → Written l at (each word_of (column_halves (upper b mid))) l' next → CanHalve (lower b mid) l' next
    lower_fits l' next k w =
        let n : next ≡ at + length (each word_of (column_halves (upper b mid))) = w.place in
        record { first = h.small.first; last = h.small.last; room = omega (arith, number, h.room, length_each word_of (column_halves (upper b mid))) }

    pub both_written : (l' l'' : List ℕ) (next end : ℕ) → Written l at (each word_of (column_halves (upper b mid))) l' next
        → Written l' next (each word_of (column_halves (lower b mid))) l'' end → Written l at (each word_of (split b)) l'' end
    both_written l' l'' next end u v =
        let north = each word_of (column_halves (upper b mid)) in
        let south = each word_of (column_halves (lower b mid)) in
        let whole : each word_of (split b) ≡ north ++ south =
        ap (each word_of) (split_rows b mid e (different s) m) ∙ each_append word_of (column_halves (upper b mid)) (column_halves (lower b mid)) in
        let w₀ = writing_start l at (each word_of (split b)) (rw (length_each word_of (split b)) h.room) in
        let w₁ = writing_more w₀ north south l' whole u.words in
        let p : at + length north ≡ next = sym u.place in
        let w₂ = writing_more w₁ south [] l'' (sym (append-nil south)) (rw p v.words) in
        let q : at + length north + length south ≡ end = ap (λ (k : ℕ). k + length south) p ∙ sym v.place in
        rw (← q) (all_written w₂ refl)
