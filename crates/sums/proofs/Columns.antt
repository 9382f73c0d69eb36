-- The columns of a row around the ring, for every width: a span, and the columns within a distance of one, with the sums over them.
use Prim.Native.Nat.{ℕ, ◌+◌, ◌-◌, ◌/◌, ◌≤◌, ◌<◌}
use mathlib.Core.Path.{◌≡◌, sym, ◌∙◌}
use mathlib.Core.Bool.{cond, ◌&&◌, ◌||◌}
use native.Mathlib.Omega.{arith}
use lib.Dec.{leb}
use borrow.Author.Tests.{le-leb, lt-leb}
use Rattle.lists.specs.Counted.{sum_below}
use Rattle.lists.proofs.Sums.{sum_ext, sum_from, seg_all, one_piece, two_pieces}
use Rattle.grid.specs.Grid.{column_distance}
use Rattle.grid.proofs.Distance.{distance_half}
use Rattle.sums.specs.declared.ColSpan.{ColSpan}
use Rattle.sums.specs.Sums.{in_span}

-- ---- a span, in one piece or in two at the seam

module _ (s : ColSpan) where
  pub span_plain : (k : ℕ) → s.west.0 ≤ s.east.0 → in_span s k ≡ (leb s.west.0 k && leb k s.east.0)
  unfolding in_span
  span_plain k h = rw (le-leb s.west.0 s.east.0 h)

  pub span_seam : (k : ℕ) → s.east.0 < s.west.0 → in_span s k ≡ (leb s.west.0 k || leb k s.east.0)
  unfolding in_span
  span_seam k h = rw (lt-leb s.west.0 s.east.0 h)

  -- the terms of a sum that a span takes
  unfoldable pub spanned : (ℕ → ℕ) → ℕ → ℕ
  spanned f k = cond (in_span s k) (f k) 0

  pub span_one_piece : (w : ℕ) (f : ℕ → ℕ) → s.west.0 ≤ s.east.0 → s.east.0 < w
      → sum_below w (spanned f) ≡ sum_from s.west.0 (s.east.0 + 1) f
  unfolding spanned
  span_one_piece w f h l =
      one_piece f (spanned f) s.west.0 (s.east.0 + 1) w (omega arith) (omega arith)
      (λ k p. rw (span_plain k h, lt-leb s.west.0 k p))
      (λ k p q. rw (span_plain k h, le-leb s.west.0 k p, le-leb k s.east.0 (omega arith)))
      (λ k p q. rw (span_plain k h, le-leb s.west.0 k (omega arith), lt-leb k s.east.0 (omega arith)))

  pub span_two_pieces : (w : ℕ) (f : ℕ → ℕ) → s.east.0 < s.west.0 → s.west.0 ≤ w
      → sum_below w (spanned f) ≡ sum_from s.west.0 w f + sum_from 0 (s.east.0 + 1) f
  unfolding spanned
  span_two_pieces w f h l =
      two_pieces f (spanned f) (s.east.0 + 1) s.west.0 w (omega arith) l
      (λ k p. rw (span_seam k h, lt-leb s.west.0 k (omega arith), le-leb k s.east.0 (omega arith)))
      (λ k p q. rw (span_seam k h, lt-leb s.west.0 k (omega arith), lt-leb k s.east.0 (omega arith)))
      (λ k p q. rw (span_seam k h, le-leb s.west.0 k p))

-- ---- the columns within h of a column

-- the terms of a sum whose columns are within h of a column
unfoldable pub within : ℕ → ℕ → ℕ → (ℕ → ℕ) → ℕ → ℕ
within w c h f k = cond (leb (column_distance w c k) h) (f k) 0

module _ (w c h : ℕ) (f : ℕ → ℕ) where
  near : (k : ℕ) → column_distance w c k ≤ h → within w c h f k ≡ f k
  unfolding within
  near k d = rw (le-leb (column_distance w c k) h d)

  far : (k : ℕ) → h < column_distance w c k → within w c h f k ≡ 0
  unfolding within
  far k d = rw (lt-leb (column_distance w c k) h d)

  -- half the width and more is the full turn: every column, each once, the one opposite on an even ring included
  pub within_turn : w / 2 ≤ h → sum_below w (within w c h f) ≡ sum_from 0 w f
  within_turn l = sum_ext w (within w c h f) f (λ k q. near k (omega (arith, distance_half w c k))) ∙ sym (seg_all w f)

  -- where the columns from c − h to c + h are 2 h + 1 different ones: the pieces of those that do not meet the seam, or go across it
  module _ (on : c < w) (apart : h + h < w) where
    pub within_inland : h ≤ c → c + h < w → sum_below w (within w c h f) ≡ sum_from (c - h) (c + h + 1) f
    unfolding column_distance
    within_inland p q =
        one_piece f (within w c h f) (c - h) (c + h + 1) w (omega arith) (omega arith)
        (λ k a. far k (omega arith))
        (λ k a b. near k (omega arith))
        (λ k a b. far k (omega arith))

    pub within_west : c < h → sum_below w (within w c h f) ≡ sum_from (c + w - h) w f + sum_from 0 (c + h + 1) f
    unfolding column_distance
    within_west p =
        two_pieces f (within w c h f) (c + h + 1) (c + w - h) w (omega arith) (omega arith)
        (λ k a. near k (omega arith))
        (λ k a b. far k (omega arith))
        (λ k a b. near k (omega arith))

    pub within_east : h ≤ c → w ≤ c + h → sum_below w (within w c h f) ≡ sum_from (c - h) w f + sum_from 0 (c + h - w + 1) f
    unfolding column_distance
    within_east p q =
        two_pieces f (within w c h f) (c + h - w + 1) (c - h) w (omega arith) (omega arith)
        (λ k a. near k (omega arith))
        (λ k a b. far k (omega arith))
        (λ k a b. near k (omega arith))
