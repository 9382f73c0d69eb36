-- Bands and spans by rectangles: the people of a band of rows and a span of columns, and of a band's columns around a centre, for every size.
use mathlib.Core.Path.{◌≡◌, sym, ◌∙◌}
use mathlib.Core.Bool.{true, false, cond, ◌&&◌}
use Prim.Native.Nat.{ℕ, ◌+◌, ◌-◌, ◌/◌, ◌≤◌, ◌<◌}
use native.Mathlib.Omega.{arith}
use borrow.Author.Tests.{le-leb, lt-leb}
use Rattle.lists.specs.Counted.{sum_below}
use Rattle.lists.proofs.Sums.{sum_ext, sum_zeros, sum_from, seg_same, one_piece}
use Rattle.grid.specs.declared.Col.{Col}
use Rattle.grid.specs.Map.{Map}
use Rattle.sums.specs.declared.RowBand.{RowBand}
use Rattle.sums.specs.declared.Rows.{Rows}
use Rattle.sums.specs.declared.ColSpan.{ColSpan}
use Rattle.sums.specs.Sums.{rectangle_population, span_of, in_band, in_span, band_population, row_span, band_span}
use Rattle.sums.proofs.Columns.{spanned, span_one_piece, span_two_pieces, within, within_turn, within_inland, within_west, within_east}
use Rattle.sums.proofs.Laws.{people, width_of, height_of, one_rectangle, two_rectangles}

-- the columns from one to another
abbrev columns : ℕ → ℕ → ColSpan
columns west east = span_of (record { 0 = west }) (record { 0 = east })

-- the rows of a band
abbrev pub rows_of : RowBand → Rows
rows_of b = record { north = b.north.0; end = b.south.0 + 1 }

-- ---- a band of rows

module _ (band : RowBand) where
  band_north : (r : ℕ) → r < band.north.0 → in_band band r ≡ false
  unfolding in_band
  band_north r h = rw (lt-leb band.north.0 r h)

  band_in : (r : ℕ) → band.north.0 ≤ r → r ≤ band.south.0 → in_band band r ≡ true
  unfolding in_band
  band_in r p q = rw (le-leb band.north.0 r p, le-leb r band.south.0 q)

  band_south : (r : ℕ) → band.north.0 ≤ r → band.south.0 < r → in_band band r ≡ false
  unfolding in_band
  band_south r p q = rw (le-leb band.north.0 r p, lt-leb r band.south.0 q)

module _ (m : Map) (band : RowBand) (span : ColSpan) where
  -- what a row gives: nothing outside the band, and in it the columns of the span
  taken : ℕ → ℕ
  taken r = sum_below (width_of m) (λ k. cond (in_band band r && in_span span k) (people m r k) 0)

  row_out : (r : ℕ) → in_band band r ≡ false → taken r ≡ 0
  unfolding taken
  row_out r e = sum_zeros (width_of m) _ (λ k h. rw e)

  row_in : (r : ℕ) → in_band band r ≡ true → taken r ≡ sum_below (width_of m) (spanned span (people m r))
  unfolding taken spanned
  row_in r e = sum_ext (width_of m) _ _ (λ k h. rw e)

  module _ (ordered : band.north.0 ≤ band.south.0) (on : band.south.0 < height_of m) where
    pub band_rows : band_population m band span ≡ sum_from band.north.0 (band.south.0 + 1) (λ r. sum_below (width_of m) (spanned span (people m r)))
    unfolding band_population taken
    band_rows =
        one_piece (λ r. sum_below (width_of m) (spanned span (people m r))) taken band.north.0 (band.south.0 + 1) (height_of m) (omega arith) (omega arith)
        (λ r p. row_out r (band_north band r p))
        (λ r p q. row_in r (band_in band r p (omega arith)))
        (λ r p q. row_out r (band_south band r (omega arith) (omega arith)))

    -- one rectangle, or two at the seam
    pub band_plain : span.west.0 ≤ span.east.0 → span.east.0 < width_of m
        → band_population m band span ≡ rectangle_population m (rows_of band) span.west.0 (span.east.0 + 1)
    band_plain p q = band_rows ∙ one_rectangle m (rows_of band) _ span.west.0 (span.east.0 + 1) (λ r. span_one_piece span (width_of m) (people m r) p q)

    pub band_seam : span.east.0 < span.west.0 → span.west.0 < width_of m
        → band_population m band span ≡ rectangle_population m (rows_of band) span.west.0 (width_of m) + rectangle_population m (rows_of band) 0 (span.east.0 + 1)
    band_seam p q =
        band_rows
        ∙ two_rectangles m (rows_of band) _ span.west.0 (width_of m) 0 (span.east.0 + 1)
        (λ r. span_two_pieces span (width_of m) (people m r) p (omega arith))

-- ---- a band's columns around a centre

module _ (m : Map) (band : RowBand) (centre : Col) (half : ℕ) (ordered : band.north.0 ≤ band.south.0) (on : band.south.0 < height_of m) where
  pub band_span_rows : band_span m band centre half ≡ sum_from band.north.0 (band.south.0 + 1) (λ r. row_span m (record { 0 = r }) centre half)
  unfolding band_span
  band_span_rows =
      one_piece (λ r. row_span m (record { 0 = r }) centre half) _ band.north.0 (band.south.0 + 1) (height_of m) (omega arith) (omega arith)
      (λ r p. rw (band_north band r p))
      (λ r p q. rw (band_in band r p (omega arith)))
      (λ r p q. rw (band_south band r (omega arith) (omega arith)))

  -- half the width and more: every column once
  pub around_turn : width_of m / 2 ≤ half → band_span m band centre half ≡ rectangle_population m (rows_of band) 0 (width_of m)
  unfolding row_span within
  around_turn h = band_span_rows ∙ one_rectangle m (rows_of band) _ 0 (width_of m) (λ r. within_turn (width_of m) centre.0 half (people m r) h)

  -- less: a span, if in every row its columns are those around the centre
  around : (s : ColSpan) → ((f : ℕ → ℕ) → sum_below (width_of m) (within (width_of m) centre.0 half f) ≡ sum_below (width_of m) (spanned s f))
      → band_span m band centre half ≡ band_population m band s
  unfolding row_span within
  around s same = band_span_rows ∙ seg_same band.north.0 (band.south.0 + 1) _ _ (λ r p q. same (people m r)) ∙ sym (band_rows m band s ordered on)

  -- one that does not meet the seam, or goes across it, in the west or in the east
  module _ (in_row : centre.0 < width_of m) (short : half < width_of m / 2) where
    pub around_inland : half ≤ centre.0 → centre.0 + half < width_of m
        → band_span m band centre half ≡ band_population m band (columns (centre.0 - half) (centre.0 + half))
    around_inland p q =
        let s = columns (centre.0 - half) (centre.0 + half) in
        around s (λ f. within_inland (width_of m) centre.0 half f in_row (omega arith) p q ∙ sym (span_one_piece s (width_of m) f (omega arith) q))

    pub around_west : centre.0 < half → band_span m band centre half ≡ band_population m band (columns (centre.0 + width_of m - half) (centre.0 + half))
    around_west p =
        let s = columns (centre.0 + width_of m - half) (centre.0 + half) in
        around s (λ f. within_west (width_of m) centre.0 half f in_row (omega arith) p ∙ sym (span_two_pieces s (width_of m) f (omega arith) (omega arith)))

    pub around_east : half ≤ centre.0 → width_of m ≤ centre.0 + half
        → band_span m band centre half ≡ band_population m band (columns (centre.0 - half) (centre.0 + half - width_of m))
    around_east p q =
        let s = columns (centre.0 - half) (centre.0 + half - width_of m) in
        around s (λ f. within_east (width_of m) centre.0 half f in_row (omega arith) p q ∙ sym (span_two_pieces s (width_of m) f (omega arith) (omega arith)))
