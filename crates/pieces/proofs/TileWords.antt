-- The grid's tiles one after the other, as the code writes them: a row of tiles, and the rows.
use Prim.Native.Nat.{ℕ, ◌+◌, ◌-◌, ◌≤◌, ◌<◌, min, max}
use mathlib.Core.Path.{◌≡◌, refl, ap, ◌∙◌}
use mathlib.Core.List.{List, [], ◌∷◌, ◌++◌}
use native.Mathlib.Omega.{arith}
use lib.ListN.{length, set, drop, length-append}
use Rattle.lists.specs.Lists.{each}
use Rattle.lists.specs.Front.{onto}
use Rattle.lists.proofs.Folds.{length_each, each_append}
use Rattle.lists.proofs.Writes.{Writing, writing_start, writing_step, writing_more, writing_end, writing_done, writing_room}
use Rattle.grid.specs.declared.Grid.{Grid}
use Rattle.blocks.specs.Block.{Range, range, block, tile}
use Rattle.blocks.specs.State.{Written, Tiled, word_of, tile_row}
use Rattle.blocks.proofs.Cuts.{row_from, row_all, row_none, row_cut, tiles_from, tiles_all, tiles_none, tiles_cut}

-- ---- a row of tiles

module _ (width spacing : ℕ) where
  -- the words of the tiles that are left of a row, from a column on, and of all
  abbrev pub row_left : Range → ℕ → List ℕ
  row_left rows first = each word_of (row_from width spacing rows first)

  abbrev pub row_whole : Range → List ℕ
  row_whole rows = each word_of (tile_row width spacing rows)

  module _ (rows : Range) (l : List ℕ) (at : ℕ) where
    pub row_start : at + length (tile_row width spacing rows) ≤ length l → Writing l at (row_whole rows) l at (row_left rows 0)
    row_start h = rw (row_all width spacing rows) (writing_start l at (row_whole rows) (rw (length_each word_of (tile_row width spacing rows)) h))

    module _ (l' : List ℕ) (next first : ℕ) (w : Writing l at (row_whole rows) l' next (row_left rows first)) where
      module _ (last : ℕ) (h : first < width) (e : last ≡ min (first + (spacing - 1)) (width - 1)) where
        more : (on : ℕ) → on ≡ first + max spacing 1 → row_left rows first ≡ word_of (block rows (range first last)) ∷ row_left rows on
        unfolding each
        more on k = ap (each word_of) (row_cut width spacing rows first last on h e k)

        pub row_room : next < length l'
        row_room = omega (arith, writing_room w, ap (length {A = ℕ}) (more _ refl))

        pub row_step : (step v : ℕ) → step ≡ max spacing 1 → v ≡ word_of (block rows (range first last))
            → Writing l at (row_whole rows) (set l' next v) (next + 1) (row_left rows (first + step))
        row_step step v s k = rw k (writing_step w (word_of (block rows (range first last))) (row_left rows (first + step)) (more (first + step) (omega arith)))

      pub row_done : width ≤ first → Written l at (row_whole rows) l' next
      unfolding each
      row_done h =
          let e : row_left rows first ≡ [] = ap (each word_of) (row_none width spacing rows first h) in
          record { place = writing_end w e; words = writing_done w e }

-- ---- the rows

module _ (width height spacing : ℕ) where
  -- the words of the tiles that are left, from a row on, and of all
  abbrev pub tiles_left : ℕ → List ℕ
  tiles_left north = each word_of (tiles_from width height spacing north)

  abbrev pub tiles_whole : List ℕ
  tiles_whole = tiles_left 0

  module _ (l : List ℕ) where
    pub tiles_start : length tiles_whole ≤ length l → Writing l 0 tiles_whole l 0 (tiles_left 0)
    tiles_start h = writing_start l 0 tiles_whole (omega arith)

    module _ (l' : List ℕ) (next north : ℕ) (w : Writing l 0 tiles_whole l' next (tiles_left north)) where
      module _ (south : ℕ) (h : north < height) (e : south ≡ min (north + (spacing - 1)) (height - 1)) where
        row_more : (on : ℕ) → on ≡ north + max spacing 1 → tiles_left north ≡ row_whole width spacing (range north south) ++ tiles_left on
        row_more on k =
            ap (each word_of) (tiles_cut width height spacing north south on h e k)
            ∙ each_append word_of (tile_row width spacing (range north south)) (tiles_from width height spacing on)

        pub tiles_room : next + length (tile_row width spacing (range north south)) ≤ length l'
        tiles_room =
            let row = row_whole width spacing (range north south) in
            let on = north + max spacing 1 in
            omega (
              arith,
              writing_room w,
              ap (length {A = ℕ}) (row_more on refl),
              length-append row (tiles_left on),
              length_each word_of (tile_row width spacing (range north south)),
            )

        pub tiles_step : (step : ℕ) (l'' : List ℕ) (end : ℕ) → step ≡ max spacing 1 → Written l' next (row_whole width spacing (range north south)) l'' end
            → Writing l 0 tiles_whole l'' end (tiles_left (north + step))
        tiles_step step l'' end s r =
            rw r.place
            (writing_more w (row_whole width spacing (range north south)) (tiles_left (north + step)) l'' (row_more (north + step) (omega arith)) r.words)

      pub tiles_done : height ≤ north → Tiled l tiles_whole l' next
      unfolding each onto
      tiles_done h =
          let e : tiles_left north ≡ [] = ap (each word_of) (tiles_none width height spacing north h) in
          let k : 0 + length tiles_whole ≡ length tiles_whole = omega arith in
          record { number = writing_end w e ∙ k; words = writing_done w e ∙ ap (λ (n : ℕ). tiles_whole ++ drop n l) k }

-- the definition's tiles
pub tiles_of : (g : Grid) (spacing : ℕ) → tiles_whole g.width g.height spacing ≡ each word_of (tile g spacing)
tiles_of g spacing = ap (each word_of) (tiles_all g spacing)
