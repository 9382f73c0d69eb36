-- The levels of a search on their way, over plain values: the blocks left in order in the first buffer, and what is left of the levels the
-- whole search.
use Rattle.std.proofs.Common.{Option, None}
use Prim.Native.Nat.{ℕ, zero, suc, ◌+◌, ◌-◌, ◌≤◌, ◌<◌, ◌^◌}
use mathlib.Core.Path.{◌≡◌, refl, sym, ap, subst, ◌∙◌}
use mathlib.Core.List.{List, [], ◌∷◌}
use native.Mathlib.Omega.{arith}
use lib.Ieee.{Float}
use lib.ListN.{length, take}
use lib.Seq.{length-take-le}
use Rattle.lists.specs.Front.{onto}
use Rattle.lists.specs.Lists.{each, sort}
use Rattle.lists.proofs.Folds.{length_each}
use Rattle.lists.proofs.Fronts.{length_onto}
use Rattle.lists.specs.Elements.{AllOf, total_of}
use Rattle.lists.proofs.Elements.{all_map}
use Rattle.lists.proofs.Sorts.{all_sort, total_sort}
use Rattle.grid.specs.declared.Grid.{Grid}
use Rattle.grid.specs.Grid.{cells}
use Rattle.grid.specs.Map.{Map}
use Rattle.grid.proofs.Sizes.{Sizes, grid_sizes}
use Rattle.blocks.specs.declared.Block.{Block}
use Rattle.blocks.specs.Block.{area, by_probe, tile, Rectangle}
use Rattle.blocks.specs.State.{word_of, blocks_of, words_by_probe, Tiled}
use Rattle.blocks.specs.Requires.{Small}
use Rattle.blocks.proofs.Tiles.{length_area, tile_rectangle, tile_room}
use Rattle.blocks.proofs.Words.{rectangle_small, blocks_onto, blocks_written, blocks_sorted}
use Rattle.tally.specs.declared.Tally.{Tally}
use Rattle.levels.specs.declared.ChunkResult.{ChunkResult}
use Rattle.search_rules.specs.declared.SearchResult.{SearchResult}
use Rattle.levels.specs.Level.{level, level_in_order}
use Rattle.chunk_work.specs.Work.{Outcome}
use Rattle.tally.specs.Counts.{no_tally, plus, plus_stats}
use Rattle.search_rules.specs.Search.{levels, searched}
use Rattle.levels.specs.State.{summed_map, children, Swept}
use Rattle.tally.specs.State.{weight, stats_weight}
use Rattle.levels.specs.Requires.{most_cells, Ready, CanSweep}
use Rattle.search_rules.specs.Requires.{TwoBuffers}
use Rattle.search_rules.specs.State.{FirstLevel, with_level}
use Rattle.levels.proofs.Counts.{level_counts}
use Rattle.search_rules.proofs.Levels.{after, Counted, blocks_fit, counted_first, counted_next, no_fuel, levels_none}
use Rattle.search_rules.proofs.Places.{Few, counted_few, cells_few}
use Rattle.candidates.specs.declared.Candidate.{Candidate}

-- the words of rectangles on a grid that question 1 lets pass
words_small : (g : Grid) → Sizes g → {bs : List Block} → AllOf (Rectangle g) bs → AllOf Small bs
words_small g s rs = all_map (λ b r. rectangle_small g (omega (arith, s.columns)) (omega (arith, s.rows)) b r) rs

-- the blocks of the first n words, once these are put in order in the other buffer
front_sorted : (n : ℕ) (src dst dst' : List ℕ) → n ≤ length src → dst' ≡ onto (sort words_by_probe (take n src)) dst
    → blocks_of (take n dst') ≡ sort by_probe (blocks_of (take n src))
front_sorted n src dst dst' h e =
    ap (λ (l : List ℕ). blocks_of (take n l)) e ∙ ap (λ (k : ℕ). blocks_of (take k (onto (sort words_by_probe (take n src)) dst))) (sym (length-take-le n src h))
    ∙ blocks_sorted (take n src) dst

-- ---- the first level

module _ (g : Grid) (spacing : ℕ) (current following : List ℕ) (two : TwoBuffers g current following) where
  abbrev tiles : List Block
  tiles = tile g spacing

  first_sizes : Sizes g
  first_sizes = grid_sizes g two.sizes

  tiles_few : length tiles ≤ cells g
  tiles_few = tile_room g spacing first_sizes.some_columns first_sizes.some_rows

  pub first_tiles : length tiles ≤ length following
  first_tiles = omega (arith, tiles_few, two.following_room)

  module _ (n : ℕ) (following' : List ℕ) (tiled : Tiled following (each word_of tiles) following' n) where
    number : n ≡ length tiles
    number = tiled.number ∙ length_each word_of tiles

    following_size : length following' ≡ length following
    following_size =
        ap (length {A = ℕ}) tiled.words ∙ length_onto (each word_of tiles) following (omega (arith, length_each word_of tiles, first_tiles))

    pub first_words : n ≤ length following'
    first_words = omega (arith, number, following_size, first_tiles)

    pub first_fits : length (take n following') ≤ length current
    first_fits = omega (arith, length-take-le n following' first_words, number, tiles_few, two.current_room)

    pub first_is : (current' : List ℕ) → current' ≡ onto (sort words_by_probe (take n following')) current → FirstLevel g spacing current' n
    first_is current' e =
        let small = words_small g first_sizes (tile_rectangle g spacing first_sizes.some_columns first_sizes.some_rows) in
        let there : blocks_of (take n following') ≡ tiles =
        ap (λ (k : ℕ). blocks_of (take k following')) number ∙ ap (λ (l : List ℕ). blocks_of (take (length tiles) l)) tiled.words ∙ blocks_onto tiles following small in
        record {
          number = number;
          order = front_sorted n following' current current' first_words e ∙ ap (sort by_probe) there;
        }

-- ---- counts stay small

few_light : (t : Tally) → Few t → weight t ≤ 30000000
unfolding weight stats_weight
few_light t f = omega (arith, f.levels, f.examined, f.pruned, f.evaluated, f.kernels, f.cells_ended)

level_light : (m : Map) (km : Float) (best : Option Candidate) (bs : List Block) → AllOf (Rectangle m.globe.grid) bs → total_of area bs ≤ most_cells
    → weight (level m km best bs).tally ≤ 100000
unfolding weight stats_weight
level_light m km best bs rs h =
    let c = level_counts m km best bs rs in
    omega (arith, c.cells, c.levels, c.examined, c.either, c.kernels, length_area m.globe.grid rs)

-- ---- one level more

levels_step : (fuel : ℕ) (m : Map) (km : Float) (s : SearchResult) (bs : List Block) → 0 < length bs
    → levels (suc fuel) m km s bs ≡ levels fuel m km (after m km s bs) (children (level m km s.held bs))
unfolding levels
levels_step fuel m km s [] h = absurd (omega arith)
levels_step fuel m km s (b ∷ bs) h = refl

level_sorted : (m : Map) (km : Float) (best : Option Candidate) (bs sorted : List Block) → sorted ≡ sort by_probe bs → level_in_order m km best sorted ≡ level m km best bs
unfolding level_in_order level
level_sorted m km best bs sorted e = rw e

-- ---- the loop

module _ (gr : Grid) (angles cosines : List Float) (sums : List ℕ) (km : Float) (spacing : ℕ) (current₀ following₀ : List ℕ) where
  abbrev the_map : Map
  the_map = summed_map gr angles cosines sums

  pub record Descending (current following : List ℕ) (live : ℕ) (found : SearchResult) : Type 0 where
    pub current_size : length current ≡ length current₀
    pub following_size : length following ≡ length following₀
    pub current_room : cells gr ≤ length current
    pub following_room : cells gr ≤ length following
    pub left : List Block
    pub fuel : ℕ
    pub number : live ≡ length left
    pub order : blocks_of (take live current) ≡ sort by_probe left
    pub counted : Counted gr fuel found.tally left
    pub whole : levels fuel the_map km found left ≡ searched the_map km spacing

  module _ (t : Ready gr angles cosines sums) where
    s : Sizes gr
    s = grid_sizes gr t.sizes

    few_cells : cells gr ≤ most_cells
    few_cells = cells_few gr s

    pub descend_start : cells gr ≤ length current₀ → cells gr ≤ length following₀ → (n : ℕ) → FirstLevel gr spacing current₀ n
        → Descending current₀ following₀ n (record { held = None; tally = no_tally })
    unfolding searched
    descend_start p q n f =
        record {
          current_size = refl;
          following_size = refl;
          current_room = p;
          following_room = q;
          left = tile gr spacing;
          fuel = gr.width + gr.height;
          number = f.number;
          order = f.order;
          counted = counted_first gr spacing s.some_columns s.some_rows;
          whole = refl;
        }

    module _ (current following : List ℕ) (live : ℕ) (found : SearchResult) (d : Descending current following live found) where
      all : AllOf (Rectangle gr) d.left
      all = all_map (λ b x. x.rectangle) d.counted.small

      area_few : total_of area d.left ≤ cells gr
      area_few = omega (arith, d.counted.cells_all)

      pub descend_words : live ≤ length current
      descend_words = omega (arith, d.number, blocks_fit gr d.fuel found.tally d.left d.counted, d.current_room)

      pub descend_sweeps : CanSweep gr (blocks_of (take live current)) following 0
      descend_sweeps =
          rw d.order
          (record {
            rectangles = all_sort by_probe d.left all;
            narrow = omega (arith, total_sort by_probe area d.left, area_few, few_cells);
            room = omega (arith, total_sort by_probe area d.left, area_few, d.following_room);
          })

      module _ (some : 0 < live) (r : ChunkResult) (following' : List ℕ) (swept : Swept (level_in_order the_map km found.held (blocks_of (take live current))) following 0 following' r) where
        abbrev o : Outcome
        o = level the_map km found.held d.left

        is : level_in_order the_map km found.held (blocks_of (take live current)) ≡ o
        is = level_sorted the_map km found.held d.left (blocks_of (take live current)) d.order

        outcome : Swept o following 0 following' r
        outcome = subst (λ (x : Outcome). Swept x following 0 following' r) is swept

        pub descend_light : weight found.tally + weight r.tally ≤ 2 ^ 31
        descend_light =
            rw outcome.counts
            (omega (
              arith,
              few_light found.tally (counted_few gr s found.tally d.fuel d.left d.counted),
              level_light the_map km found.held d.left all (omega (arith, area_few, few_cells)),
            ))

        -- a level is left while a block is
        fuelled : (n : ℕ) (bs : List Block) → 0 < length bs → Counted gr n found.tally bs → 0 < n
        fuelled zero [] h c = absurd (omega arith)
        fuelled zero (b ∷ bs) h c = absurd (no_fuel gr found.tally b bs c)
        fuelled (suc n) bs h c = omega arith

        abbrev fewer : ℕ
        fewer = d.fuel - 1

        some_left : 0 < length d.left
        some_left = omega (arith, d.number)

        fuel_is : d.fuel ≡ suc fewer
        fuel_is = omega (arith, fuelled d.fuel d.left some_left d.counted)

        counted_after : Counted gr fewer (plus found.tally o.tally) (children o)
        counted_after =
            counted_next the_map km found.held fewer found.tally d.left (subst (λ (n : ℕ). Counted gr n found.tally d.left) fuel_is d.counted)

        live_is : r.live ≡ length (children o)
        live_is = omega (arith, outcome.written.place, length_each word_of (children o))

        live_few : r.live ≤ cells gr
        live_few = omega (arith, live_is, blocks_fit gr fewer (plus found.tally o.tally) (children o) counted_after)

        module _ (kept : length following' ≡ length following) where
          descend_front : r.live ≤ length following'
          descend_front = omega (arith, live_few, d.following_room)

          pub descend_fits : length (take r.live following') ≤ length current
          descend_fits = omega (arith, length-take-le r.live following' descend_front, live_few, d.current_room)

          pub descend_less : gr.width + gr.height - (with_level found r).tally.stats.levels < gr.width + gr.height - found.tally.stats.levels
          unfolding with_level plus plus_stats
          descend_less =
              rw outcome.counts
              (omega (
                arith,
                (level_counts the_map km found.held d.left all).levels,
                d.counted.levels_all,
                fuel_is,
              ))

          pub descend_next : (current' : List ℕ) → length current' ≡ length current → current' ≡ onto (sort words_by_probe (take r.live following')) current
              → Descending current' following' r.live (with_level found r)
          unfolding with_level blocks_of each
          descend_next current' same e =
              let small = words_small gr s (all_map (λ b x. x.rectangle) counted_after.small) in
              let k-is : r.live ≡ 0 + length (children o) = omega (arith, live_is) in
              let there : blocks_of (take r.live following') ≡ children o =
              ap (λ (k : ℕ). blocks_of (take k following')) k-is ∙ ap (λ (l : List ℕ). blocks_of (take (0 + length (children o)) l)) outcome.written.words
              ∙ blocks_written 0 (children o) following small (omega arith) in
              record {
                current_size = same ∙ d.current_size;
                following_size = kept ∙ d.following_size;
                current_room = omega (arith, d.current_room);
                following_room = omega (arith, d.following_room);
                left = children o;
                fuel = fewer;
                number = live_is;
                order = front_sorted r.live following' current current' descend_front e ∙ ap (sort by_probe) there;
                counted = rw outcome.counts counted_after;
                whole =
                    rw (outcome.counts, outcome.held)
                    (sym (levels_step fewer the_map km found d.left some_left)
                    ∙ ap (λ (n : ℕ). levels n the_map km found d.left) (sym fuel_is) ∙ d.whole);
              }

      pub descend_done : live ≤ 0 → found ≡ searched the_map km spacing
      descend_done h =
          sym (levels_none d.fuel the_map km found) ∙ ap (levels d.fuel the_map km found) (sym (nothing_left d.left (omega (arith, d.number))))
          ∙ d.whole
        where
          nothing_left : (bs : List Block) → length bs ≡ 0 → bs ≡ []
          nothing_left [] e = refl
          nothing_left (b ∷ bs) e = absurd (omega arith)
