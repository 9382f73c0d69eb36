-- A level on its way through its chunks, over plain values: the definition's outcome so far, its children written, and room for the next.
use Rattle.std.proofs.Common.{Option}
use Prim.Native.Nat.{ℕ, zero, suc, ◌+◌, ◌-◌, ◌≤◌, ◌<◌, ◌^◌, min}
use mathlib.Core.Path.{◌≡◌, refl, sym, ap, ap₂, subst, ◌∙◌}
use mathlib.Core.List.{List, [], ◌∷◌, ◌++◌, append-nil, append_assoc}
use native.Mathlib.Omega.{arith}
use native.Mathlib.Decide.{dec_lt}
use lib.Ieee.{Float}
use lib.ListN.{length, take, drop, length-append, length-drop, drop_of_length-le}
use lib.Seq.{take_at, drop_at, take_all, length-take-le}
use Prim.Native.Nat.{max as greater}
use Rattle.lists.specs.Counted.{max, div_ceil}
use Rattle.lists.specs.Lists.{fold, each, concat_each, pieces}
use Rattle.lists.proofs.Folds.{fold_append, each_append, length_each, concat_append, concat_snoc}
use Rattle.lists.specs.Elements.{AllOf, total_of}
use Rattle.lists.proofs.Elements.{all_left, all_right, total_append}
use Rattle.grid.specs.declared.Grid.{Grid}
use Rattle.grid.specs.Map.{Map}
use Rattle.blocks.specs.declared.Block.{Block}
use Rattle.blocks.specs.Block.{area, split, Rectangle}
use Rattle.blocks.specs.State.{word_of, blocks_of, Written}
use Rattle.blocks.proofs.Tiles.{length_area}
use Rattle.candidates.specs.declared.Candidate.{Candidate}
use Rattle.candidates.specs.Candidate.{better_held}
use Rattle.levels.specs.declared.ChunkResult.{ChunkResult}
use Rattle.levels.specs.Level.{chunk, chunks, joined, level_in_order}
use Rattle.chunk_work.specs.Work.{Outcome}
use Rattle.tally.specs.Counts.{stats, tally, plus}
use Rattle.levels.specs.State.{summed_map, children, Swept, joined_results}
use Rattle.tally.specs.State.{weight, stats_weight}
use Rattle.levels.specs.Requires.{most_cells, CanSweep}
use Rattle.levels.proofs.Rule.{begun, chunks_rule, chunks_enough, chunks_whole, all_of_concat}
use Rattle.levels.proofs.Counts.{ended, Counts, counts_kept, next_fits}
use Rattle.sweep.proofs.Spans.{blocks_length, blocks_cut, blocks_rest, blocks_front}
use Rattle.sweep.proofs.Sweeps.{sofar_room, sofar_light, written_then, written_size, written_nothing}

-- ---- a list cut into pieces

pieces_none : {A : Type 0} (fuel n : ℕ) → pieces {A = A} fuel n [] ≡ []
unfolding pieces
pieces_none zero n = refl
pieces_none (suc fuel) n = refl

pieces_more : {A : Type 0} (fuel n : ℕ) (xs : List A) → 0 < length xs → pieces (suc fuel) n xs ≡ take n xs ∷ pieces fuel n (drop n xs)
unfolding pieces
pieces_more fuel n [] h = absurd (omega arith)
pieces_more fuel n (x ∷ xs) h = refl

pieces_out : {A : Type 0} (n : ℕ) (xs : List A) → pieces 0 n xs ≡ []
unfolding pieces
pieces_out n xs = refl

-- ---- the chunks that are done

module _ (m : Map) (km : Float) (best : Option Candidate) where
  abbrev g : Grid
  g = m.globe.grid

  abbrev pub joined_up : List (List Block) → Outcome
  joined_up ps = fold joined (begun best) (each (chunk m km best) ps)

  up_more : (ps : List (List Block)) (c : List Block) → joined_up (ps ++ c ∷ []) ≡ joined (joined_up ps) (chunk m km best c)
  unfolding fold each
  up_more ps c =
      ap (fold joined (begun best)) (each_append (chunk m km best) ps (c ∷ []))
      ∙ fold_append joined (begun best) (each (chunk m km best) ps) (chunk m km best c ∷ [])

  children_join : (o p : Outcome) → children (joined o p) ≡ children o ++ children p
  unfolding joined
  children_join o p = concat_append split o.survivors p.survivors

  module _ (ps : List (List Block)) (rs : AllOf (Rectangle g) (concat_each (λ p. p) ps)) where
    up_counts : Counts g (length ps) (begun best) (joined_up ps) (concat_each (λ p. p) ps)
    up_counts = chunks_rule m km best (Counts g) (counts_kept m km best) (begun best) (all_of_concat ps rs)

    up_room : length (children (joined_up ps)) + ended (joined_up ps).tally ≤ total_of area (concat_each (λ p. p) ps)
    unfolding concat_each
    up_room = next_fits g (length ps) (begun best) (joined_up ps) (concat_each (λ p. p) ps) up_counts refl refl rs

    up_light : length ps ≤ 4 → total_of area (concat_each (λ p. p) ps) ≤ most_cells → weight (joined_up ps).tally ≤ 100000
    unfolding weight stats_weight
    up_light few h =
        let c = up_counts in
        omega (arith, c.levels, c.examined, c.either, c.kernels, up_room, length_area g rs)

-- ---- the loop

pub blocks_few : (g : Grid) (words following : List ℕ) → CanSweep g (blocks_of words) following 0 → length words ≤ most_cells
blocks_few g words following can = omega (arith, blocks_length words, length_area g can.rectangles, can.narrow)

module _ (gr : Grid) (angles cosines : List Float) (sums words : List ℕ) (km : Float) (best : Option Candidate) (following₀ : List ℕ) (size : ℕ) where
  abbrev the_map : Map
  the_map = summed_map gr angles cosines sums

  abbrev n : ℕ
  n = length words

  abbrev blocks : List Block
  blocks = blocks_of words

  no_words : (i : ℕ) → n ≤ i → blocks_of (drop i words) ≡ []
  unfolding blocks_of each
  no_words i h = ap blocks_of (drop_of_length-le words {i = i} h)

  pub record Leveling (following : List ℕ) (r : ChunkResult) (start : ℕ) : Type 0 where
    pub place : start ≤ n
    pub room : length following ≡ length following₀
    pub done : List (List Block)
    pub few : length done ≤ 4
    pub cut : chunks blocks ≡ done ++ pieces (4 - length done) size (blocks_of (drop start words))
    pub whole : concat_each (λ p. p) done ≡ blocks_of (take start words)
    pub swept : Swept (joined_up the_map km best done) following₀ 0 following r

  module _ (size_is : size ≡ div_ceil n (max 1 (min 4 n))) (can : CanSweep gr blocks following₀ 0) where
    pub level_start : Leveling following₀ (record { held = best; tally = tally (stats 1 0 0 0 0) 0 0; live = 0 }) (min 0 n)
    unfolding chunks fold each concat_each blocks_of
    level_start =
        let none : min 0 n ≡ 0 = omega arith in
        rw none
        (record {
          place = omega arith;
          room = refl;
          done = [];
          few = omega arith;
          cut = rw (blocks_length words, ← size_is) refl;
          whole = refl;
          swept = record { held = refl; counts = refl; written = written_nothing following₀ 0 };
        })

    -- a turn
    module _ (following : List ℕ) (r : ChunkResult) (start : ℕ) (sofar : Leveling following r (min start n)) (h : start < n) where
      s : Leveling following r start
      s = let e : min start n ≡ start = omega arith in subst (Leveling following r) e sofar

      done_all : AllOf (Rectangle gr) (concat_each (λ p. p) s.done)
      done_all =
          rw s.whole
          (all_left (blocks_of (take start words)) (blocks_of (drop start words))
          (rw (blocks_cut words start) at can.rectangles))

      module _ (end : ℕ) (end_is : end ≡ min (start + size) n) where
        pub level_on : start < end
        level_on = omega (arith, chunks_enough n)

        to : end ≤ n
        to = omega arith

        abbrev next : List Block
        next = blocks_of (take (end - start) (drop start words))

        rest_is : blocks_of (drop start words) ≡ next ++ blocks_of (drop end words)
        rest_is = blocks_rest words start end (omega (arith, level_on))

        next_length : length next ≡ end - start
        next_length = blocks_length (take (end - start) (drop start words)) ∙ length-take-le (end - start) (drop start words) (omega (arith, length-drop start words))

        parts : blocks ≡ blocks_of (take start words) ++ (next ++ blocks_of (drop end words))
        parts = blocks_cut words start ∙ ap (λ (x : List Block). blocks_of (take start words) ++ x) rest_is

        next_all : AllOf (Rectangle gr) next
        next_all = all_left next (blocks_of (drop end words)) (all_right (blocks_of (take start words)) (rw parts at can.rectangles))

        areas : total_of area (concat_each (λ p. p) s.done) + total_of area next ≤ total_of area blocks
        areas =
            omega (
              arith,
              ap (total_of area) s.whole,
              ap (total_of area) parts,
              total_append area (blocks_of (take start words)) (next ++ blocks_of (drop end words)),
              total_append area next (blocks_of (drop end words)),
            )

        live_is : r.live ≡ length (children (joined_up the_map km best s.done))
        live_is = omega (arith, s.swept.written.place, length_each word_of (children (joined_up the_map km best s.done)))

        live_few : r.live ≤ total_of area (concat_each (λ p. p) s.done)
        live_few = omega (arith, live_is, up_room the_map km best s.done done_all)

        rest_length : length (blocks_of (drop start words)) ≡ n - start
        rest_length = blocks_length (drop start words) ∙ length-drop start words

        pub level_sweeps : CanSweep gr next following r.live
        level_sweeps =
            record {
              rectangles = next_all;
              narrow = omega (arith, areas, can.narrow);
              room = omega (arith, live_few, areas, can.room, s.room);
            }

        module _ (part : ChunkResult) (following' : List ℕ) (swept : Swept (chunk the_map km best next) following r.live following' part) where
          pub level_light : weight r.tally + weight part.tally ≤ 2 ^ 31
          unfolding chunk
          level_light =
              rw (s.swept.counts, swept.counts)
              (omega (
                arith,
                up_light the_map km best s.done done_all s.few (omega (arith, areas, can.narrow)),
                sofar_light the_map km best next_all (omega (arith, areas, can.narrow)),
              ))

          -- the fourth chunk is the last
          three : length s.done ≤ 3
          three = elim (dec_lt (length s.done) 4) [
            | yes p ↦ omega arith
            | no p ↦
                let f : 4 - length s.done ≡ 0 = omega arith in
                let all : chunks blocks ≡ s.done =
                s.cut ∙ ap (λ (k : ℕ). s.done ++ pieces k size (blocks_of (drop start words))) f
                ∙ ap (λ (x : List (List Block)). s.done ++ x) (pieces_out size (blocks_of (drop start words))) ∙ append-nil s.done in
                let l : blocks ≡ blocks_of (take start words) = sym (chunks_whole blocks) ∙ ap (concat_each (λ p. p)) all ∙ s.whole in
                absurd (omega (arith, ap (length {A = Block}) l, blocks_length words, blocks_length (take start words), length-take-le start words s.place))
          ]

          -- what is cut off next is the chunk at hand
          front : take size (blocks_of (drop start words)) ≡ next
          front = elim (dec_lt (start + size) n) [
            | yes p ↦ rw rest_is (take_at next (blocks_of (drop end words)) size (omega (arith, next_length)))
            | no p ↦
                take_all size (blocks_of (drop start words)) (omega (arith, rest_length)) ∙ rest_is
                ∙ ap (λ (x : List Block). next ++ x) (no_words end (omega arith)) ∙ append-nil next
          ]

          back : drop size (blocks_of (drop start words)) ≡ blocks_of (drop end words)
          back = elim (dec_lt (start + size) n) [
            | yes p ↦ rw rest_is (drop_at next (blocks_of (drop end words)) size (omega (arith, next_length)))
            | no p ↦
                drop_of_length-le (blocks_of (drop start words)) {i = size} (omega (arith, rest_length)) ∙ sym (no_words end (omega arith))
          ]

          cut_more : chunks blocks ≡ (s.done ++ next ∷ []) ++ pieces (4 - (length s.done + 1)) size (blocks_of (drop end words))
          cut_more =
              let k = 4 - (length s.done + 1) in
              let f : 4 - length s.done ≡ suc k = omega (arith, three) in
              s.cut ∙ ap (λ (x : ℕ). s.done ++ pieces x size (blocks_of (drop start words))) f
              ∙ ap (λ (x : List (List Block)). s.done ++ x)
              (pieces_more k size (blocks_of (drop start words)) (omega (arith, rest_length))
              ∙ ap (λ (x : List Block). x ∷ pieces k size (drop size (blocks_of (drop start words)))) front ∙ ap (λ (x : List Block). next ∷ pieces k size x) back)
              ∙ sym (append_assoc s.done (next ∷ []) (pieces k size (blocks_of (drop end words))))

          abbrev before : Outcome
          before = joined_up the_map km best s.done

          words_fit : length (each word_of (children before)) + length (each word_of (children (chunk the_map km best next))) ≤ length following₀
          unfolding chunk
          words_fit =
              omega (
                arith,
                length_each word_of (children before),
                length_each word_of (children (chunk the_map km best next)),
                up_room the_map km best s.done done_all,
                sofar_room the_map km best next_all,
                areas,
                can.room,
              )

          pub level_next : (step : ℕ) → step ≡ greater size 1 → Leveling following' (joined_results r part) (min (start + step) n)
          unfolding joined_results joined
          level_next step step_is =
              let on : min (start + step) n ≡ end = omega (arith, chunks_enough n) in
              let count = length-append s.done (next ∷ []) in
              let old = each word_of (children before) in
              let new = each word_of (children (chunk the_map km best next)) in
              let more = up_more the_map km best s.done next in
              let all_words : old ++ new ≡ each word_of (children (joined_up the_map km best (s.done ++ next ∷ []))) =
              sym (each_append word_of (children before) (children (chunk the_map km best next)))
              ∙ ap (each word_of) (sym (children_join the_map km best before (chunk the_map km best next)) ∙ ap (λ (o : Outcome). children o) (sym more)) in
              rw on
              (record {
                place = to;
                room = written_size following following' r.live part.live new (omega (arith, words_fit, live_is, length_each word_of (children before), s.room)) swept.written ∙ s.room;
                done = s.done ++ next ∷ [];
                few = omega (arith, three, count);
                cut = cut_more ∙ ap (λ (k : ℕ). (s.done ++ next ∷ []) ++ pieces (4 - k) size (blocks_of (drop end words))) (sym count);
                whole =
                    concat_snoc (λ p. p) s.done next ∙ ap (λ (x : List Block). x ++ next) s.whole ∙ sym (blocks_front words start end (omega (arith, level_on)));
                swept = record {
                  held = rw more (ap₂ better_held s.swept.held swept.held);
                  counts = rw more (ap₂ plus s.swept.counts swept.counts);
                  written =
                      subst (λ (x : List ℕ). Written following₀ 0 x following' part.live) all_words
                      (written_then following₀ following following' 0 r.live part.live old new (omega (arith, words_fit)) s.swept.written swept.written);
                };
              })

    module _ (following : List ℕ) (r : ChunkResult) (start : ℕ) (s : Leveling following r (min start n)) where
      pub level_done : n ≤ start → Swept (level_in_order the_map km best blocks) following₀ 0 following r
      unfolding level_in_order
      level_done h =
          let all : s.done ≡ chunks blocks =
          sym (append-nil s.done) ∙ ap (λ (x : List (List Block)). s.done ++ x)
          (sym (pieces_none (4 - length s.done) size) ∙ ap (pieces (4 - length s.done) size) (sym (no_words (min start n) (omega arith))))
          ∙ sym s.cut in
          subst (λ (ps : List (List Block)). Swept (joined_up the_map km best ps) following₀ 0 following r) all s.swept
