-- The counts of a level, for any sheet: what it prunes, settles and splits accounts for each of its cells, its children are shorter, and
-- blocks and kernels are counted against the blocks examined.
use Rattle.std.proofs.Common.{Option}
use Prim.Native.Nat.{ℕ, suc, ◌+◌, ◌*◌, ◌≤◌, ◌<◌}
use mathlib.Core.Path.{◌≡◌, refl, ap, ◌∙◌}
use mathlib.Core.List.{List, [], ◌∷◌, ◌++◌}
use native.Mathlib.Omega.{arith}
use lib.ListN.{length, length-append}
use lib.Ieee.{Float}
use Rattle.lists.specs.Lists.{concat_each, sort}
use Rattle.lists.proofs.Bools.{cond_case}
use Rattle.lists.proofs.Folds.{concat_append, concat_snoc}
use Rattle.lists.specs.Elements.{AllOf, none, also, total_of}
use Rattle.lists.proofs.Elements.{all_zip, all_map, all_append, all_left, all_right, total_append}
use Rattle.lists.proofs.Sorts.{all_sort, total_sort, length_sort}
use Rattle.grid.specs.declared.Grid.{Grid}
use Rattle.grid.specs.Map.{Map}
use Rattle.blocks.specs.declared.Block.{Block}
use Rattle.tally.specs.declared.Tally.{Tally}
use Rattle.blocks.specs.Block.{area, by_probe, split, Rectangle}
use Rattle.bounds.specs.Bound.{wide_km, bound}
use Rattle.candidates.specs.declared.Candidate.{Candidate}
use Rattle.candidates.specs.Candidate.{prunes}
use Rattle.tally.specs.Counts.{plus, plus_stats}
use Rattle.chunk_work.specs.Work.{Outcome, Work}
use Rattle.levels.specs.Level.{pruned, evaluated, examine, started, joined, level}
use Rattle.blocks.proofs.Tiles.{length_area, split_settled, split_rectangle, split_shorter, extent}
use Rattle.chunk_work.proofs.Added.{wide_le, exact_le}
use Rattle.levels.proofs.Rule.{Kept, level_rule, chunks_few}

-- ---- the next level

-- a rectangle that n levels split into single cells
pub record Splits (g : Grid) (n : ℕ) (b : Block) : Type 0 where
  pub rectangle : Rectangle g b
  pub short : extent b < n

-- the blocks of the next level
abbrev pub next : Outcome → List Block
next o = concat_each split o.survivors

children_split : (g : Grid) (n : ℕ) (b : Block) → Splits g (suc n) b → AllOf (Splits g n) (split b)
children_split g n b s =
    all_zip (λ c r l. record { rectangle = r; short = omega (arith, s.short) }) (split_rectangle g b s.rectangle) (split_shorter g b s.rectangle)

area_snoc : (xs : List Block) (b : Block) → total_of area (concat_each split (xs ++ b ∷ [])) ≡ total_of area (concat_each split xs) + total_of area (split b)
area_snoc xs b = ap (total_of area) (concat_snoc split xs b) ∙ total_append area (concat_each split xs) (split b)

area_join : (xs ys : List Block) → total_of area (concat_each split (xs ++ ys)) ≡ total_of area (concat_each split xs) + total_of area (concat_each split ys)
area_join xs ys = ap (total_of area) (concat_append split xs ys) ∙ total_append area (concat_each split xs) (concat_each split ys)

-- ---- from one outcome to another the blocks bs are examined, in so many chunks of their own

-- the cells that a tally says are pruned or settled
abbrev pub ended : Tally → ℕ
ended t = t.cells_pruned + t.cells_settled

-- the blocks that a tally says are pruned or evaluated
abbrev pub decided : Tally → ℕ
decided t = t.stats.blocks_pruned + t.stats.circles_evaluated

pub record Counts (g : Grid) (n : ℕ) (o p : Outcome) (bs : List Block) : Type 0 where
  pub cells : ended p.tally + total_of area (next p) ≡ ended o.tally + total_of area (next o) + total_of area bs
  pub small : (k : ℕ) → AllOf (Splits g (suc k)) bs → AllOf (Splits g k) (next o) → AllOf (Splits g k) (next p)
  pub levels : p.tally.stats.levels ≡ o.tally.stats.levels
  pub examined : p.tally.stats.blocks_examined ≡ o.tally.stats.blocks_examined + length bs
  pub either : decided p.tally ≡ decided o.tally + length bs
  pub survivors : length p.survivors + o.tally.stats.circles_evaluated ≡ length o.survivors + p.tally.stats.circles_evaluated
  -- two kernels at most for a block, and two to start a chunk
  pub kernels : p.tally.stats.kernels_built ≤ o.tally.stats.kernels_built + 2 * length bs + 2 * n

head : {P : Block → Type 0} {b : Block} → AllOf P (b ∷ []) → P b
head (also p a) = p

module _ (g : Grid) where
  counts_nothing : (o : Outcome) → Counts g 0 o o []
  unfolding total_of
  counts_nothing o =
      record {
        cells = omega arith;
        small = λ k s a. a;
        levels = refl;
        examined = omega arith;
        either = omega arith;
        survivors = refl;
        kernels = omega arith;
      }

  counts_then : (i j : ℕ) (o p q : Outcome) (xs ys : List Block) → Counts g i o p xs → Counts g j p q ys → Counts g (i + j) o q (xs ++ ys)
  counts_then i j o p q xs ys s t =
      let l = length-append xs ys in
      record {
        cells = omega (arith, s.cells, t.cells, total_append area xs ys);
        small = λ k a b. t.small k (all_right xs a) (s.small k (all_left xs ys a) b);
        levels = t.levels ∙ s.levels;
        examined = omega (arith, s.examined, t.examined);
        either = omega (arith, s.either, t.either);
        survivors = omega (arith, s.survivors, t.survivors);
        kernels = omega (arith, s.kernels, t.kernels);
      }

  -- ---- one block

  pruned_counts : (w : Work) (b : Block) (wide : Float) → Counts g 0 w.outcome (pruned w b wide).outcome (b ∷ [])
  unfolding pruned plus plus_stats total_of
  pruned_counts w b wide =
      record {
        cells = omega arith;
        small = λ k s a. a;
        levels = omega arith;
        examined = omega arith;
        either = omega arith;
        survivors = omega arith;
        kernels = omega (arith, wide_le w b wide);
      }

  evaluated_counts : (m : Map) (km : Float) (w : Work) (b : Block) (wide : Float) → Rectangle g b
      → Counts g 0 w.outcome (evaluated m km w b wide).outcome (b ∷ [])
  unfolding evaluated plus plus_stats total_of
  evaluated_counts m km w b wide r =
      let old = w.outcome.survivors in
      record {
        cells = omega (arith, area_snoc old b, split_settled g b r);
        small = λ k s a. rw (concat_snoc split old b) (all_append a (children_split g k b (head s)));
        levels = omega arith;
        examined = omega arith;
        either = omega arith;
        survivors = omega (arith, length-append old (b ∷ []));
        kernels = omega (arith, wide_le w b wide, exact_le w b);
      }

  block_counts : (m : Map) (km : Float) (w : Work) (b : Block) → Rectangle g b → Counts g 0 w.outcome (examine m km w b).outcome (b ∷ [])
  unfolding examine
  block_counts m km w b r =
      let wide = wide_km m.globe km b in
      cond_case (λ (v : Work). Counts g 0 w.outcome v.outcome (b ∷ [])) (prunes (bound m km b) w.outcome.held)
      (pruned w b wide) (evaluated m km w b wide) (λ e. pruned_counts w b wide) (λ e. evaluated_counts m km w b wide r)

  -- ---- a chunk

  chunk_counts : (m : Map) (km : Float) (best : Option Candidate) (o p : Outcome) (bs : List Block) → Counts g 0 (started m km best).outcome p bs
      → Counts g 1 o (joined o p) bs
  unfolding joined started plus plus_stats total_of concat_each
  chunk_counts m km best o p bs s =
      record {
        cells = omega (arith, s.cells, area_join o.survivors p.survivors);
        small = λ k b a. rw (concat_append split o.survivors p.survivors) (all_append a (s.small k b none));
        levels = omega (arith, s.levels);
        examined = omega (arith, s.examined);
        either = omega (arith, s.either);
        survivors = omega (arith, s.survivors, length-append o.survivors p.survivors);
        kernels = omega (arith, s.kernels);
      }

-- ---- the room that the next level takes, at any place of a level

-- on the grid a rectangle is split within width + height levels
pub rectangle_splits : (g : Grid) (b : Block) → Rectangle g b → Splits g (g.width + g.height) b
rectangle_splits g b r = record { rectangle = r; short = omega (arith, r.south, r.east) }

next_rectangles : (g : Grid) (n : ℕ) (o p : Outcome) (bs : List Block) → Counts g n o p bs → next o ≡ [] → AllOf (Rectangle g) bs → AllOf (Rectangle g) (next p)
next_rectangles g n o p bs s e rs =
    all_map (λ b t. t.rectangle) (s.small (g.width + g.height) (all_map (λ b r. larger b (rectangle_splits g b r)) rs) (rw e none))
  where
    larger : (b : Block) → Splits g (g.width + g.height) b → Splits g (suc (g.width + g.height)) b
    larger b t = record { rectangle = t.rectangle; short = omega (arith, t.short) }

-- from nothing on, the blocks of the next level are at most as many as the cells of the blocks examined
pub next_fits : (g : Grid) (n : ℕ) (o p : Outcome) (bs : List Block) → Counts g n o p bs → next o ≡ [] → ended o.tally ≡ 0 → AllOf (Rectangle g) bs
    → length (next p) + ended p.tally ≤ total_of area bs
unfolding total_of
next_fits g n o p bs s e z rs =
    let none_left : total_of area (next o) ≡ 0 = rw e in
    omega (arith, length_area g (next_rectangles g n o p bs s e rs), s.cells)

pub counts_kept : (m : Map) (km : Float) (best : Option Candidate) → Kept m km best (Counts m.globe.grid)
counts_kept m km best =
    let g = m.globe.grid in
    record { nothing = counts_nothing g; block = block_counts g m km; then = counts_then g; chunk = chunk_counts g m km best }

-- ---- a level

-- what a level of the blocks bs comes to
pub record LevelCounts (g : Grid) (p : Outcome) (bs : List Block) : Type 0 where
  pub cells : ended p.tally + total_of area (next p) ≡ total_of area bs
  pub small : (k : ℕ) → AllOf (Splits g (suc k)) bs → AllOf (Splits g k) (next p)
  pub levels : p.tally.stats.levels ≡ 1
  pub examined : p.tally.stats.blocks_examined ≡ length bs
  pub either : decided p.tally ≡ length bs
  pub survivors : length p.survivors ≡ p.tally.stats.circles_evaluated
  -- two kernels at most for a block, and two for each of at most four chunks
  pub kernels : p.tally.stats.kernels_built ≤ 2 * length bs + 8

pub level_counts : (m : Map) (km : Float) (best : Option Candidate) (bs : List Block) → AllOf (Rectangle m.globe.grid) bs
    → LevelCounts m.globe.grid (level m km best bs) bs
unfolding total_of concat_each
level_counts m km best bs rs =
    let s = level_rule m km best (Counts m.globe.grid) (counts_kept m km best) bs rs in
    let l = length_sort by_probe bs in
    record {
      cells = omega (arith, s.cells, total_sort by_probe area bs);
      small = λ k a. s.small k (all_sort by_probe bs a) none;
      levels = s.levels;
      examined = omega (arith, s.examined);
      either = omega (arith, s.either);
      survivors = omega (arith, s.survivors);
      kernels = omega (arith, s.kernels, chunks_few (sort by_probe bs));
    }
