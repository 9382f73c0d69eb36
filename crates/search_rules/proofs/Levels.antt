-- The levels: they end with no block left, every cell pruned or settled, and the best circle held.
use Rattle.std.proofs.Common.{Option, None, Some, IfSome}
use Prim.Native.Nat.{ℕ, zero, suc, ◌+◌, ◌*◌, ◌≤◌}
use mathlib.Core.Path.{◌≡◌, refl, ap}
use mathlib.Core.Logic.{◌⊎◌, inl, inr}
use mathlib.Core.List.{List, [], ◌∷◌}
use native.Mathlib.Omega.{arith}
use native.Mathlib.Nat.{zero-mul}
use lib.Dec.{T}
use lib.Ieee.{Float}
use lib.ListN.{length}
use Rattle.lists.specs.Elements.{AllOf, also, total_of}
use Rattle.lists.proofs.Elements.{AnyOf, all_map}
use Rattle.grid.specs.declared.Cell.{Cell}
use Rattle.grid.specs.declared.Grid.{Grid}
use Rattle.grid.specs.Grid.{cell, on_grid, before, cells}
use Rattle.grid.specs.Map.{Map}
use Rattle.circle_cells.specs.Circle.{population}
use Rattle.blocks.specs.declared.Block.{Block}
use Rattle.candidates.specs.declared.Candidate.{Candidate}
use Rattle.tally.specs.declared.Tally.{Tally}
use Rattle.search_rules.specs.Best.{BestOf}
use Rattle.blocks.specs.Block.{area, tile, Rectangle, Holds}
use Rattle.candidates.specs.Candidate.{centre_of, candidate}
use Rattle.levels.specs.Level.{level}
use Rattle.tally.specs.Counts.{no_tally, no_stats, plus, plus_stats}
use Rattle.search_rules.specs.declared.SearchResult.{SearchResult}
use Rattle.search_rules.specs.Search.{levels, searched}
use Rattle.bounds.proofs.Bounds.{Bounded}
use Rattle.grid.proofs.CellOrder.{corner_on}
use Rattle.candidates.proofs.Order.{◌≼◌, fewer, later, equal}
use Rattle.blocks.proofs.Tiles.{tile_area, tile_cover, tile_rectangle, length_area}
use Rattle.levels.proofs.Rule.{begun}
use Rattle.levels.proofs.Counts.{Splits, rectangle_splits, next, ended, decided, level_counts}
use Rattle.levels.proofs.Finds.{Circle, Found, Step, level_step}

-- ---- the induction

-- what is held and counted after a level of the blocks bs
abbrev pub after : Map → Float → SearchResult → List Block → SearchResult
after m km s bs = record { held = (level m km s.held bs).held; tally = plus s.tally (level m km s.held bs).tally }

-- I n s bs: before a level of the blocks bs, with n levels to go. What every level keeps, where a block is never left without a level,
-- holds at the end, with no block left.
pub levels_rule : (m : Map) (km : Float) (I : ℕ → SearchResult → List Block → Type 0)
    → ((n : ℕ) (s : SearchResult) (bs : List Block) → I (suc n) s bs → I n (after m km s bs) (next (level m km s.held bs)))
    → ((s : SearchResult) (b : Block) (bs : List Block) → I 0 s (b ∷ bs) → ⊥)
    → (n : ℕ) (s : SearchResult) (bs : List Block) → I n s bs → (k : ℕ) × I k (levels n m km s bs) []
unfolding levels
levels_rule m km I step fuelled zero s [] i = (0, i)
levels_rule m km I step fuelled zero s (b ∷ bs) i = absurd (fuelled s b bs i)
levels_rule m km I step fuelled (suc n) s [] i = (suc n, i)
levels_rule m km I step fuelled (suc n) s (b ∷ bs) i =
    levels_rule m km I step fuelled n (after m km s (b ∷ bs)) (next (level m km s.held (b ∷ bs))) (step n s (b ∷ bs) i)

-- ---- the counts, for any sheet

-- before a level: width + height levels are enough, the cells add up, and every count is within the levels times the cells
pub record Counted (g : Grid) (n : ℕ) (t : Tally) (bs : List Block) : Type 0 where
  pub small : AllOf (Splits g n) bs
  pub cells_all : ended t + total_of area bs ≡ cells g
  pub levels_all : t.stats.levels + n ≡ g.width + g.height
  pub either : decided t ≡ t.stats.blocks_examined
  pub examined : t.stats.blocks_examined ≤ t.stats.levels * cells g
  pub kernels : t.stats.kernels_built ≤ t.stats.levels * (2 * cells g + 8)

rectangles : {g : Grid} {n : ℕ} {bs : List Block} → AllOf (Splits g n) bs → AllOf (Rectangle g) bs
rectangles a = all_map (λ b s. s.rectangle) a

-- a level has at most as many blocks as the grid has cells, so that its buffer has room
pub blocks_fit : (g : Grid) (n : ℕ) (t : Tally) (bs : List Block) → Counted g n t bs → length bs ≤ cells g
blocks_fit g n t bs i = omega (arith, length_area g (rectangles i.small), i.cells_all)

pub counted_first : (g : Grid) (spacing : ℕ) → 1 ≤ g.width → 1 ≤ g.height → Counted g (g.width + g.height) no_tally (tile g spacing)
unfolding no_tally no_stats
counted_first g spacing w h =
    record {
      small = all_map (rectangle_splits g) (tile_rectangle g spacing w h);
      cells_all = omega (arith, tile_area g spacing w h);
      levels_all = omega arith;
      either = refl;
      examined = omega (arith, zero-mul (cells g));
      kernels = omega (arith, zero-mul (2 * cells g + 8));
    }

-- one more level's share
one_more : (a b l c : ℕ) → a ≤ l * c → b ≤ c → a + b ≤ (l + 1) * c
one_more a b l c p q = omega arith

pub counted_next : (m : Map) (km : Float) (best : Option Candidate) (n : ℕ) (t : Tally) (bs : List Block) → Counted m.globe.grid (suc n) t bs
    → Counted m.globe.grid n (plus t (level m km best bs).tally) (next (level m km best bs))
unfolding plus plus_stats
counted_next m km best n t bs i =
    let g = m.globe.grid in
    let c = level_counts m km best bs (rectangles i.small) in
    let fit = blocks_fit g (suc n) t bs i in
    record {
      small = c.small n i.small;
      cells_all = omega (arith, c.cells, i.cells_all);
      levels_all = omega (arith, c.levels, i.levels_all);
      either = omega (arith, c.either, c.examined, i.either);
      examined = rw c.levels (one_more _ _ t.stats.levels (cells g) i.examined (omega (arith, c.examined)));
      kernels = rw c.levels (one_more _ _ t.stats.levels (2 * cells g + 8) i.kernels (omega (arith, c.kernels)));
    }

-- while a block is left, so is a level
pub no_fuel : (g : Grid) (t : Tally) (b : Block) (bs : List Block) → Counted g 0 t (b ∷ bs) → ⊥
no_fuel g t b bs i = go i.small
  where
    go : AllOf (Splits g 0) (b ∷ bs) → ⊥
    go (also s a) = omega (arith, s.short)

pub levels_none : (n : ℕ) (m : Map) (km : Float) (s : SearchResult) → levels n m km s [] ≡ s
unfolding levels
levels_none zero m km s = refl
levels_none (suc n) m km s = refl

-- the counts of a whole search
pub record Tallied (g : Grid) (t : Tally) : Type 0 where
  pub cells_all : ended t ≡ cells g
  pub levels_few : t.stats.levels ≤ g.width + g.height
  pub either : decided t ≡ t.stats.blocks_examined
  pub examined : t.stats.blocks_examined ≤ t.stats.levels * cells g
  pub kernels : t.stats.kernels_built ≤ t.stats.levels * (2 * cells g + 8)

tallied_end : (g : Grid) (k : ℕ) (t : Tally) → Counted g k t [] → Tallied g t
unfolding total_of
tallied_end g k t i =
    record {
      cells_all = omega (arith, i.cells_all);
      levels_few = omega (arith, i.levels_all);
      either = i.either;
      examined = i.examined;
      kernels = i.kernels;
    }

-- for any sheet, fair or not, width + height levels end the search with every cell pruned or settled
pub searched_tallied : (m : Map) (km : Float) (spacing : ℕ) → 1 ≤ m.globe.grid.width → 1 ≤ m.globe.grid.height
    → Tallied m.globe.grid (searched m km spacing).tally
unfolding searched
searched_tallied m km spacing w h =
    let g = m.globe.grid in
    let (k, i) = levels_rule m km (λ n s. Counted g n s.tally) (λ n s. counted_next m km s.held n s.tally) (λ s. no_fuel g s.tally)
    (g.width + g.height) (record { held = None; tally = no_tally }) (tile g spacing) (counted_first g spacing w h) in
    tallied_end g k (searched m km spacing).tally i

-- ---- the best circle

-- before a level: what is held is a circle, and each cell of the grid is at most that or in a block
pub record Finding (m : Map) (km : Float) (n : ℕ) (s : SearchResult) (bs : List Block) : Type 0 where
  pub counted : Counted m.globe.grid n s.tally bs
  pub circle : IfSome s.held (Circle m km)
  pub found : (x : Cell) → T (on_grid m.globe.grid x) → Found m km x s.held bs

pub finding_next : (m : Map) (km : Float) → Bounded m km → (n : ℕ) (s : SearchResult) (bs : List Block) → Finding m km (suc n) s bs
    → Finding m km n (after m km s bs) (next (level m km s.held bs))
finding_next m km bounded n s bs i =
    record {
      counted = counted_next m km s.held n s.tally bs i.counted;
      circle = step.circle i.circle;
      found = λ x t. go x (i.found x t);
    }
  where
    step : Step m km (begun s.held) (level m km s.held bs) bs
    step = level_step m km bounded s.held i.circle bs (rectangles i.counted.small)

    go : (x : Cell) → Found m km x s.held bs → Found m km x (level m km s.held bs).held (next (level m km s.held bs))
    go x (inl b) = inl (step.grows (candidate m km x) b)
    go x (inr a) = step.found x a

-- a search holds the best circle, with its population
pub record HeldBest (m : Map) (km : Float) (h : Option Candidate) : Type 0 where
  pub centre : Candidate
  pub held : h ≡ Some centre
  pub best : BestOf m.globe.grid (population m km) (centre_of centre)
  pub people : centre.population ≡ population m km (centre_of centre)

-- what no cell's candidate is above is the best of all cells
best_of : (m : Map) (km : Float) (c : Candidate) → Circle m km c → ((x : Cell) → T (on_grid m.globe.grid x) → candidate m km x ≼ c)
    → BestOf m.globe.grid (population m km) (centre_of c)
unfolding candidate
best_of m km c is all =
    record { on = is.on; fullest = λ x t. fullest x (all x t); first = λ x t e. first x e (all x t) }
  where
    fullest : (x : Cell) → candidate m km x ≼ c → population m km x ≤ population m km (centre_of c)
    fullest x (fewer h) = omega (arith, is.people)
    fullest x (later p b) = omega (arith, is.people)
    fullest x (equal p) = omega (arith, is.people, ap (λ (k : Candidate). k.population) p)

    first : (x : Cell) → population m km x ≡ population m km (centre_of c) → candidate m km x ≼ c → (x ≡ centre_of c) ⊎ T (before (centre_of c) x)
    first x e (fewer h) = absurd (omega (arith, is.people))
    first x e (later p b) = inr b
    first x e (equal p) = inl (ap (λ (k : Candidate). centre_of k) p)

held_end : (m : Map) (km : Float) (k : ℕ) (t : Tally) (h : Option Candidate) → 1 ≤ m.globe.grid.width → 1 ≤ m.globe.grid.height
    → Finding m km k (record { held = h; tally = t }) [] → HeldBest m km h
held_end m km k t None w h i =
    absurd (empty (i.found (cell 0 0) (corner_on m.globe.grid w h)))
  where
    empty : ⊥ ⊎ AnyOf (λ b. Holds b (cell 0 0)) [] → ⊥
    empty (inl e) = e
    empty (inr a) = elim a [ ]
held_end m km k t (Some c) w h i =
    record { centre = c; held = refl; best = best_of m km c i.circle (λ x on. sure x (i.found x on)); people = i.circle.people }
  where
    sure : (x : Cell) → Found m km x (Some c) [] → candidate m km x ≼ c
    sure x (inl e) = e
    sure x (inr a) = elim a [ ]

-- where bounds hold, the search holds the best circle
pub searched_best : (m : Map) (km : Float) → Bounded m km → (spacing : ℕ) → 1 ≤ m.globe.grid.width → 1 ≤ m.globe.grid.height
    → HeldBest m km (searched m km spacing).held
unfolding searched
searched_best m km bounded spacing w h =
    let g = m.globe.grid in
    let begin : Finding m km (g.width + g.height) (record { held = None; tally = no_tally }) (tile g spacing) =
    record { counted = counted_first g spacing w h; circle = tt; found = λ x t. inr (tile_cover g spacing x t) } in
    let (k, i) = levels_rule m km (Finding m km) (finding_next m km bounded) (λ s b bs i. no_fuel g s.tally b bs i.counted)
    (g.width + g.height) (record { held = None; tally = no_tally }) (tile g spacing) begin in
    held_end m km k (searched m km spacing).tally (searched m km spacing).held w h i
