-- A level finds: each of its cells is at most what is held or in a block of the next level, and what is held only gets better. Circles and
-- bounds stay shut: all that is asked of them is that a block's bound is at least the population of each circle whose centre it holds.
use Rattle.std.proofs.Common.{Option, Some, IfSome}
use mathlib.Core.Path.{◌≡◌, refl}
use mathlib.Core.Logic.{◌⊎◌, inl, inr}
use mathlib.Core.Bool.{true, false}
use mathlib.Core.List.{List, [], ◌∷◌, ◌++◌}
use native.Mathlib.Omega.{arith}
use lib.Dec.{T}
use lib.Ieee.{Float}
use Rattle.lists.specs.Lists.{concat_each, sort}
use Rattle.lists.proofs.Bools.{cond_case, cases}
use Rattle.lists.proofs.Folds.{concat_append, concat_snoc}
use Rattle.lists.specs.Elements.{AllOf}
use Rattle.lists.proofs.Elements.{AnyOf, here, there, any_left, any_right, any_append}
use Rattle.lists.proofs.Sorts.{any_sort}
use Rattle.grid.specs.declared.Cell.{Cell}
use Rattle.grid.specs.Grid.{on_grid}
use Rattle.grid.specs.Map.{Map}
use Rattle.circle_cells.specs.Circle.{population}
use Rattle.blocks.specs.declared.Block.{Block}
use Rattle.candidates.specs.declared.Candidate.{Candidate}
use Rattle.blocks.specs.Block.{is_cell, probe, by_probe, split, Rectangle, Holds}
use Rattle.bounds.specs.Bound.{wide_km, bound}
use Rattle.candidates.specs.Candidate.{centre_of, candidate, better_held, prunes}
use Rattle.chunk_work.specs.Work.{Outcome, Work}
use Rattle.levels.specs.Level.{pruned, evaluated, examine, started, joined, level}
use Rattle.bounds.proofs.Bounds.{Bounded}
use Rattle.grid.proofs.CellOrder.{of_on_grid}
use Rattle.candidates.proofs.Order.{Below, ≼_refl, better_first, better_second, better_of, pruned_below}
use Rattle.blocks.proofs.Tiles.{split_cover, probe_held, cell_probe}
use Rattle.levels.proofs.Rule.{begun, Kept, level_rule}
use Rattle.levels.proofs.Counts.{next}

-- ---- the words of the law

-- a candidate is a cell of the grid with the population of its circle
pub record Circle (m : Map) (km : Float) (k : Candidate) : Type 0 where
  pub on : T (on_grid m.globe.grid (centre_of k))
  pub people : k.population ≡ population m km (centre_of k)

only : {P : Block → Type 0} {b : Block} → AnyOf P (b ∷ []) → P b
only (here p) = p
only (there a) = elim a [ ]

-- ---- from one outcome to another the blocks bs are examined

module _ (m : Map) (km : Float) where
  -- the circle of a cell is at most what is held, or one of the blocks holds the cell
  abbrev pub Found : Cell → Option Candidate → List Block → Type 0
  Found x h bs = Below (candidate m km x) h ⊎ AnyOf (λ b. Holds b x) bs

  pub record Step (o p : Outcome) (bs : List Block) : Type 0 where
    pub grows : (k : Candidate) → Below k o.held → Below k p.held
    pub circle : IfSome o.held (Circle m km) → IfSome p.held (Circle m km)
    pub found : (x : Cell) → AnyOf (λ b. Holds b x) bs → Found x p.held (next p)
    pub keeps : (x : Cell) → AnyOf (λ b. Holds b x) (next o) → AnyOf (λ b. Holds b x) (next p)

  step_nothing : (o : Outcome) → Step o o []
  step_nothing o =
      record {
        grows = λ k p. p;
        circle = λ p. p;
        found = λ x a. elim a [ ];
        keeps = λ x a. a;
      }

  step_then : (o p q : Outcome) (xs ys : List Block) → Step o p xs → Step p q ys → Step o q (xs ++ ys)
  step_then o p q xs ys s t =
      record {
        grows = λ k b. t.grows k (s.grows k b);
        circle = λ c. t.circle (s.circle c);
        found = λ x a. either x (any_append xs a);
        keeps = λ x a. t.keeps x (s.keeps x a);
      }
    where
      after : (x : Cell) → Found x p.held (next p) → Found x q.held (next q)
      after x (inl b) = inl (t.grows (candidate m km x) b)
      after x (inr a) = inr (t.keeps x a)

      either : (x : Cell) → AnyOf (λ b. Holds b x) xs ⊎ AnyOf (λ b. Holds b x) ys → Found x q.held (next q)
      either x (inl a) = after x (s.found x a)
      either x (inr a) = t.found x a

  -- ---- one block

  -- a pruned block's circles are all below what is held
  pruned_step : Bounded m km → (w : Work) (b : Block) (wide : Float) → Rectangle m.globe.grid b → prunes (bound m km b) w.outcome.held ≡ true
      → Step w.outcome (pruned w b wide).outcome (b ∷ [])
  unfolding pruned candidate
  pruned_step bounded w b wide r e =
      record {
        grows = λ k p. p;
        circle = λ p. p;
        found = λ x a. inl (pruned_below (bound m km b) w.outcome.held e (candidate m km x) (bounded b r x (only a)));
        keeps = λ x a. a;
      }

  pub probe_circle : (b : Block) → Rectangle m.globe.grid b → Circle m km (candidate m km (probe b))
  unfolding candidate
  probe_circle b r =
      let h = probe_held m.globe.grid b r in
      record { on = of_on_grid m.globe.grid (probe b) (record { row = omega arith; col = omega arith }); people = refl }

  -- a block that lives leaves its cells to its children, or is the cell that is evaluated
  evaluated_step : (w : Work) (b : Block) (wide : Float) → Rectangle m.globe.grid b → Step w.outcome (evaluated m km w b wide).outcome (b ∷ [])
  unfolding evaluated
  evaluated_step w b wide r =
      record {
        grows = λ k p. better_first k o.held probed p;
        circle = λ p. better_of (Circle m km) o.held probed p (probe_circle b r);
        found = λ x a. cases (is_cell b) (settled x (only a)) (left x (only a));
        keeps = λ x a. rw (concat_snoc split o.survivors b) (any_left (split b) a);
      }
    where
      o : Outcome
      o = w.outcome

      probed : Option Candidate
      probed = Some (candidate m km (probe b))

      settled : (x : Cell) → Holds b x → is_cell b ≡ true → Found x (better_held o.held probed) (concat_each split (o.survivors ++ b ∷ []))
      settled x h e =
          inl (better_second (candidate m km x) o.held probed (rw (cell_probe m.globe.grid b r e x h) (≼_refl (candidate m km (probe b)))))

      left : (x : Cell) → Holds b x → is_cell b ≡ false → Found x (better_held o.held probed) (concat_each split (o.survivors ++ b ∷ []))
      left x h e = inr (rw (concat_snoc split o.survivors b) (any_right (concat_each split o.survivors) (split_cover m.globe.grid b r e x h)))

  block_step : Bounded m km → (w : Work) (b : Block) → Rectangle m.globe.grid b → Step w.outcome (examine m km w b).outcome (b ∷ [])
  unfolding examine
  block_step bounded w b r =
      let wide = wide_km m.globe km b in
      cond_case (λ (v : Work). Step w.outcome v.outcome (b ∷ [])) (prunes (bound m km b) w.outcome.held)
      (pruned w b wide) (evaluated m km w b wide) (pruned_step bounded w b wide r) (λ e. evaluated_step w b wide r)

  -- ---- a chunk, and a level

  -- what a chunk came to by itself is joined to what came before
  joined_step : (best : Option Candidate) → IfSome best (Circle m km) → (o p : Outcome) (bs : List Block) → Step (started m km best).outcome p bs → Step o (joined o p) bs
  unfolding joined started
  joined_step best c o p bs s =
      record {
        grows = λ k b. better_first k o.held p.held b;
        circle = λ b. better_of (Circle m km) o.held p.held b (s.circle c);
        found = λ x a. after x (s.found x a);
        keeps = λ x a. rw (concat_append split o.survivors p.survivors) (any_left (concat_each split p.survivors) a);
      }
    where
      after : (x : Cell) → Found x p.held (next p) → Found x (better_held o.held p.held) (concat_each split (o.survivors ++ p.survivors))
      after x (inl b) = inl (better_second (candidate m km x) o.held p.held b)
      after x (inr a) = inr (rw (concat_append split o.survivors p.survivors) (any_right (concat_each split o.survivors) a))

  step_kept : Bounded m km → (best : Option Candidate) → IfSome best (Circle m km) → Kept m km best (λ n. Step)
  step_kept bounded best c =
      record { nothing = step_nothing; block = block_step bounded; then = λ i j. step_then; chunk = joined_step best c }

  -- the order of the blocks is nothing to it
  unsorted : (o p : Outcome) (bs : List Block) → Step o p (sort by_probe bs) → Step o p bs
  unsorted o p bs s =
      record {
        grows = s.grows;
        circle = s.circle;
        found = λ x a. s.found x (any_sort by_probe bs a);
        keeps = s.keeps;
      }

  pub level_step : Bounded m km → (best : Option Candidate) → IfSome best (Circle m km) → (bs : List Block) → AllOf (Rectangle m.globe.grid) bs
      → Step (begun best) (level m km best bs) bs
  level_step bounded best c bs rs =
      unsorted (begun best) (level m km best bs) bs (level_rule m km best (λ n. Step) (step_kept bounded best c) bs rs)
