-- A search on any sheet, fair or not: its centre is a cell of the grid with the people of its circle, and its counts are small.
use Rattle.std.proofs.Common.{Option, None, Some, IfSome, unwrap_or}
use Prim.Native.Nat.{ℕ, zero, suc, ◌+◌, ◌^◌, ◌≤◌}
use mathlib.Core.List.{List, []}
use native.Mathlib.Omega.{arith}
use lib.Ieee.{Float}
use Rattle.lists.proofs.Bools.{cond_case, is_true}
use Rattle.lists.proofs.Elements.{all_map}
use Rattle.floats.specs.Binary.{whole}
use Rattle.grid.specs.declared.Grid.{Grid}
use Rattle.grid.specs.Map.{Map}
use Rattle.grid.proofs.Sizes.{Sizes}
use Rattle.grid.proofs.CellOrder.{corner_on}
use Rattle.sums.specs.Sums.{total}
use Rattle.kernel.proofs.Populations.{population_total}
use Rattle.blocks.specs.declared.Block.{Block}
use Rattle.blocks.specs.Block.{probe, tile, Rectangle}
use Rattle.spacing.specs.declared.Spacing.{Spacing}
use Rattle.bounds.specs.Bound.{wide_km, bound}
use Rattle.spacing.specs.Spacing.{spacing_of}
use Rattle.candidates.specs.declared.Candidate.{Candidate}
use Rattle.candidates.specs.Candidate.{centre_of, candidate, north_west, prunes}
use Rattle.candidates.proofs.Order.{better_of}
use Rattle.tally.specs.declared.Tally.{Tally}
use Rattle.levels.specs.Level.{pruned, evaluated, examine, started, joined, level}
use Rattle.chunk_work.specs.Work.{Outcome, Work}
use Rattle.tally.specs.Counts.{no_tally, no_stats}
use Rattle.tally.specs.State.{stats_weight}
use Rattle.levels.proofs.Rule.{Kept, level_rule}
use Rattle.levels.proofs.Counts.{next}
use Rattle.levels.proofs.Finds.{Circle, probe_circle}
use Rattle.search_rules.specs.declared.SearchResult.{SearchResult}
use Rattle.search_rules.specs.Search.{searched, search}
use Rattle.search_rules.proofs.Levels.{after, levels_rule, Counted, counted_first, counted_next, no_fuel, Tallied}
use Rattle.search_rules.proofs.Places.{tallied_few}
use Rattle.search_rules.proofs.Search.{found, search_is, search_tallied}
use Rattle.ledger.specs.Requires.{InBounds}
use Rattle.probes.specs.State.{search_weight}
use Rattle.probes.proofs.Kept.{SearchSound}

-- ---- what is held is a circle

module _ (m : Map) (km : Float) where
  -- what a level keeps of what is held
  abbrev HeldKept : ℕ → Outcome → Outcome → List Block → Type 0
  HeldKept n o p bs = IfSome o.held (Circle m km) → IfSome p.held (Circle m km)

  block_held : (w : Work) (b : Block) → Rectangle m.globe.grid b → HeldKept 0 w.outcome (examine m km w b).outcome []
  unfolding examine pruned evaluated
  block_held w b r h =
      let wide = wide_km m.globe km b in
      cond_case (λ (v : Work). IfSome v.outcome.held (Circle m km)) (prunes (bound m km b) w.outcome.held) (pruned w b wide)
      (evaluated m km w b wide) (λ e. h) (λ e. better_of (Circle m km) w.outcome.held (Some (candidate m km (probe b))) h (probe_circle m km b r))

  held_kept : (best : Option Candidate) → IfSome best (Circle m km) → Kept m km best HeldKept
  unfolding started joined
  held_kept best c =
      record {
        nothing = λ o h. h;
        block = λ w b r. block_held w b r;
        then = λ i j o p q xs ys f g h. g (f h);
        chunk = λ o p bs f h. better_of (Circle m km) o.held p.held h (f c);
      }

  -- before a level
  record Holding (n : ℕ) (s : SearchResult) (bs : List Block) : Type 0 where
    pub counted : Counted m.globe.grid n s.tally bs
    pub circle : IfSome s.held (Circle m km)

  holding_next : (n : ℕ) (s : SearchResult) (bs : List Block) → Holding (suc n) s bs → Holding n (after m km s bs) (next (level m km s.held bs))
  holding_next n s bs i =
      record {
        counted = counted_next m km s.held n s.tally bs i.counted;
        circle = level_rule m km s.held HeldKept (held_kept s.held i.circle) bs (all_map (λ b t. t.rectangle) i.counted.small) i.circle;
      }

  searched_circle : (spacing : ℕ) → 1 ≤ m.globe.grid.width → 1 ≤ m.globe.grid.height → IfSome (searched m km spacing).held (Circle m km)
  unfolding searched
  searched_circle spacing w h =
      let g = m.globe.grid in
      let (k, i) = levels_rule m km Holding holding_next (λ s b bs i. no_fuel g s.tally b bs i.counted) (g.width + g.height)
      (record { held = None; tally = no_tally }) (tile g spacing) (record { counted = counted_first g spacing w h; circle = tt }) in
      i.circle

-- ---- a search

-- cell (0, 0), which is named where no circle is held
pub corner_bounds : (g : Grid) → Sizes g → (people : ℕ) → people ≤ 2 ^ 53 → InBounds g (north_west people)
unfolding north_west
corner_bounds g sizes people h = record { on = is_true _ (corner_on g sizes.some_columns sizes.some_rows); exact = h }

module _ (m : Map) (sizes : Sizes m.globe.grid) (exact : total m ≤ 2 ^ 53) where
  circle_bounds : (km : Float) (c : Candidate) → Circle m km c → InBounds m.globe.grid c
  circle_bounds km c k = record { on = is_true _ k.on; exact = omega (arith, k.people, population_total m km (centre_of c)) }

  held_bounds : (km : Float) (h : Option Candidate) → IfSome h (Circle m km) → InBounds m.globe.grid (unwrap_or h (north_west 0))
  held_bounds km None c = corner_bounds m.globe.grid sizes 0 (omega arith)
  held_bounds km (Some d) c = circle_bounds km d c

  light : (t : Tally) → Tallied m.globe.grid t → stats_weight t.stats ≤ search_weight
  unfolding stats_weight
  light t k =
      let few = tallied_few m.globe.grid sizes t k in
      omega (arith, few.levels, few.examined, few.pruned, few.evaluated, few.kernels)

  -- A SEARCH IS SOUND, whatever the sheet
  pub search_sound : (spacing : Spacing) (km : ℕ) → SearchSound m.globe.grid (search m spacing km)
  unfolding search no_tally no_stats stats_weight
  search_sound spacing zero = record { centre = corner_bounds m.globe.grid sizes 0 (omega arith); light = omega arith }
  search_sound spacing (suc km) =
      let above : 1 ≤ suc km = omega arith in
      let width = sizes.some_columns in
      let height = sizes.some_rows in
      record {
        centre =
            rw (search_is m spacing (suc km) above)
            (held_bounds (whole (suc km)) (found m spacing (suc km)).held
            (searched_circle m (whole (suc km)) (spacing_of m.globe.grid (whole (suc km)) spacing) width height));
        light = light (search m spacing (suc km)).tally (search_tallied m spacing (suc km) above width height);
      }
