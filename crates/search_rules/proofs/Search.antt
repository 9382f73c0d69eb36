-- The search at a whole number of kilometres names the best circle, with its population, and accounts for every cell.
use Rattle.std.proofs.Common.{None, unwrap_or}
use Prim.Native.Nat.{ℕ, zero, suc, ◌+◌, ◌≤◌}
use mathlib.Core.Path.{◌≡◌, sym, ap, ◌∙◌}
use mathlib.Core.Logic.{◌⊎◌, inl, inr}
use native.Mathlib.Omega.{arith}
use lib.Dec.{T}
use borrow.Author.Tests.{ne_eqb}
use Rattle.floats.specs.Binary.{whole}
use Rattle.grid.specs.declared.Cell.{Cell}
use Rattle.grid.specs.declared.Grid.{Grid}
use Rattle.grid.specs.Grid.{cell, before, cells}
use Rattle.grid.specs.Map.{Map}
use Rattle.circle_cells.specs.Circle.{population}
use Rattle.circle_cells.proofs.Populations.{population_zero}
use Rattle.spacing.specs.declared.Spacing.{Spacing}
use Rattle.spacing.specs.Spacing.{spacing_of}
use Rattle.bounds.proofs.Bounds.{Bounded}
use Rattle.grid.proofs.CellOrder.{corner_on, Compared, first, same, second, compare, Earlier, north, west, earlier}
use Rattle.search_rules.specs.declared.MostPopulous.{MostPopulous}
use Rattle.search_rules.specs.Best.{BestOf}
use Rattle.candidates.specs.Candidate.{centre_of, north_west}
use Rattle.tally.specs.Counts.{no_tally}
use Rattle.search_rules.specs.declared.SearchResult.{SearchResult}
use Rattle.search_rules.specs.Search.{searched, most_populous, search}
use Rattle.search_rules.proofs.Levels.{searched_best, Tallied, searched_tallied}

-- the best circle at a radius, with its population; and above radius 0 every cell pruned or settled
pub record Searched (m : Map) (km : ℕ) (f : MostPopulous) : Type 0 where
  pub best : BestOf m.globe.grid (population m (whole km)) (centre_of f.centre)
  pub people : f.centre.population ≡ population m (whole km) (centre_of f.centre)
  pub tallied : 1 ≤ km → f.tally.cells_pruned + f.tally.cells_settled ≡ cells m.globe.grid

-- ---- radius 0

-- no cell stands before the cell (0, 0)
north_west_first : (x : Cell) → (x ≡ cell 0 0) ⊎ T (before (cell 0 0) x)
north_west_first x = go (compare (cell 0 0) x)
  where
    none : Earlier x (cell 0 0) → ⊥
    none (north h) = omega arith
    none (west e h) = omega arith

    go : Compared (cell 0 0) x → (x ≡ cell 0 0) ⊎ T (before (cell 0 0) x)
    go (first b) = inr b
    go (same e) = inl (sym e)
    go (second b) = absurd (none (earlier x (cell 0 0) b))

-- where all cells have as many people, (0, 0) is the best
level_best : (g : Grid) (people : Cell → ℕ) (n : ℕ) → ((x : Cell) → people x ≡ n) → 1 ≤ g.width → 1 ≤ g.height → BestOf g people (cell 0 0)
level_best g people n all w h =
    record {
      on = corner_on g w h;
      fullest = λ x t. omega (arith, all x, all (cell 0 0));
      first = λ x t e. north_west_first x;
    }

-- ---- every radius

module _ (m : Map) (spacing : Spacing) where
  search_zero : 1 ≤ m.globe.grid.width → 1 ≤ m.globe.grid.height → Searched m 0 (search m spacing 0)
  unfolding search north_west
  search_zero w h =
      record {
        best = level_best m.globe.grid (population m (whole 0)) 0 (population_zero m) w h;
        people = sym (population_zero m (cell 0 0));
        tallied = λ p. absurd (omega arith);
      }

  -- what a search above radius 0 is made of
  abbrev pub found : ℕ → SearchResult
  found km = searched m (whole km) (spacing_of m.globe.grid (whole km) spacing)

  pub search_is : (km : ℕ) → 1 ≤ km → search m spacing km ≡ most_populous km (unwrap_or (found km).held (north_west 0)) (found km).tally
  unfolding search
  search_is km p = rw (ne_eqb km 0 (λ e. omega arith))

  -- for any sheet, fair or not: the counts of the search
  pub search_tallied : (km : ℕ) → 1 ≤ km → 1 ≤ m.globe.grid.width → 1 ≤ m.globe.grid.height → Tallied m.globe.grid (search m spacing km).tally
  search_tallied km p w h = rw (search_is km p) (searched_tallied m (whole km) (spacing_of m.globe.grid (whole km) spacing) w h)

  search_above : (km : ℕ) → 1 ≤ km → Bounded m (whole km) → 1 ≤ m.globe.grid.width → 1 ≤ m.globe.grid.height → Searched m km (search m spacing km)
  search_above km p bounded w h =
      let b = searched_best m (whole km) bounded (spacing_of m.globe.grid (whole km) spacing) w h in
      rw (search_is km p)
      (record { best = rw b.held b.best; people = rw b.held b.people; tallied = λ q. (searched_tallied m (whole km) (spacing_of m.globe.grid (whole km) spacing) w h).cells_all })

  -- where bounds hold, a search names the best circle at every whole radius
  pub search_best : (km : ℕ) → (1 ≤ km → Bounded m (whole km)) → 1 ≤ m.globe.grid.width → 1 ≤ m.globe.grid.height → Searched m km (search m spacing km)
  search_best zero bounded w h = search_zero w h
  search_best (suc km) bounded w h = search_above (suc km) (omega arith) (bounded (omega arith)) w h

-- ---- what the code's search gives: nothing at radius 0, and otherwise what its levels found

pub search_none : (m : Map) (spacing : Spacing) (km : ℕ) (found : SearchResult) → km ≡ 0 → found ≡ record { held = None; tally = no_tally }
    → most_populous km (unwrap_or found.held (north_west 0)) found.tally ≡ search m spacing km
unfolding search
search_none m spacing km found e f = rw (e, f)

pub search_found : (m : Map) (spacing : Spacing) (km side : ℕ) (found : SearchResult) → (km ≡ 0 → ⊥) → side ≡ spacing_of m.globe.grid (whole km) spacing
    → record { held = found.held; tally = found.tally } ≡ searched m (whole km) side
    → most_populous km (unwrap_or found.held (north_west 0)) found.tally ≡ search m spacing km
unfolding search
search_found m spacing km side found some e f =
    let g : record { held = found.held; tally = found.tally } ≡ searched m (whole km) (spacing_of m.globe.grid (whole km) spacing) =
    f ∙ ap (searched m (whole km)) e in
    rw (ne_eqb km 0 some) (ap (λ (l : SearchResult). most_populous km (unwrap_or l.held (north_west 0)) l.tally) g)
