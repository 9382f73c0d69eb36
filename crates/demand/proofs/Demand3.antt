-- Demand 3: on an accepted map whose sheet is fair the search names the best circle, and a list of smallest-radius calls is as the user asks.
use Prim.Native.Nat.{ℕ, ◌≤◌}
use native.Mathlib.Nat.{le_of_lt}
use Rattle.grid.specs.Grid.{ceiling}
use Rattle.grid.specs.Map.{Map}
use Rattle.grid.proofs.Answers.{map_passed}
use Rattle.grid.proofs.SheetOrder.{in_order}
use Rattle.grid.proofs.Sizes.{grid_sizes}
use Rattle.spacing.specs.declared.Spacing.{Spacing}
use Rattle.bounds.specs.Fair.{Fair}
use Rattle.search_rules.specs.Search.{search}
use Rattle.search_rules.proofs.Search.{Searched, search_best}
use Rattle.demand.specs.Demand3.{Accepted, SearchPromise, Theorem}
use Rattle.demand.proofs.Fairness.{fair_bounded}
use Rattle.demand.proofs.Searches.{search_answers, search_answered}
use Rattle.demand.proofs.Lists.{SearchedBest, list_promise}

module _ (m : Map) (a : Accepted m) (fair : Fair m.globe) where
  -- at every whole radius up to the ceiling, 0 and the ceiling too, with any spacing
  pub searched : (spacing : Spacing) (km : ℕ) → km ≤ ceiling m.globe.grid → Searched m km (search m spacing km)
  searched spacing km h =
      let passed = map_passed m a.asked in
      let sizes = grid_sizes m.globe.grid passed.grid.sizes in
      search_best m spacing km (λ p. fair_bounded m (in_order m.globe passed.order) fair km h) sizes.some_columns sizes.some_rows

  searched_best : SearchedBest m
  searched_best spacing given km h = let s = searched spacing km (le_of_lt h) in record { best = s.best; people = s.people }

  search_promise : SearchPromise m
  search_promise km p h spacing lent f e =
      let s = searched spacing km (le_of_lt h) in
      rw (← (search_answered m a km spacing lent f e).1) (record { centre = record { best = s.best; people = s.people }; tallied = s.tallied p })

pub demand_3 : Theorem
demand_3 m a fair =
    record { search = search_promise m a fair; answers = search_answers m a; list = list_promise m a (searched_best m a fair) }
