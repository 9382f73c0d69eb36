-- The search call: what its questions have passed, what an accepted one knows at each step, and what an answer and a refusal leave.
use Prim.Native.Nat.{ℕ, ◌<◌, ◌^◌}
use mathlib.Core.Path.{◌≡◌, refl, ap, ◌∙◌}
use mathlib.Core.Bool.{true, ◌&&◌}
use mathlib.Core.List.{List}
use lib.Dec.{leb}
use lib.ListN.{length, get_or}
use borrow.Author.Tests.{leb-true}
use Rattle.lists.proofs.Bools.{and_left, and_right}
use Rattle.grid.specs.declared.RadiusKm.{RadiusKm}
use Rattle.grid.specs.Grid.{cells}
use Rattle.grid.specs.Map.{Map}
use Rattle.grid.specs.Answer.{first_no, answered, refused, decide, after, shown}
use Rattle.grid.proofs.Answers.{Passed, PassedCall, map_then, decide_yes, refused_alike}
use Rattle.sums.specs.Sums.{sums_fit, filled_sums}
use Rattle.sums.specs.State.{counts_map, globe_map}
use Rattle.sums_fill.specs.Requires.{Fillable}
use Rattle.sums_fill.proofs.Tables.{fillable, bare_filled, globe_map_lem, globe_summed}
use Rattle.spacing.specs.declared.Spacing.{Spacing}
use Rattle.search_rules.specs.declared.MostPopulous.{MostPopulous}
use Rattle.search_rules.specs.Search.{search}
use Rattle.most_populous.specs.Call.{Buffers, buffers_fit, buffers_after, search_own, search_questions, search_call}
use Rattle.levels.specs.Requires.{Ready}
use Rattle.search_rules.specs.Requires.{TwoBuffers}

-- ---- the questions of the call

module _ (m : Map) (spacing : Spacing) (km : ℕ) (lent : Buffers) where
  pub search_passed : first_no (search_questions m spacing km lent) ≡ 0 → PassedCall m (search_own m.globe.grid spacing km lent)
  unfolding search_questions
  search_passed e = map_then m (search_own m.globe.grid spacing km lent) refl e

  -- ---- what the call gives

  pub search_refused : (n : ℕ) (r : RadiusKm) → refused n ≡ decide (first_no (search_questions m spacing km lent)) r
      → record { answer = refused n; lent = record { sums = lent.sums; current = lent.current; following = lent.following } } ≡ search_call m spacing km lent
  unfolding search_call buffers_after after shown
  search_refused n r e = rw (refused_alike n (first_no (search_questions m spacing km lent)) r (search m spacing km) e)

  pub search_answered : (found : MostPopulous) (sums current following : List ℕ) → first_no (search_questions m spacing km lent) ≡ 0
      → found ≡ search m spacing km → sums ≡ filled_sums m lent.sums → length current ≡ length lent.current → length following ≡ length lent.following
      → record { answer = answered found; lent = record { sums = sums; current = shown (answered found) current; following = shown (answered found) following } }
      ≡ search_call m spacing km lent
  unfolding search_call buffers_after after shown
  search_answered found sums current following e f s n l =
      rw (decide_yes (first_no (search_questions m spacing km lent)) (search m spacing km) e, f, s, n, l)

-- ---- what a call knows at each of its steps, once the map has passed and the buffers fit

module _ (m : Map) (lent : Buffers) (passed : Passed m) (fit : buffers_fit m.globe.grid lent ≡ true) where
  both : (sums_fit m.globe.grid lent.sums && leb (cells m.globe.grid) (length lent.current)) ≡ true
  unfolding buffers_fit
  both = and_left (sums_fit m.globe.grid lent.sums && leb (cells m.globe.grid) (length lent.current)) (leb (cells m.globe.grid) (length lent.following)) fit

  following_fits : leb (cells m.globe.grid) (length lent.following) ≡ true
  unfolding buffers_fit
  following_fits = and_right (sums_fit m.globe.grid lent.sums && leb (cells m.globe.grid) (length lent.current)) (leb (cells m.globe.grid) (length lent.following)) fit

  pub to_fill : Fillable m.globe.grid m.counts lent.sums
  to_fill =
      fillable m lent.sums passed.grid.sizes passed.counts
      (and_left (sums_fit m.globe.grid lent.sums) (leb (cells m.globe.grid) (length lent.current)) both)

  pub to_search : TwoBuffers m.globe.grid lent.current lent.following
  to_search =
      record {
        sizes = passed.grid.sizes;
        current_room =
            leb-true (cells m.globe.grid) (length lent.current)
            (and_right (sums_fit m.globe.grid lent.sums) (leb (cells m.globe.grid) (length lent.current)) both);
        following_room = leb-true (cells m.globe.grid) (length lent.following) following_fits;
      }

  -- once the sums are filled
  module _ (last : List ℕ) (filled : last ≡ filled_sums (counts_map m.globe.grid m.counts) lent.sums) where
    sums_filled : last ≡ filled_sums m lent.sums
    sums_filled = filled ∙ bare_filled m lent.sums

    pub to_lend : ((i : ℕ) → get_or m.counts i 0 < 2 ^ 32) → Ready m.globe.grid m.globe.angles m.globe.cosines last
    to_lend small =
        record {
          sizes = passed.grid.sizes;
          complete = passed.sheet;
          order = passed.order;
          table = globe_summed m lent.sums last to_fill sums_filled small;
        }

    -- the map by its sums is the map, at the radius that the questions left
    pub searched_map : (spacing : Spacing) (km r : ℕ) → km ≡ r → search (globe_map m.globe last) spacing r ≡ search m spacing km
    searched_map spacing km r same = rw same (ap (λ (x : Map). search x spacing r) (globe_map_lem m lent.sums last to_fill sums_filled))
