-- The smallest radius of an accepted call: what is known at each of its steps, and its answer from where its run has ended.
use Prim.Native.Nat.{ℕ, ◌<◌, ◌^◌}
use mathlib.Core.Path.{◌≡◌, sym, ap, ◌∙◌}
use mathlib.Core.List.{List}
use lib.Ieee.{Float}
use lib.ListN.{get_or}
use Rattle.floats.specs.Binary.{whole}
use Rattle.grid.specs.Map.{Map, globe_lent}
use Rattle.grid.proofs.Sizes.{grid_sizes}
use Rattle.grid.proofs.Answers.{PassedCall}
use Rattle.sums.specs.Sums.{total, filled_sums}
use Rattle.sums.specs.State.{counts_map, globe_map, table_map}
use Rattle.sums.proofs.Laws.{bare_total}
use Rattle.sums_fill.specs.Requires.{Fillable}
use Rattle.sums_fill.proofs.Tables.{bare_filled, globe_map_lem}
use Rattle.spacing.specs.declared.Spacing.{Spacing}
use Rattle.levels.specs.declared.SummedMap.{SummedMap}
use Rattle.levels.specs.Requires.{Ready}
use Rattle.levels.specs.State.{summed_lent}
use Rattle.search_rules.specs.declared.LevelBuffers.{LevelBuffers}
use Rattle.most_populous.specs.Call.{Buffers}
use Rattle.most_populous.proofs.SearchCalls as searching
use Rattle.ledger.specs.declared.Ledger.{Ledger}
use Rattle.share.specs.declared.Target.{Target}
use Rattle.share.specs.Target.{predicate_slack_persons, target_of}
use Rattle.probes.specs.declared.Smallest.{Smallest}
use Rattle.probes.specs.Smallest.{Settled, smallest}
use Rattle.probes.specs.State.{ran_with, ran, answer_by}
use Rattle.probes.specs.Requires.{CanRun, CanConclude}
use Rattle.run_end.proofs.Ends.{settled_by, ran_settles}
use Rattle.probes.proofs.Probes.{people_exact}
use Rattle.probes.proofs.Centres.{ran_in_bounds}
use Rattle.probes.specs.declared.RunEnd.{RunEnd}
use Rattle.smallest_rules.specs.Call.{smallest_own}
use Rattle.smallest.specs.Requires.{CanSettle}
use Rattle.smallest_rules.specs.State.{IsSettled}
use Rattle.smallest_rules.proofs.SmallestCalls.{ledger_ordered, room_left}

-- ---- from an accepted map with its sums filled to its answer

module _ (map : SummedMap) {b : LevelBuffers} {l : Ledger} (can : CanSettle map.globe.grid b l) (spacing : Spacing)
    {share : Float} {people : ℕ} (p : people ≡ total (table_map map.globe.grid map.sums.now)) {t : Target} (q : t ≡ target_of share people) {slack : Float}
    (k : slack ≡ predicate_slack_persons map.globe.grid t.total) where
  all_people : people ≡ total (summed_lent map)
  all_people = p ∙ bare_total (summed_lent map)

  same_share : t.share ≡ share
  same_share = ap (λ (x : Target). x.share) q

  the_target : t ≡ target_of share (total (summed_lent map))
  the_target = q ∙ ap (target_of share) all_people

  pub can_run : CanRun (summed_lent map) b (record { target = t; slack = slack; total = people }) l
  can_run =
      record {
        buffers = can.buffers;
        target = the_target ∙ ap (λ (x : Float). target_of x (total (summed_lent map))) (sym same_share);
        total_is = all_people;
        slack_is = k;
        ledger = can.ledger;
        room = can.room;
      }

  module _ {end : RunEnd} {l' : Ledger} (ends : ran_with end l' ≡ ran (summed_lent map) spacing t.share l) where
    pub can_conclude : CanConclude map.globe.grid map.globe.angles.now people end
    can_conclude =
        let ready = map.ready in
        let exact = people_exact _ _ _ _ ready in
        record {
          sheet = record { cosines = map.globe.cosines.now; sizes = ready.sizes; complete = ready.complete; order = ready.order };
          centre = rw (← ends) at (ran_in_bounds (summed_lent map) (grid_sizes map.globe.grid ready.sizes) exact spacing t.share l can.ledger);
          exact = rw all_people exact;
        }

    pub is_settled : {a : Smallest} → a ≡ answer_by (globe_lent map.globe) t slack people end
        → IsSettled (smallest (summed_lent map) spacing share l) a l'
    is_settled {a} f =
        let m = summed_lent map in
        let r = ran_with end l' in
        let same : settled_by m share r ≡ smallest m spacing share l = ap (settled_by m share) ends ∙ rw same_share (ran_settles m spacing share l) in
        let width : slack ≡ predicate_slack_persons map.globe.grid (whole (total m)) = k ∙ ap (λ (x : Target). predicate_slack_persons map.globe.grid x.total) the_target in
        let whole-answer : a ≡ (settled_by m share r).answer = f ∙ rw (the_target, width, all_people) in
        record { answer = rw (← same) whole-answer; ledger = ap (λ (x : Settled). x.ledger) same }

-- ---- what an accepted call knows at each of its steps

module _ (m : Map) (spacing : Spacing) (share : Float) (l : Ledger) (lent : Buffers) (p : PassedCall m (smallest_own m.globe.grid spacing share l lent)) where
  pub to_fill : Fillable m.globe.grid m.counts lent.sums
  to_fill = searching.to_fill m lent p.map (p.yes 7).0

  pub to_settle : (b : LevelBuffers) → b.current.now ≡ lent.current → b.following.now ≡ lent.following → CanSettle m.globe.grid b l
  to_settle b e f =
      record {
        buffers = rw (e, f) (searching.to_search m lent p.map (p.yes 7).0);
        ledger = ledger_ordered m spacing share l lent p;
        room = room_left m spacing share l lent p;
      }

  module _ (last : List ℕ) (filled : last ≡ filled_sums (counts_map m.globe.grid m.counts) lent.sums) where
    pub to_lend : ((i : ℕ) → get_or m.counts i 0 < 2 ^ 32) → Ready m.globe.grid m.globe.angles m.globe.cosines last
    to_lend small = searching.to_lend m lent p.map (p.yes 7).0 last filled small

    -- the map by its sums is the map
    pub settled_map : {a : Smallest} {l' : Ledger} → IsSettled (smallest (globe_map m.globe last) spacing share l) a l' → IsSettled (smallest m spacing share l) a l'
    settled_map s = rw (globe_map_lem m lent.sums last to_fill (filled ∙ bare_filled m lent.sums)) at s
