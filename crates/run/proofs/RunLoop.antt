-- The loop of a run: what it keeps from probe to probe, and the answer where it ends.
use Prim.Native.Nat.{ℕ, ◌+◌, ◌-◌, ◌<◌}
use mathlib.Core.Path.{◌≡◌, refl, sym, ap, ◌∙◌}
use mathlib.Core.Bool.{Bool, true, false, cond, true≢false}
use native.Mathlib.Omega.{arith}
use lib.Ieee.{Float}
use Rattle.std.proofs.Common.{Some}
use Rattle.lists.proofs.Bools.{cases}
use Rattle.floats.specs.Binary.{whole}
use Rattle.grid.specs.declared.Grid.{Grid}
use Rattle.grid.specs.Grid.{ceiling}
use Rattle.grid.specs.Map.{Map}
use Rattle.sums.specs.Sums.{total}
use Rattle.spacing.specs.declared.Spacing.{Spacing}
use Rattle.candidates.specs.declared.Candidate.{Candidate}
use Rattle.candidates.specs.Candidate.{north_west}
use Rattle.tally.specs.Counts.{no_stats}
use Rattle.levels.specs.declared.SummedMap.{SummedMap}
use Rattle.levels.specs.State.{summed_lent}
use Rattle.tally.specs.State.{stats_weight}
use Rattle.search_rules.specs.declared.LevelBuffers.{LevelBuffers}
use Rattle.search_rules.specs.declared.MostPopulous.{MostPopulous}
use Rattle.search_rules.specs.Search.{search}
use Rattle.ledger.specs.declared.Entry.{Entry}
use Rattle.ledger.specs.declared.Ledger.{Ledger}
use Rattle.ledger.specs.Ledger.{get, ledger_in_order, places_free}
use Rattle.ledger.specs.Requires.{PutRoom}
use Rattle.ledger.proofs.Laws.{places_free_lem}
use Rattle.climb.specs.declared.Bracket.{Bracket}
use Rattle.climb.specs.Requires.{CanGoOn}
use Rattle.climb.specs.Climb.{most_radii, Ended, last_radius, climb, climb_radii}
use Rattle.climb.specs.State.{bracket_start, bracket_closed, next_radius, bracket_next}
use Rattle.climb.proofs.Radii.{last_below, last_least, last_most}
use Rattle.climb.proofs.NextRadii.{Stage, stage_start, stage_open, left, left_start, stage_next, left_reached, left_short}
use Rattle.share.specs.declared.Aim.{Aim}
use Rattle.share.specs.declared.Target.{Target}
use Rattle.share.specs.Target.{reaches, predicate_slack_persons}
use Rattle.probes.specs.declared.RunState.{RunState}
use Rattle.probes.specs.declared.RunEnd.{RunEnd}
use Rattle.probes.specs.Probes.{Run, target_persons, probed, latest, smallest_run}
use Rattle.probes.specs.State.{run_begun, state_after, probe_count, radii_of, InOrder, end_at, ran_with, ran_to, ran}
use Rattle.run_end.specs.State.{end_from}
use Rattle.probes.specs.Requires.{CanNote, CanEvaluate, CanRun}
use Rattle.probes.proofs.Traces.{last_km}
use Rattle.probes.proofs.States.{starting, Tracks, tracks_begun, tracks_next}
use Rattle.probes.proofs.Kept.{SearchSound, in_order_next}
use Rattle.probes.proofs.Probes.{ready_sound, can_reuse, can_put, can_evaluate, ProbedTo}

-- ---- the next bracket

next_low : (cap : ℕ) (c : Bracket) (b : Bool) → (bracket_next cap c b).low.0 ≡ cond b c.low.0 (next_radius c + 1)
unfolding bracket_next
next_low cap c true = refl
next_low cap c false = cases c.reached (λ e. rw e) (λ e. rw e)

next_unreached : (cap : ℕ) (c : Bracket) (b : Bool) → (bracket_next cap c b).reached ≡ false → (b ≡ false) × (c.reached ≡ false)
unfolding bracket_next
next_unreached cap c true e = absurd (true≢false e)
next_unreached cap c false e = (refl, cases c.reached (λ r. absurd (true≢false (rw r at e))) (λ r. r))

-- ---- the state at the start

begun_in_order : (g : Grid) (people : ℕ) (l : Ledger) → ledger_in_order g l ≡ true → places_free l most_radii ≡ true → InOrder g l (run_begun people)
unfolding run_begun no_stats stats_weight radii_of
begun_in_order g people l o r =
    record {
      ledger = o;
      room = omega (arith, places_free_lem l most_radii r);
      light = omega arith;
      radii = omega arith;
    }

-- ---- the loop

module _ (m : Map) (spacing : Spacing) (persons slack : Float) (people : ℕ) (l : Ledger) where
  -- the definition's run
  abbrev pub whole_run : Ended Run Candidate
  whole_run = climb (probed m spacing) latest (reaches persons) (starting l) 0 (climb_radii (last_km m))

  -- what is left is the whole, and state and ledger track it
  pub record Running (h : Ledger) (s : RunState) (c : Bracket) : Type 0 where
    pub run : Run
    pub fuel : ℕ
    pub tracks : Tracks persons slack c.low.0 run h s
    pub same : whole_run ≡ left (probed m spacing) latest (reaches persons) (last_km m) fuel c run s.found
    pub stage : Stage (last_km m) (probe_count s) fuel c
    pub order : InOrder m.globe.grid h s
    pub unfound : c.reached ≡ false → s.found ≡ north_west people

  pub running_start : ledger_in_order m.globe.grid l ≡ true → places_free l most_radii ≡ true → Running l (run_begun people) bracket_start
  unfolding run_begun bracket_start
  running_start o r =
      let least = last_least m.globe.grid in
      let most = last_most m.globe.grid in
      record {
        run = starting l;
        fuel = 15;
        tracks = tracks_begun persons slack people l;
        same = sym (left_start (probed m spacing) latest (reaches persons) (last_km m) least most (starting l) (north_west people));
        stage = stage_start (last_km m) least most;
        order = begun_in_order m.globe.grid people l o r;
        unfound = λ e. refl;
      }

  module _ (h : Ledger) (s : RunState) (c : Bracket) (i : Running h s c) where
    -- a bracket that is not closed leaves a probe to make
    pub running_open : bracket_closed c ≡ false → (next_radius c < ceiling m.globe.grid) × (probe_count s < most_radii)
    running_open o =
        let x = stage_open (last_km m) (probe_count s) i.fuel c i.stage o in
        (omega (arith, x.0, last_below m.globe.grid), x.1)

    pub running_next : bracket_closed c ≡ false → SearchSound m.globe.grid (search m spacing (next_radius c))
        → (h' : Ledger) (s' : RunState) (c' : Bracket) → ProbedTo m spacing persons slack h s (next_radius c) h' s' → c' ≡ bracket_next (last_km m) c s'.reached
        → Running h' s' c' × (probe_count s' ≡ probe_count s + 1)
    running_next o sound h' s' c' e f =
        let km = next_radius c in
        let r' = probed m spacing i.run km in
        let at = running_open o in
        let kept = in_order_next m.globe.grid persons slack h s km i.order m spacing at.1 at.0 sound in
        let t = tracks_next persons slack c.low.0 i.run h s i.tracks m spacing km in
        let b = (state_after m spacing persons slack s h km).reached in
        let n = stage_next (probed m spacing) latest (reaches persons) (last_km m) (probe_count s) i.fuel i.run s.found c b i.stage o (sym t.reached) in
        rw (f, e.ledger, e.state) (
          record {
            run = r';
            fuel = n.fuel_left;
            tracks = rw (next_low (last_km m) c b) t.tracks;
            same = i.same ∙ rw t.found n.same;
            stage = rw kept.1 n.stage;
            order = kept.0;
            unfound = λ u. let no = next_unreached (last_km m) c b u in t.found ∙ (rw no.0 (i.unfound no.1));
          },
          kept.1,
        )

    -- ---- the end

    module _ (share : Float) (p : persons ≡ target_persons m share) (q : slack ≡ predicate_slack_persons m.globe.grid (whole (total m))) (k : people ≡ total m) where
      the_run : smallest_run m spacing share l ≡ whole_run
      unfolding smallest_run
      the_run = rw p

      -- each field from what the state tracks
      fields : (km : ℕ) (centre : Candidate) → c.low.0 ≡ km → s.found ≡ centre
          → ran_with (end_from c s) h ≡ ran_with (end_at m share i.run.trace km c.reached centre) i.run.ledger
      unfolding end_from end_at
      fields km centre e f =
          let t : Tracks (target_persons m share) (predicate_slack_persons m.globe.grid (whole (total m))) km i.run h s = rw (p, q, e) at i.tracks in
          rw (e, f, t.ledger, t.short, t.ambiguous, t.stats)

      fields_reached : (km : ℕ) (centre : Candidate) (b : Bool) → c.low.0 ≡ km → s.found ≡ centre → c.reached ≡ b
          → ran_with (end_from c s) h ≡ ran_with (end_at m share i.run.trace km b centre) i.run.ledger
      fields_reached km centre b e f r = fields km centre e f ∙ ap (λ (x : Bool). ran_with (end_at m share i.run.trace km x centre) i.run.ledger) r

      -- WHERE A RUN HAS ENDED
      pub running_end : bracket_closed c ≡ true → ran_with (end_from c s) h ≡ ran m spacing share l
      unfolding ran ran_to
      running_end o =
          cases c.reached
          (λ r.
          let ends = the_run ∙ i.same ∙ left_reached (probed m spacing) latest (reaches persons) (last_km m) (probe_count s) i.fuel i.run s.found c i.stage o r in
          rw ends (fields_reached c.low.0 s.found true refl refl r))
          (λ r.
          let short = left_short (probed m spacing) latest (reaches persons) (last_km m) (probe_count s) i.fuel i.run s.found c i.stage o r in
          let ends = the_run ∙ i.same ∙ short.0 in
          let top : c.low.0 ≡ ceiling m.globe.grid = short.1 ∙ last_below m.globe.grid in
          rw ends (fields_reached (ceiling m.globe.grid) (north_west (total m)) false top (rw (← k) (i.unfound r)) r))

-- ---- the loop's own terms

module _ (map : SummedMap) {b : LevelBuffers} {a : Aim} {l : Ledger}
    (can : CanRun (summed_lent map) b a l) (spacing : Spacing) where
  -- the run of the loop
  abbrev pub Looping : Ledger → RunState → Bracket → Type 0
  Looping h s c = Running (summed_lent map) spacing a.target.persons a.slack a.total l h s c

  pub loop_starts : {s₀ : RunState} → s₀ ≡ run_begun a.total → {c₀ : Bracket} → c₀ ≡ bracket_start → Looping l s₀ c₀
  loop_starts b e =
      rw (e, b) (running_start (summed_lent map) spacing a.target.persons a.slack a.total l can.ledger can.room)

  module _ {h : Ledger} {s : RunState} {c : Bracket} (i : Looping h s c) (o : bracket_closed c ≡ false) where
    at : (next_radius c < ceiling map.globe.grid) × (probe_count s < most_radii)
    at = running_open (summed_lent map) spacing a.target.persons a.slack a.total l h s c i o

    pub loop_reuses : (km : ℕ) {x : Candidate} → get h km ≡ Some x → CanNote s x
    loop_reuses km e = can_reuse i.order at.1 km e

    pub loop_puts : (x : Entry) → PutRoom h x
    loop_puts x = can_put i.order at.1 x

    pub loop_evaluates : (km : ℕ) {f : MostPopulous} → f ≡ search (summed_lent map) spacing km → CanEvaluate s f
    loop_evaluates km e = can_evaluate i.order at.1 (rw e (ready_sound _ _ _ _ map.ready spacing km))

    pub loop_fits : CanGoOn map.globe.grid c
    loop_fits = record { within = omega (arith, at.0, last_below map.globe.grid) }

    pub loop_goes_on : {km : ℕ} {h' : Ledger} {s' : RunState} {c' : Bracket} → km ≡ next_radius c
        → ProbedTo (summed_lent map) spacing a.target.persons a.slack h s km h' s' → c' ≡ bracket_next (last_radius map.globe.grid) c s'.reached
        → Looping h' s' c' × (probe_count s' ≡ probe_count s + 1)
    loop_goes_on {h' = h'} {s' = s'} {c' = c'} e f n =
        running_next (summed_lent map) spacing a.target.persons a.slack a.total l h s c i o (ready_sound _ _ _ _ map.ready spacing (next_radius c))
        h' s' c' (rw (← e) f) n

    pub loop_falls : (s' : RunState) → probe_count s' ≡ probe_count s + 1 → most_radii - probe_count s' < most_radii - probe_count s
    loop_falls s' e = omega (arith, at.1)

  pub loop_ends : {h : Ledger} {s : RunState} {c : Bracket} → Looping h s c → bracket_closed c ≡ true → {e : RunEnd} → e ≡ end_from c s
      → ran_with e h ≡ ran (summed_lent map) spacing a.target.share l
  unfolding target_persons end_from
  loop_ends {h} {s} {c} i o f =
      let m = summed_lent map in
      let persons : a.target.persons ≡ target_persons m a.target.share = ap (λ (x : Target). x.persons) can.target in
      let all : a.target.total ≡ whole (total m) = ap (λ (x : Target). x.total) can.target in
      let width : a.slack ≡ predicate_slack_persons map.globe.grid (whole (total m)) = rw (← all) can.slack_is in
      rw f (running_end m spacing a.target.persons a.slack a.total l h s c i a.target.share persons width can.total_is o)
