-- The climb and the bisection radius by radius: what is left of a run from a bracket, over any probe, and how few radii are left.
use Prim.Native.Nat.{ℕ, zero, suc, ◌+◌, ◌-◌, ◌*◌, ◌/◌, ◌^◌, ◌≤◌, ◌<◌, min}
use mathlib.Core.Path.{◌≡◌, refl, sym, ap}
use mathlib.Core.Bool.{Bool, true, false, cond, true≢false}
use mathlib.Core.List.{List, [], ◌∷◌}
use native.Mathlib.Numerals.{add-one}
use native.Mathlib.Omega.{arith}
use native.Mathlib.Nat.{two-pow-succ}
use lib.Dec.{leb, ltb}
use borrow.Author.Tests.{ltb-true, ltb-false, leb-true, leb-false, lt-ltb, le-ltb}
use Rattle.lists.proofs.Bools.{cases}
use Rattle.grid.specs.declared.Grid.{Grid}
use Rattle.climb.specs.declared.Bracket.{Bracket}
use Rattle.climb.specs.Climb.{most_cap, most_radii, doublings, climb_radii, Ended, all_short, reached_at, bisect, climb}
use Rattle.climb.specs.Requires.{CanGoOn}
use Rattle.climb.specs.State.{bracket_at, bracket_start, bracket_closed, next_radius, bracket_next}
use Rattle.climb.proofs.Radii.{last_most, Steps, climb_steps}

-- ---- the next bracket, by what the code tests

-- the kilometre after the next radius is at most the ceiling
pub next_fits : {g : Grid} {c : Bracket} → CanGoOn g c → {km : ℕ} → km ≡ next_radius c → km + 1 < 2 ^ 32
next_fits {g} can e = omega (arith, can.within, last_most g)

module _ (last : ℕ) (c : Bracket) (r : Bool) (km : ℕ) (k : km ≡ next_radius c) where
  pub next_reached : r ≡ true → bracket_at c.low.0 km true ≡ bracket_next last c r
  unfolding bracket_next
  next_reached e = rw (← k, e)

  pub next_bisected : r ≡ false → c.reached ≡ true → bracket_at (km + 1) c.high.0 true ≡ bracket_next last c r
  unfolding bracket_next
  next_bisected e f = rw (← k, e, f)

  pub next_climbed : r ≡ false → c.reached ≡ false → bracket_at (km + 1) (min (2 * km) last) false ≡ bracket_next last c r
  unfolding bracket_next
  next_climbed e f = rw (← k, e, f)

-- ---- the radii of the climb from one of them on

module _ (cap : ℕ) where
  unfoldable pub radii_from : ℕ → ℕ → List ℕ
  radii_from zero km = km ∷ []
  radii_from (suc fuel) km =
      let more : List ℕ = km ∷ radii_from fuel (min (2 * km) cap) in
      cond (ltb km cap) more (km ∷ [])

  from_doublings : (fuel n : ℕ) → cap ≤ 2 ^ (n + fuel) → radii_from fuel (min (2 ^ n) cap) ≡ doublings fuel cap (2 ^ n)
  unfolding radii_from doublings
  from_doublings zero n h =
      let sum : n + 0 ≡ n = omega arith in
      let far : cap ≤ 2 ^ n = rw sum at h in
      let least : min (2 ^ n) cap ≡ cap = omega arith in
      rw least
  from_doublings (suc fuel) n h =
      let double : 2 * 2 ^ n ≡ 2 ^ suc n = omega (arith, two-pow-succ n) in
      let sum : n + suc fuel ≡ suc n + fuel = omega arith in
      let far : cap ≤ 2 ^ (suc n + fuel) = rw sum at h in
      cases (ltb (2 ^ n) cap)
      (λ t.
      let u = ltb-true (2 ^ n) cap t in
      let least : min (2 ^ n) cap ≡ 2 ^ n = omega arith in
      rw (least, t, double) (ap (λ (kms : List ℕ). 2 ^ n ∷ kms) (from_doublings fuel (suc n) far)))
      (λ t.
      let u = ltb-false (2 ^ n) cap t in
      let least : min (2 ^ n) cap ≡ cap = omega arith in
      rw (least, t, le-ltb cap cap (omega arith)))

  pub from_start : 1 ≤ cap → cap ≤ most_cap → radii_from 15 1 ≡ climb_radii cap
  unfolding climb_radii
  from_start l h =
      let one : min (2 ^ 0) cap ≡ 1 = omega arith in
      rw one at (from_doublings 15 0 (omega arith))

  -- the first of them, and the others
  unfoldable pub radii_past : ℕ → ℕ → List ℕ
  radii_past zero km = []
  radii_past (suc fuel) km = cond (ltb km cap) (radii_from fuel (min (2 * km) cap)) []

  pub from_first : (fuel km : ℕ) → radii_from fuel km ≡ km ∷ radii_past fuel km
  unfolding radii_from radii_past
  from_first zero km = refl
  from_first (suc fuel) km = cases (ltb km cap) (λ t. rw t) (λ t. rw t)

-- ---- how few radii are left, n being gone

pub record Bisecting (cap n fuel low high : ℕ) : Type 0 where
  pub order : low ≤ high
  pub top : high ≤ cap
  pub halvings : ℕ
  pub enough : halvings ≤ fuel
  pub narrow : high - low < 2 ^ halvings
  pub few : n + halvings ≤ most_radii

pub data Climbing (cap n fuel low high : ℕ) : Type 0 where
  upward : Steps cap n low (radii_from cap fuel high) → Climbing cap n fuel low high
  beyond : low ≡ cap + 1 → high ≡ cap → n ≤ most_radii → Climbing cap n fuel low high

abbrev pub StageAt : ℕ → ℕ → ℕ → ℕ → ℕ → Bool → Type 0
StageAt cap n fuel low high true = Bisecting cap n fuel low high
StageAt cap n fuel low high false = Climbing cap n fuel low high

abbrev pub Stage : ℕ → ℕ → ℕ → Bracket → Type 0
Stage cap n fuel c = StageAt cap n fuel c.low.0 c.high.0 c.reached

pub stage_start : (cap : ℕ) → 1 ≤ cap → cap ≤ most_cap → Stage cap 0 15 bracket_start
unfolding bracket_start
stage_start cap l h = upward (rw (from_start cap l h) (climb_steps cap l h))

-- a bracket that is not closed: the next radius, and a probe more is within the most
pub stage_open : (cap n fuel : ℕ) (c : Bracket) → Stage cap n fuel c → bracket_closed c ≡ false → (next_radius c ≤ cap) × (n < most_radii)
unfolding bracket_closed next_radius
stage_open cap n fuel c st o = go c.low.0 c.high.0 c.reached st o
  where
    go : (low high : ℕ) (r : Bool) → StageAt cap n fuel low high r → cond r (leb high low) (ltb high low) ≡ false
        → (cond r (low + (high - low) / 2) high ≤ cap) × (n < most_radii)
    go low high true b o =
        let u : low < high = omega (arith, leb-false high low o) in
        let one : 1 ≤ b.halvings = some b.halvings b.narrow u in
        (omega (arith, b.top), omega (arith, b.few))
      where
        some : (j : ℕ) → high - low < 2 ^ j → low < high → 1 ≤ j
        some zero h u = absurd (omega arith)
        some (suc j) h u = omega arith
    go low high false (upward st) o =
        let parts : Steps cap n low (high ∷ radii_past cap fuel high) = rw (from_first cap fuel high) at st in
        (parts.1, omega (arith, parts.2.few))
    go low high false (beyond e f k) o = absurd (omega (arith, ltb-false high low o))

-- ---- what is left of a run

module _ {S F : Type 0} (probed : S → ℕ → S) (latest : S → F) (reaches : F → Bool) (cap : ℕ) where
  unfoldable pub left_at : ℕ → ℕ → ℕ → Bool → S → F → Ended S F
  left_at fuel low high r s found =
      let bisected = bisect probed latest reaches fuel s low high found in
      let climbed = climb probed latest reaches s low (radii_from cap fuel high) in
      cond r bisected (cond (ltb high low) (all_short s) climbed)

  -- from a bracket on: the bisection, or the climb, unless it is past the last radius
  unfoldable pub left : ℕ → Bracket → S → F → Ended S F
  left fuel c s found = left_at fuel c.low.0 c.high.0 c.reached s found

  pub left_start : 1 ≤ cap → cap ≤ most_cap → (s : S) (found : F) → left 15 bracket_start s found ≡ climb probed latest reaches s 0 (climb_radii cap)
  unfolding left left_at bracket_start
  left_start l h s found = rw (from_start cap l h)

  -- one probe on
  pub record Next (n fuel : ℕ) (c : Bracket) (s : S) (found : F) (b : Bool) : Type 0 where
    pub fuel_left : ℕ
    pub stage : Stage cap (n + 1) fuel_left (bracket_next cap c b)
    pub same : left fuel c s found ≡ left fuel_left (bracket_next cap c b) (probed s (next_radius c)) (cond b (latest (probed s (next_radius c))) found)

  module _ (n fuel : ℕ) (low high : ℕ) (s : S) (found : F) where
    -- a radius of the climb that reached opens the bisection
    climb_reached : Climbing cap n fuel low high → ltb high low ≡ false → reaches (latest (probed s high)) ≡ true
        → Bisecting cap (n + 1) 15 low high × (left_at fuel low high false s found ≡ left_at 15 low high true (probed s high) (latest (probed s high)))
    unfolding left_at climb
    climb_reached (beyond e f k) o t = absurd (omega (arith, ltb-false high low o))
    climb_reached (upward st) o t =
        let parts : Steps cap n low (high ∷ radii_past cap fuel high) = rw (from_first cap fuel high) at st in
        let closes = parts.2 in (
          record { order = parts.0; top = parts.1; halvings = closes.halvings; enough = closes.fuel; narrow = closes.enough; few = omega (arith, closes.few) },
          rw (o, from_first cap fuel high, t),
        )

    -- the last one that fell short ends it
    last_short : Steps cap (suc n) (high + 1) [] → Climbing cap (n + 1) 0 (high + 1) (min (2 * high) cap) × (ltb (min (2 * high) cap) (high + 1) ≡ true)
    last_short (e, k) = (beyond e (omega arith) (omega arith), lt-ltb (min (2 * high) cap) (high + 1) (omega arith))

  -- a radius of the climb that fell short
  pub record Higher (n fuel low high : ℕ) (s : S) (found : F) : Type 0 where
    pub fuel_left : ℕ
    pub stage : Climbing cap (n + 1) fuel_left (high + 1) (min (2 * high) cap)
    pub same : left_at fuel low high false s found ≡ left_at fuel_left (high + 1) (min (2 * high) cap) false (probed s high) found

  climb_short : (n fuel low high : ℕ) (s : S) (found : F) → Climbing cap n fuel low high → ltb high low ≡ false → reaches (latest (probed s high)) ≡ false
      → Higher n fuel low high s found
  unfolding left_at climb radii_from radii_past
  climb_short n fuel low high s found (beyond e f k) o t = absurd (omega (arith, ltb-false high low o))
  climb_short n zero low high s found (upward st) o t =
      let end = last_short n 0 low high s found st.3 in
      record { fuel_left = 0; stage = end.0; same = rw (o, t, end.1) }
  climb_short n (suc fuel) low high s found (upward st) o t =
      let parts : Steps cap n low (high ∷ radii_past cap (suc fuel) high) = rw (from_first cap (suc fuel) high) at st in
      cases (ltb high cap)
      (λ u.
      let more : Steps cap (suc n) (high + 1) (radii_from cap fuel (min (2 * high) cap)) = rw u at parts.3 in
      let head : Steps cap (suc n) (high + 1) (min (2 * high) cap ∷ radii_past cap fuel (min (2 * high) cap)) = rw (from_first cap fuel (min (2 * high) cap)) at more in
      record { fuel_left = fuel; stage = upward (rw (add-one n) more); same = rw (o, u, t, le-ltb (min (2 * high) cap) (high + 1) head.0) })
      (λ u.
      let end = last_short n 0 low high s found (rw u at parts.3) in
      record { fuel_left = 0; stage = end.0; same = rw (o, u, t, end.1) })

  -- a middle
  module _ (n fuel low high mid : ℕ) (s : S) (found : F) (at : mid ≡ low + (high - low) / 2) (b : Bisecting cap n (suc fuel) low high) (u : low < high) where
    middle_reached : reaches (latest (probed s mid)) ≡ true
        → Bisecting cap (n + 1) fuel low mid × (left_at (suc fuel) low high true s found ≡ left_at fuel low mid true (probed s mid) (latest (probed s mid)))
    unfolding left_at bisect
    middle_reached t = (halved b.halvings b.enough b.narrow b.few, rw (lt-ltb low high u, ← at, t))
      where
        halved : (j : ℕ) → j ≤ suc fuel → high - low < 2 ^ j → n + j ≤ most_radii → Bisecting cap (n + 1) fuel low mid
        halved zero e w k = absurd (omega arith)
        halved (suc j) e w k =
            let p = two-pow-succ j in
            record { order = omega arith; top = omega (arith, b.top); halvings = j; enough = omega arith; narrow = omega arith; few = omega arith }

    middle_short : reaches (latest (probed s mid)) ≡ false
        → Bisecting cap (n + 1) fuel (mid + 1) high × (left_at (suc fuel) low high true s found ≡ left_at fuel (mid + 1) high true (probed s mid) found)
    unfolding left_at bisect
    middle_short t = (halved b.halvings b.enough b.narrow b.few, rw (lt-ltb low high u, ← at, t))
      where
        halved : (j : ℕ) → j ≤ suc fuel → high - low < 2 ^ j → n + j ≤ most_radii → Bisecting cap (n + 1) fuel (mid + 1) high
        halved zero e w k = absurd (omega arith)
        halved (suc j) e w k =
            let p = two-pow-succ j in
            record { order = omega arith; top = b.top; halvings = j; enough = omega arith; narrow = omega arith; few = omega arith }

  module _ (n fuel : ℕ) (s : S) (found : F) where
    -- ONE PROBE ON: what is left is what was left, and one radius fewer
    pub stage_next : (c : Bracket) (b : Bool) → Stage cap n fuel c → bracket_closed c ≡ false → reaches (latest (probed s (next_radius c))) ≡ b → Next n fuel c s found b
    unfolding left bracket_next next_radius bracket_closed
    stage_next c b st o t = go fuel c.low.0 c.high.0 c.reached b st o t
      where
        go : (fuel low high : ℕ) (r b : Bool) → StageAt cap n fuel low high r → bracket_closed (bracket_at low high r) ≡ false
            → reaches (latest (probed s (next_radius (bracket_at low high r)))) ≡ b → Next n fuel (bracket_at low high r) s found b
        go fuel low high false true st o t = let x = climb_reached n fuel low high s found st o t in record { fuel_left = 15; stage = x.0; same = x.1 }
        go fuel low high false false st o t = let x = climb_short n fuel low high s found st o t in record { fuel_left = x.fuel_left; stage = x.stage; same = x.same }
        go (suc fuel) low high true true st o t =
            let x = middle_reached n fuel low high _ s found refl st (omega (arith, leb-false high low o)) t in record { fuel_left = fuel; stage = x.0; same = x.1 }
        go (suc fuel) low high true false st o t =
            let x = middle_short n fuel low high _ s found refl st (omega (arith, leb-false high low o)) t in record { fuel_left = fuel; stage = x.0; same = x.1 }
        go zero low high true b st o t = absurd (none st.halvings st.enough st.narrow)
          where
            none : (j : ℕ) → j ≤ 0 → high - low < 2 ^ j → ⊥
            none zero e w = omega (arith, leb-false high low o)
            none (suc j) e w = omega arith

    -- a bracket that is closed: at its low end
    pub left_reached : (c : Bracket) → Stage cap n fuel c → bracket_closed c ≡ true → c.reached ≡ true → left fuel c s found ≡ reached_at s c.low.0 found
    unfolding left left_at bisect bracket_closed
    left_reached c st o e = go fuel c.low.0 c.high.0 c.reached st o e
      where
        go : (fuel low high : ℕ) (r : Bool) → StageAt cap n fuel low high r → cond r (leb high low) (ltb high low) ≡ true → r ≡ true
            → left_at fuel low high r s found ≡ reached_at s low found
        go fuel low high true st o e =
            let same : low ≡ high = omega (arith, st.order, leb-true high low o) in
            rw same (closed fuel high)
          where
            closed : (fuel high : ℕ) → bisect probed latest reaches fuel s high high found ≡ reached_at s high found
            closed zero high = refl
            closed (suc fuel) high = rw (le-ltb high high (omega arith))
        go fuel low high false st o e = absurd (true≢false (sym e))

    pub left_short : (c : Bracket) → Stage cap n fuel c → bracket_closed c ≡ true → c.reached ≡ false → (left fuel c s found ≡ all_short s) × (c.low.0 ≡ cap + 1)
    unfolding left left_at bracket_closed
    left_short c st o e = go c.low.0 c.high.0 c.reached st o e
      where
        go : (low high : ℕ) (r : Bool) → StageAt cap n fuel low high r → cond r (leb high low) (ltb high low) ≡ true → r ≡ false
            → (left_at fuel low high r s found ≡ all_short s) × (low ≡ cap + 1)
        go low high true st o e = absurd (true≢false e)
        go low high false (beyond l h k) o e = (rw o, l)
        go low high false (upward st) o e =
            let parts : Steps cap n low (high ∷ radii_past cap fuel high) = rw (from_first cap fuel high) at st in
            absurd (omega (arith, parts.0, ltb-true high low o))
