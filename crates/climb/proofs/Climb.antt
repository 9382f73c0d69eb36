-- The climb and the bisection over any probe: what a run probed, where it ends, at most the most radii, no kilometre twice. Of a probe nothing is asked.
use Prim.Native.Nat.{ℕ, zero, suc, ◌+◌, ◌-◌, ◌/◌, ◌^◌, ◌≤◌, ◌<◌}
use mathlib.Core.Path.{◌≡◌, refl}
use mathlib.Core.Logic.{◌⊎◌, inl, inr}
use mathlib.Core.Bool.{Bool, true, false}
use mathlib.Core.List.{List, [], ◌∷◌}
use native.Mathlib.Omega.{arith}
use native.Mathlib.Nat.{two-pow-succ}
use lib.Dec.{ltb}
use lib.ListN.{length}
use borrow.Author.Tests.{ltb-true, ltb-false}
use Rattle.lists.specs.Lists.{fold}
use Rattle.lists.proofs.Bools.{cond_case}
use Rattle.lists.specs.Elements.{AllOf, none, also}
use Rattle.lists.proofs.Elements.{AnyOf, here, there, Distinct, empty, new, all_map}
use Rattle.climb.specs.Climb.{most_cap, most_radii, climb_radii, Ended, all_short, reached_at, bisect, climb}
use Rattle.climb.proofs.Radii.{Steps, climb_steps}

-- ---- what is said of the kilometres probed

abbrev pub UpTo : ℕ → ℕ → Type 0
UpTo cap km = km ≤ cap

-- the radii with the last one first
abbrev pub turned : List ℕ → List ℕ → List ℕ
turned kms radii = fold (λ ks k. k ∷ ks) kms radii

-- a kilometre and what was found there
pub record Finding (F : Type 0) : Type 0 where
  pub km : ℕ
  pub found : F

module _ {F : Type 0} where
  pub record FoundAt (km : ℕ) (f : F) (x : Finding F) : Type 0 where
    pub km_is : x.km ≡ km
    pub found_is : x.found ≡ f

  module _ (reaches : F → Bool) where
    pub record Short (x : Finding F) : Type 0 where
      pub fell : reaches x.found ≡ false

    -- short one kilometre below km
    pub record ShortBelow (km : ℕ) (x : Finding F) : Type 0 where
      pub km_is : x.km + 1 ≡ km
      pub fell : reaches x.found ≡ false

    -- outside the bracket low .. high, on its right side
    pub data Side (low high : ℕ) (x : Finding F) : Type 0 where
      under : x.km < low → reaches x.found ≡ false → Side low high x
      over : high ≤ x.km → reaches x.found ≡ true → Side low high x

-- ---- a run: the states and the findings of its probes

module _ {S F : Type 0} (probed : S → ℕ → S) (latest : S → F) (start : S) where
  -- the state after probes at those kilometres, the latest first
  unfoldable pub after : List ℕ → S
  after [] = start
  after (km ∷ kms) = probed (after kms) km

  unfoldable pub findings : List ℕ → List (Finding F)
  findings [] = []
  findings (km ∷ kms) = record { km = km; found = latest (after (km ∷ kms)) } ∷ findings kms

  -- what every probe keeps, probes one after another keep
  pub after_keeps : (P : S → Type 0) (Q : ℕ → Type 0) → ((s : S) (km : ℕ) → Q km → P s → P (probed s km)) → P start → {kms : List ℕ} → AllOf Q kms → P (after kms)
  unfolding after
  after_keeps P Q keep p none = p
  after_keeps P Q keep p (also {x = km} {xs = kms} q a) = keep (after kms) km q (after_keeps P Q keep p a)

  findings_kms : (P : ℕ → Type 0) (kms : List ℕ) → AllOf (λ x. P x.km) (findings kms) → AllOf P kms
  unfolding findings
  findings_kms P [] a = none
  findings_kms P (km ∷ kms) (also p a) = also p (findings_kms P kms a)

  -- the probes of a run up to the cap that ended in s
  pub record Walked (cap : ℕ) (s : S) (kms : List ℕ) : Type 0 where
    pub ends : s ≡ after kms
    pub within : AllOf (UpTo cap) kms
    pub distinct : Distinct kms
    pub few : length kms ≤ most_radii

  module _ (reaches : F → Bool) (cap : ℕ) where
    -- every radius was probed in turn, and fell short, the cap too
    pub record EndsShort (radii : List ℕ) (s : S) : Type 0 where
      pub trail : List ℕ
      pub walked : Walked cap s trail
      pub every : trail ≡ turned [] radii
      pub shorts : AllOf (Short reaches) (findings trail)
      pub below : AnyOf (ShortBelow reaches (cap + 1)) (findings trail)

    -- f was found at km and reaches; where km is not 0, one kilometre less was probed and fell short
    pub record EndsReached (s : S) (km : ℕ) (f : F) : Type 0 where
      pub trail : List ℕ
      pub walked : Walked cap s trail
      pub top : km ≤ cap
      pub reached : reaches f ≡ true
      pub held : AnyOf (FoundAt km f) (findings trail)
      pub below : (km ≡ 0) ⊎ AnyOf (ShortBelow reaches km) (findings trail)

    abbrev pub Ends : List ℕ → Ended S F → Type 0
    Ends radii (all_short s) = EndsShort radii s
    Ends radii (reached_at s km f) = EndsReached s km f

    -- ---- the bisection: high was probed with f, which reaches; one below low fell short, and no kilometre from low to high but high was probed

    record Bracket (kms : List ℕ) (low high : ℕ) (f : F) : Type 0 where
      pub order : low ≤ high
      pub top : high ≤ cap
      pub reached : reaches f ≡ true
      pub held : AnyOf (FoundAt high f) (findings kms)
      pub below : (low ≡ 0) ⊎ AnyOf (ShortBelow reaches low) (findings kms)
      pub sides : AllOf (Side reaches low high) (findings kms)
      pub within : AllOf (UpTo cap) kms
      pub distinct : Distinct kms

    -- a kilometre inside the bracket is new
    fresh : (low high km : ℕ) (kms : List ℕ) → low ≤ km → km < high → AllOf (Side reaches low high) (findings kms) → AllOf (λ k. km ≡ k → ⊥) kms
    fresh low high km kms l h a = findings_kms (λ k. km ≡ k → ⊥) kms (all_map apart a)
      where
        apart : (x : Finding F) → Side reaches low high x → km ≡ x.km → ⊥
        apart x (under k e) q = omega arith
        apart x (over k e) q = omega arith

    -- what was short below stays so after one probe more
    still : (low km : ℕ) (kms : List ℕ) → (low ≡ 0) ⊎ AnyOf (ShortBelow reaches low) (findings kms)
        → (low ≡ 0) ⊎ AnyOf (ShortBelow reaches low) (findings (km ∷ kms))
    unfolding findings
    still low km kms (inl z) = inl z
    still low km kms (inr a) = inr (there a)

    -- a radius that reached is the bracket's upper end, whatever the probes before it were
    reached_at_lem : (kms : List ℕ) (km low : ℕ) → low ≤ km → km ≤ cap → (low ≡ 0) ⊎ AnyOf (ShortBelow reaches low) (findings kms)
        → AllOf (Side reaches low km) (findings kms) → AllOf (UpTo cap) kms → Distinct (km ∷ kms)
        → reaches (latest (after (km ∷ kms))) ≡ true → Bracket (km ∷ kms) low km (latest (after (km ∷ kms)))
    unfolding findings
    reached_at_lem kms km low l h below sides within distinct e =
        let at : km ≤ km = omega arith in
        record {
          order = l;
          top = h;
          reached = e;
          held = here (record { km_is = refl; found_is = refl });
          below = still low km kms below;
          sides = also (over at e) sides;
          within = also h within;
          distinct = distinct;
        }

    module _ (kms : List ℕ) (km low high : ℕ) (f : F) (b : Bracket kms low high f) (l : low ≤ km) (h : km < high) where
      within_cap : km ≤ cap
      within_cap = omega (arith, b.top)

      -- a middle that reached, and one that fell short
      lower : reaches (latest (after (km ∷ kms))) ≡ true → Bracket (km ∷ kms) low km (latest (after (km ∷ kms)))
      lower = reached_at_lem kms km low l within_cap b.below (all_map closer b.sides) b.within (new (fresh low high km kms l h b.sides) b.distinct)
        where
          closer : (x : Finding F) → Side reaches low high x → Side reaches low km x
          closer x (under k u) = under k u
          closer x (over k u) = over (omega arith) u

      upper : reaches (latest (after (km ∷ kms))) ≡ false → Bracket (km ∷ kms) (km + 1) high f
      unfolding findings
      upper e =
          let past : km < km + 1 = omega arith in
          record {
            order = omega arith;
            top = b.top;
            reached = b.reached;
            held = there b.held;
            below = inr (here (record { km_is = refl; fell = e }));
            sides = also (under past e) (all_map closer b.sides);
            within = also within_cap b.within;
            distinct = new (fresh low high km kms l h b.sides) b.distinct;
          }
        where
          closer : (x : Finding F) → Side reaches low high x → Side reaches (km + 1) high x
          closer x (under k u) = under (omega arith) u
          closer x (over k u) = over k u

    -- a bracket of one kilometre
    close : (kms : List ℕ) (low high : ℕ) (f : F) → Bracket kms low high f → low ≡ high → length kms ≤ most_radii → EndsReached (after kms) high f
    close kms low high f b e n =
        record {
          trail = kms;
          walked = record { ends = refl; within = b.within; distinct = b.distinct; few = n };
          top = b.top;
          reached = b.reached;
          held = b.held;
          below = rw (← e) b.below;
        }

    bisect_ends : (radii : List ℕ) (fuel j : ℕ) (kms : List ℕ) (low high : ℕ) (f : F) → j ≤ fuel → high - low < 2 ^ j → length kms + j ≤ most_radii
        → Bracket kms low high f → Ends radii (bisect probed latest reaches fuel (after kms) low high f)
    unfolding bisect after
    bisect_ends radii zero (suc j) kms low high f u w n b = absurd (omega arith)
    bisect_ends radii zero zero kms low high f u w n b = close kms low high f b (omega (arith, b.order)) (omega arith)
    bisect_ends radii (suc fuel) zero kms low high f u w n b =
        cond_case (Ends radii) (ltb low high) _ _ (λ e. absurd (omega (arith, ltb-true low high e)))
        (λ e. close kms low high f b (omega (arith, b.order, ltb-false low high e)) (omega arith))
    bisect_ends radii (suc fuel) (suc j) kms low high f u w n b =
        let mid = low + (high - low) / 2 in
        let p = two-pow-succ j in
        cond_case (Ends radii) (ltb low high) _ _
        (λ e.
        let l = ltb-true low high e in
        cond_case (Ends radii) (reaches (latest (probed (after kms) mid))) _ _
        (λ t. bisect_ends radii fuel j (mid ∷ kms) low mid (latest (probed (after kms) mid)) (omega arith) (omega arith) (omega arith)
        (lower kms mid low high f b (omega arith) (omega arith) t))
        (λ t. bisect_ends radii fuel j (mid ∷ kms) (mid + 1) high f (omega arith) (omega arith) (omega arith)
        (upper kms mid low high f b (omega arith) (omega arith) t)))
        (λ e. close kms low high f b (omega (arith, b.order, ltb-false low high e)) (omega arith))

    -- ---- the climb: all probes so far fell short, the last one kilometre below low

    pub record Under (low : ℕ) (x : Finding F) : Type 0 where
      pub km_is : x.km < low
      pub fell : reaches x.found ≡ false

    record Climbing (kms : List ℕ) (low : ℕ) : Type 0 where
      pub shorts : AllOf (Under low) (findings kms)
      pub below : (low ≡ 0) ⊎ AnyOf (ShortBelow reaches low) (findings kms)
      pub within : AllOf (UpTo cap) kms
      pub distinct : Distinct kms

    module _ (kms : List ℕ) (km low : ℕ) (c : Climbing kms low) (l : low ≤ km) (h : km ≤ cap) where
      once : Distinct (km ∷ kms)
      once = new (findings_kms (λ k. km ≡ k → ⊥) kms (all_map apart c.shorts)) c.distinct
        where
          apart : (x : Finding F) → Under low x → km ≡ x.km → ⊥
          apart x u q = omega (arith, u.km_is)

      -- a radius that reached opens the bracket, and one that fell short goes on
      opened : reaches (latest (after (km ∷ kms))) ≡ true → Bracket (km ∷ kms) low km (latest (after (km ∷ kms)))
      opened = reached_at_lem kms km low l h c.below (all_map (λ x u. under u.km_is u.fell) c.shorts) c.within once

      climbed : reaches (latest (after (km ∷ kms))) ≡ false → Climbing (km ∷ kms) (km + 1)
      unfolding findings
      climbed e =
          let past : km < km + 1 = omega arith in
          record {
            shorts = also (record { km_is = past; fell = e }) (all_map (λ x u. record { km_is = omega (arith, u.km_is); fell = u.fell }) c.shorts);
            below = inr (here (record { km_is = refl; fell = e }));
            within = also h c.within;
            distinct = once;
          }

    climb_ends : (radii rest : List ℕ) (n : ℕ) (kms : List ℕ) (low : ℕ) → turned kms rest ≡ turned [] radii → length kms ≡ n → Steps cap n low rest
        → Climbing kms low → Ends radii (climb probed latest reaches (after kms) low rest)
    unfolding climb after fold
    climb_ends radii [] n kms low t e (last, few) c =
        record {
          trail = kms;
          walked = record { ends = refl; within = c.within; distinct = c.distinct; few = omega arith };
          every = t;
          shorts = all_map (λ x u. record { fell = u.fell }) c.shorts;
          below = found_below c.below;
        }
      where
        found_below : (low ≡ 0) ⊎ AnyOf (ShortBelow reaches low) (findings kms) → AnyOf (ShortBelow reaches (cap + 1)) (findings kms)
        found_below (inl z) = absurd (omega arith)
        found_below (inr a) = rw last at a
    climb_ends radii (km ∷ rest) n kms low t e (l, h, closes, steps) c =
        cond_case (Ends radii) (reaches (latest (probed (after kms) km))) _ _
        (λ u. bisect_ends radii 15 closes.halvings (km ∷ kms) low km (latest (probed (after kms) km)) closes.fuel closes.enough
        (omega (arith, closes.few)) (opened kms km low c l h u))
        (λ u. climb_ends radii rest (suc n) (km ∷ kms) (km + 1) t (omega arith) steps (climbed kms km low c l h u))

    -- WHERE A RUN ENDS, for any cap from 1 to the largest
    pub run_ends : 1 ≤ cap → cap ≤ most_cap → Ends (climb_radii cap) (climb probed latest reaches start 0 (climb_radii cap))
    unfolding after findings
    run_ends l h =
        climb_ends (climb_radii cap) (climb_radii cap) 0 [] 0 refl refl (climb_steps cap l h)
        (record { shorts = none; below = inl refl; within = none; distinct = empty })
