-- A run, the angles of a centre row and a row, fed to the judge: angle by angle, and by its ends.
use Prim.Native.Nat.{ℕ, zero, suc, ◌+◌, ◌-◌, ◌≤◌, ◌<◌}
use mathlib.Core.Path.{◌≡◌, refl, sym, ap, ◌∙◌}
use mathlib.Core.Bool.{Bool, true, ◌&&◌, and_assoc}
use mathlib.Core.List.{List, [], ◌∷◌}
use native.Mathlib.Omega.{arith}
use native.Mathlib.Numerals.{add-one}
use lib.Dec.{ltb, eqb}
use lib.ListN.{length, get_or, take}
use lib.Seq.{take-suc, take-length}
use lib.Ieee.{Float, nan, le}
use borrow.Author.Tests.{lt-ltb, le-ltb, ltb-true, eq-eqb, ne_eqb, eqb-true}
use Rattle.floats.specs.Binary.{whole}
use Rattle.lists.specs.Counted.{all_below}
use Rattle.lists.specs.Lists.{fold}
use Rattle.lists.proofs.Bools.{cases, and_both, and_left, and_right}
use Rattle.lists.proofs.All.{all_at, all_of}
use Rattle.lists.proofs.Folds.{fold_append}
use Rattle.sheet.specs.declared.SheetJudge.{SheetJudge}
use Rattle.grid.specs.Numbers.{π}
use Rattle.grid.specs.Grid.{closing}
use Rattle.sheet.specs.Judge.{head_fits, angle_fits, head_after, next_row, next_place, judge_feed}
use Rattle.sheet.specs.State.{not_falling, run_fits, run_ahead}
use Rattle.sheet.specs.Requires.{NextRun}
use Rattle.sheet.proofs.General.{same_true, at_least_first, at_most_last}

-- ---- what is asked of the angles f 0, f 1 .. of a run, and of the first by its row

abbrev pub ranged : (ℕ → Float) → ℕ → Bool
ranged f k = le (whole 0) (f k) && le (f k) π

abbrev pub risen : (ℕ → Float) → ℕ → Bool
risen f k = le (f k) (f (k + 1))

unfoldable pub asked : Bool → (ℕ → Float) → ℕ → Bool
asked head f zero = ranged f 0 && head
asked head f (suc k) = ranged f (suc k) && risen f k

module _ (head : Bool) (f : ℕ → Float) where
  pub asked_range : (k : ℕ) → asked head f k ≡ true → ranged f k ≡ true
  unfolding asked
  asked_range zero e = and_left (ranged f 0) head e
  asked_range (suc k) e = and_left (ranged f (suc k)) (risen f k) e

  pub asked_all : (n : ℕ) → head ≡ true → all_below (n + 1) (ranged f) ≡ true → all_below n (risen f) ≡ true → all_below (n + 1) (asked head f) ≡ true
  unfolding asked
  asked_all n h r u = all_of (n + 1) (asked head f) each
    where
      each : (k : ℕ) → k < n + 1 → asked head f k ≡ true
      each zero l = and_both (ranged f 0) head (all_at (n + 1) (ranged f) 0 r l) h
      each (suc k) l = and_both (ranged f (suc k)) (risen f k) (all_at (n + 1) (ranged f) (suc k) r l) (all_at n (risen f) k u (omega arith))

  module _ (n : ℕ) (a : all_below (n + 1) (asked head f) ≡ true) where
    pub all_head : head ≡ true
    unfolding asked
    all_head = and_right (ranged f 0) head (all_at (n + 1) (asked head f) 0 a (omega arith))

    pub all_ranged : all_below (n + 1) (ranged f) ≡ true
    all_ranged = all_of (n + 1) (ranged f) (λ k l. asked_range k (all_at (n + 1) (asked head f) k a l))

    pub all_risen : all_below n (risen f) ≡ true
    unfolding asked
    all_risen = all_of n (risen f) (λ k l. and_right (ranged f (suc k)) (risen f k) (all_at (n + 1) (asked head f) (suc k) a (omega arith)))

  -- the first and the last bound the rest
  pub by_ends : (n : ℕ) → all_below (n + 1) (asked head f) ≡ (le (whole 0) (f 0) && head && le (f n) π && all_below n (risen f))
  by_ends n = same_true _ _ there back
    where
      least : Bool
      least = le (whole 0) (f 0)

      most : Bool
      most = le (f n) π

      rise : Bool
      rise = all_below n (risen f)

      there : all_below (n + 1) (asked head f) ≡ true → (least && head && most && rise) ≡ true
      there a =
          let in_range : (k : ℕ) → k < n + 1 → ranged f k ≡ true = λ k. all_at (n + 1) (ranged f) k (all_ranged n a) in
          rw (
            and_left least (le (f 0) π) (in_range 0 (omega arith)),
            all_head n a,
            and_right (le (whole 0) (f n)) most (in_range n (omega arith)),
            all_risen n a,
          )

      back : (least && head && most && rise) ≡ true → all_below (n + 1) (asked head f) ≡ true
      back e =
          let up = and_right (least && head && most) rise e in
          let three = and_left (least && head && most) rise e in
          let two = and_left (least && head) most three in
          asked_all n (and_right least head two)
          (all_of (n + 1) (ranged f)
          (λ k l.
          and_both (le (whole 0) (f k)) (le (f k) π) (at_least_first f n up (whole 0) (and_left least head two) k (omega arith))
          (at_most_last f n up π (and_right (least && head) most three) k (omega arith))))
          up

-- ---- fed angle by angle, to a judge that stands where the run begins

module _ (j : SheetJudge) (f : ℕ → Float) where
  abbrev fits : ℕ → Bool
  fits = asked (head_fits j (f 0)) f

  abbrev well_at : ℕ → Bool
  well_at k = j.well && all_below k fits

  -- the judge once k angles are fed, fewer than the run has
  abbrev partly : ℕ → SheetJudge
  partly zero = j
  partly (suc k) = record { grid = j.grid; centre = j.centre; row = j.row; offset = suc k; before = f k; head = f 0; well = well_at (suc k) }

  module _ (fresh : j.offset ≡ 0) where
    fed_one : j.centre < j.grid.height → (k : ℕ) → judge_feed (partly k) (f k) ≡ next_place (partly k) (f k) (f 0) (well_at (suc k))
    unfolding judge_feed head_after angle_fits asked all_below
    fed_one on zero = rw (lt-ltb _ _ on, eq-eqb _ _ fresh)
    fed_one on (suc k) =
        rw (lt-ltb _ _ on, ne_eqb (suc k) 0 (λ e. omega arith), add-one k)
        (ap (next_place (partly (suc k)) (f (suc k)) (f 0)) (and_assoc j.well (all_below (suc k) fits) (ranged f (suc k) && le (f k) (f (suc k)))))

    within : (k : ℕ) (w : Bool) → k < closing j.grid → next_place (partly k) (f k) (f 0) w ≡ record { grid = j.grid; centre = j.centre; row = j.row; offset = suc k; before = f k; head = f 0; well = w }
    unfolding next_place
    within zero w l = rw (fresh, lt-ltb _ _ l)
    within (suc k) w l = rw (lt-ltb _ _ l, add-one (suc k))

    at_last : (k : ℕ) (w : Bool) → closing j.grid ≤ k → next_place (partly k) (f k) (f 0) w ≡ next_row j (f k) (f 0) w
    unfolding next_place next_row
    at_last zero w l = rw (fresh, le-ltb 0 _ l)
    at_last (suc k) w l = rw (le-ltb _ _ l)

place_well_lem : (j : SheetJudge) (before head : Float) (w : Bool) → (next_place j before head w).well ≡ w
unfolding next_place next_row
place_well_lem j before head w = cases (ltb j.offset (closing j.grid)) (λ e. rw e) (λ e. rw e)

module _ (j : SheetJudge) (fresh : j.offset ≡ 0) (on : j.centre < j.grid.height)
    (ys : List Float) (f : ℕ → Float) (reads : (k : ℕ) → get_or ys k nan ≡ f k) where
  run_more : (k : ℕ) → k < length ys → fold judge_feed j (take k ys) ≡ partly j f k
      → fold judge_feed j (take (suc k) ys) ≡ next_place (partly j f k) (f k) (f 0) (well_at j f (suc k))
  unfolding fold
  run_more k l e =
      rw (take-suc ys k nan l, fold_append judge_feed j (take k ys) (get_or ys k nan ∷ []), e, reads k) (fed_one j f fresh on k)

  run_partly : (k : ℕ) → k ≤ closing j.grid → k ≤ length ys → fold judge_feed j (take k ys) ≡ partly j f k
  unfolding fold
  run_partly zero l i = refl
  run_partly (suc k) l i = run_more k i (run_partly k (omega arith) (omega arith)) ∙ within j f fresh k _ l

  -- the verdict after some of its angles
  pub run_well : (k : ℕ) → k ≤ closing j.grid → k < length ys
      → (fold judge_feed j (take (suc k) ys)).well ≡ (j.well && all_below (suc k) (asked (head_fits j (f 0)) f))
  run_well k l i = ap (λ k. k.well) (run_more k i (run_partly k l (omega arith))) ∙ place_well_lem (partly j f k) (f k) (f 0) (well_at j f (suc k))

  -- the judge after all of them
  pub run_fed : closing j.grid < length ys
      → fold judge_feed j (take (closing j.grid + 1) ys)
      ≡ next_row j (f (closing j.grid)) (f 0) (j.well && all_below (closing j.grid + 1) (asked (head_fits j (f 0)) f))
  run_fed i =
      let m = closing j.grid in
      rw (add-one m) (run_more m i (run_partly m (omega arith) (omega arith)) ∙ at_last j f fresh m (well_at j f (suc m)) (omega arith))

-- ---- fed at once

-- what the test of a whole run says
pub ahead : (j : SheetJudge) (n : ℕ) → run_ahead j n ≡ true → (j.offset ≡ 0) × (j.centre < j.grid.height) × (closing j.grid < n)
unfolding run_ahead
ahead j n e =
    let a = eqb j.offset 0 in
    let b = ltb j.centre j.grid.height in
    let two = and_left (a && b) (ltb (closing j.grid) n) e in
    (eqb-true _ _ (and_left a b two), ltb-true _ _ (and_right a b two), ltb-true _ _ (and_right (a && b) (ltb (closing j.grid) n) e))

pub run_at_once : (j : SheetJudge) (run : List Float) → NextRun j run
    → fold judge_feed j run ≡ next_row j (get_or run (length run - 1) nan) (get_or run 0 nan) (j.well && run_fits j run)
unfolding run_fits not_falling
run_at_once j run next =
    let m = closing j.grid in
    let f : ℕ → Float = λ k. get_or run k nan in
    let last : length run - 1 ≡ m = omega (arith, next.size) in
    let all : take (m + 1) run ≡ run = rw (← next.size) (take-length run) in
    rw last
    (ap (fold judge_feed j) (sym all)
    ∙ run_fed j next.fresh next.on run f (λ k. refl) (omega (arith, next.size))
    ∙ ap (λ w. next_row j (f m) (f 0) (j.well && w)) (by_ends (head_fits j (f 0)) f m))
