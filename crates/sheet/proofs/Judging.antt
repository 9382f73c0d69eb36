-- What the judge says of the angles that it was fed: the rules at each of their places, and so, of a whole sheet, question 6.
use Prim.Native.Nat.{ℕ, zero, suc, ◌+◌, ◌-◌, ◌*◌, ◌≤◌, ◌<◌}
use mathlib.Core.Path.{◌≡◌, refl, sym, ap, subst, ◌∙◌}
use mathlib.Core.Bool.{Bool, true, false, cond, ◌&&◌, and_assoc, and-true, true≢false}
use mathlib.Core.List.{List, [], ◌∷◌, ◌++◌}
use native.Mathlib.Omega.{arith}
use native.Mathlib.Decide.{dec_lt}
use native.Mathlib.Nat.{add-zero, zero-mul, suc-mul, add-mul}
use native.Mathlib.Numerals.{add-one}
use lib.Dec.{ltb, eqb}
use lib.ListN.{length, take, drop, take-append-drop, length-append}
use lib.Seq.{get_or-drop, drop-drop, drop_at, take-append_seam, take-length, length-take-le}
use Rattle.std.proofs.lemmas.List.{length-drop}
use lib.Arith.{digits_lt}
use lib.Ieee.{Float, nan, inf, fin, le, eq}
use borrow.Author.Tests.{lt-ltb, le-ltb, eqb-true, eq-eqb, ne_eqb}
use Rattle.floats.specs.Binary.{whole, finite, open_floats}
use Rattle.lists.specs.Counted.{all_below}
use Rattle.lists.specs.Lists.{fold}
use Rattle.lists.proofs.Bools.{cases, and_both, and_left, and_right, and_no}
use Rattle.lists.proofs.All.{all_at, all_of, all_fails, all_rows_at, all_rows_of}
use Rattle.lists.proofs.Folds.{fold_append, fold_more}
use Rattle.grid.specs.declared.Grid.{Grid}
use Rattle.sheet.specs.declared.SheetJudge.{SheetJudge}
use Rattle.grid.specs.Numbers.{π}
use Rattle.grid.specs.Grid.{closing, angle_count}
use Rattle.grid.specs.Map.{Globe, sheet_index, angle_at, cosine_at, globe_of, sheet_of}
use Rattle.grid.specs.Questions.{every_row, every_pair, angle, cosine_in_range, cosines_in_range, angle_in_range, angles_in_range, own_angle_zero, angle_rises, angles_rise, row_rises, rows_rise, sheet_in_order}
use Rattle.sheet.specs.Judge.{judge_start, own_fits, row_fits, head_fits, next_row, next_place, judge_feed, judged}
use Rattle.sheet.specs.Requires.{NextRun}
use Rattle.sheet.proofs.General.{same_true}
use Rattle.sheet.proofs.Runs.{ranged, risen, asked, asked_all, all_head, all_ranged, all_risen, run_well, run_fed}

-- ---- a judge keeps its grid

grid_fed : (j : SheetJudge) (a : Float) → (judge_feed j a).grid ≡ j.grid
unfolding judge_feed next_place next_row
grid_fed j a =
    cases (ltb j.centre j.grid.height)
    (λ on. cases (ltb j.offset (closing j.grid)) (λ k. rw (on, k)) (λ k. rw (on, k)))
    (λ off. rw off)

pub grid_kept : (j : SheetJudge) (ys : List Float) → (fold judge_feed j ys).grid ≡ j.grid
unfolding fold
grid_kept j [] = refl
grid_kept j (y ∷ ys) = grid_kept (judge_feed j y) ys ∙ grid_fed j y

-- ---- what is refused stays refused, whatever is fed after it

refused_fed : (j : SheetJudge) (a : Float) → j.well ≡ false → (judge_feed j a).well ≡ false
unfolding judge_feed next_place next_row
refused_fed j a e =
    cases (ltb j.centre j.grid.height)
    (λ on. cases (ltb j.offset (closing j.grid)) (λ k. rw (on, k, e)) (λ k. rw (on, k, e)))
    (λ off. rw off e)

pub refused_stays : (j : SheetJudge) (ys : List Float) → j.well ≡ false → (fold judge_feed j ys).well ≡ false
unfolding fold
refused_stays j [] e = e
refused_stays j (y ∷ ys) e = refused_stays (judge_feed j y) ys (refused_fed j y e)

pub judged_no : (g : Grid) (xs : List Float) (n : ℕ) → judged g (take n xs) ≡ false → judged g xs ≡ false
unfolding judged
judged_no g xs n e =
    ap (λ l. (fold judge_feed (judge_start g) l).well) (sym (take-append-drop n xs))
    ∙ ap (λ j. j.well) (fold_append judge_feed (judge_start g) (take n xs) (drop n xs))
    ∙ refused_stays (fold judge_feed (judge_start g) (take n xs)) (drop n xs) e

-- NaN and the infinities are out of range
unbounded : (a : Float) → finite a ≡ false → (le (whole 0) a && le a π) ≡ false
unfolding open_floats
unbounded nan e = refl
unbounded (inf true) e = refl
unbounded (inf false) e = refl
unbounded (fin s m x) e = absurd (true≢false e)

-- ---- the rules by centre row, row and offset

module _ (s : Globe) where
  abbrev own_rule : ℕ → ℕ → Bool
  own_rule c r = cond (eqb r c) (eq (angle s c r 0) (whole 0)) true

  abbrev row_rule : ℕ → ℕ → Bool
  row_rule c zero = true
  row_rule c (suc q) = row_rises s c q

  -- at a place, of the angle there
  abbrev pub place_well : ℕ → ℕ → ℕ → Bool
  place_well c r = asked (own_rule c r && row_rule c r) (angle s c r)

  abbrev pub row_well : ℕ → ℕ → Bool
  row_well c r = all_below (closing s.grid + 1) (place_well c r)

  abbrev pub centre_well : ℕ → Bool
  centre_well c = all_below s.grid.height (row_well c)

-- ---- the judge where a row begins

module _ (g : Grid) (xs : List Float) where
  abbrev s : Globe
  s = sheet_of g xs

  abbrev h : ℕ
  h = g.height

  abbrev m : ℕ
  m = closing g

  -- the place of a row's first angle
  abbrev pub row_place : ℕ → ℕ → ℕ
  row_place c r = (c * h + r) * (m + 1)

  -- the angle at an offset of the row before
  abbrev row_before : ℕ → ℕ → ℕ → Float
  row_before zero zero k = whole 0
  row_before (suc d) zero k = angle s d (h - 1) k
  row_before c (suc q) k = angle s c q k

  abbrev pub standing : ℕ → ℕ → SheetJudge
  standing c r =
      record {
        grid = g;
        centre = c;
        row = r;
        offset = 0;
        before = row_before c r m;
        head = row_before c r 0;
        well = all_below c (centre_well s) && all_below r (row_well s c);
      }

  head_rule : (c r : ℕ) → head_fits (standing c r) (angle s c r 0) ≡ (own_rule s c r && row_rule s c r)
  unfolding head_fits own_fits row_fits row_rises
  head_rule zero zero = refl
  head_rule (suc d) zero = refl
  head_rule c (suc q) = rw (ne_eqb (suc q) 0 (λ z. omega arith), add-one q)

  next_south : (c q : ℕ) → suc q < h
      → next_row (standing c q) (angle s c q m) (angle s c q 0) ((standing c q).well && row_well s c q) ≡ standing c (suc q)
  unfolding next_row all_below
  next_south c q l = rw (add-one q, lt-ltb _ _ l, and_assoc (all_below c (centre_well s)) (all_below q (row_well s c)) (row_well s c q))

  centre_done : (c q : ℕ) → h ≡ suc q → ((standing c q).well && row_well s c q) ≡ (standing (suc c) 0).well
  unfolding all_below
  centre_done c q e =
      and_assoc (all_below c (centre_well s)) (all_below q (row_well s c)) (row_well s c q)
      ∙ ap (λ n. all_below c (centre_well s) && all_below n (row_well s c)) (sym e)
      ∙ sym (and-true (all_below c (centre_well s) && centre_well s c))

  next_centre : (c q : ℕ) → h ≡ suc q
      → next_row (standing c q) (angle s c q m) (angle s c q 0) ((standing c q).well && row_well s c q) ≡ standing (suc c) 0
  unfolding next_row
  next_centre c q e =
      let last : h - 1 ≡ q = omega arith in
      rw (add-one q, le-ltb (suc q) h (omega arith), last, add-one c, centre_done c q e)

  -- a row on, or a centre row on
  run_on : (c r : ℕ) → c < h → row_place c r + m < length xs
      → fold judge_feed (standing c r) (take (m + 1) (drop (row_place c r) xs))
      ≡ next_row (standing c r) (angle s c r m) (angle s c r 0) ((standing c r).well && row_well s c r)
  unfolding angle_at sheet_index
  run_on c r l i =
      run_fed (standing c r) refl l (drop (row_place c r) xs) (angle s c r) (λ k. get_or-drop (row_place c r) xs k nan) (rw (length-drop _ xs) (omega arith))
      ∙ ap (λ w. next_row (standing c r) (angle s c r m) (angle s c r 0) ((standing c r).well && all_below (m + 1) (asked w (angle s c r)))) (head_rule c r)

  -- the rows where the judge may stand: of the sheet, or the one past its last
  pub record Stands (c r : ℕ) : Type 0 where
    pub centre : c ≤ h
    pub on : 0 < r → (c < h) × (r < h)

  abbrev fed_to : ℕ → SheetJudge
  fed_to n = fold judge_feed (judge_start g) (take n xs)

  more_fed : (n k : ℕ) (j : SheetJudge) → fed_to n ≡ j → fed_to (n + k) ≡ fold judge_feed j (take k (drop n xs))
  more_fed n k j e = sym (fold_more judge_feed (judge_start g) xs n k) ∙ ap (λ j. fold judge_feed j (take k (drop n xs))) e

  centre_place : (c q : ℕ) → h ≡ suc q → row_place (suc c) 0 ≡ row_place c q + (m + 1)
  centre_place c q e =
      let rows : suc c * h + 0 ≡ suc (c * h + q) = omega (arith, suc-mul c h) in
      rw rows (omega (arith, suc-mul (c * h + q) (m + 1)))

  rows_fed : (c r : ℕ) → fed_to (row_place c 0) ≡ standing c 0 → Stands c r → row_place c r ≤ length xs → fed_to (row_place c r) ≡ standing c r
  rows_fed c zero e S i = e
  rows_fed c (suc q) e S i =
      let place : row_place c (suc q) ≡ row_place c q + (m + 1) = omega arith in
      let on = S.on (omega arith) in
      rw place
      (more_fed (row_place c q) (m + 1) (standing c q) (rows_fed c q e (record { centre = S.centre; on = λ l. (on.0, omega arith) }) (omega arith))
      ∙ run_on c q on.0 (omega arith) ∙ next_south c q on.1)

  centres_fed : (c : ℕ) → c ≤ h → row_place c 0 ≤ length xs → fed_to (row_place c 0) ≡ standing c 0
  unfolding fold judge_start all_below
  centres_fed zero l i = rw (zero-mul h, zero-mul (m + 1))
  centres_fed (suc d) l i =
      let last : h ≡ suc (h - 1) = omega arith in
      let place = centre_place d (h - 1) last in
      let first : row_place d 0 ≤ length xs = omega (arith, add-mul (d * h) (h - 1) (m + 1)) in
      rw place
      (more_fed (row_place d (h - 1)) (m + 1) (standing d (h - 1))
      (rows_fed d (h - 1) (centres_fed d (omega arith) first) (record { centre = omega arith; on = λ p. (l, omega arith) }) (omega arith))
      ∙ run_on d (h - 1) l (omega arith) ∙ next_centre d (h - 1) last)

  -- fed all the angles before a row, the judge stands there
  pub fed : (c r : ℕ) → Stands c r → row_place c r ≤ length xs → fed_to (row_place c r) ≡ standing c r
  fed c r S i = rows_fed c r (centres_fed c S.centre (omega (arith, add-mul (c * h) r (m + 1)))) S i

  -- ---- the verdict

  -- after some of a sheet's angles it is that of their places: of the rows before, and of k angles of this one
  pub judged_part : (c r k : ℕ) → c < h → r < h → k ≤ m + 1 → row_place c r + k ≤ length xs
      → judged g (take (row_place c r + k) xs) ≡ (all_below c (centre_well s) && all_below r (row_well s c) && all_below k (place_well s c r))
  unfolding judged all_below angle_at sheet_index
  judged_part c r zero hc hr l i =
      ap (λ n. (fed_to n).well) (add-zero (row_place c r))
      ∙ ap (λ j. j.well) (fed c r (record { centre = omega arith; on = λ p. (hc, hr) }) (omega arith)) ∙ sym (and-true (standing c r).well)
  judged_part c r (suc k) hc hr l i =
      let at = row_place c r in
      ap (λ j. j.well) (more_fed at (suc k) (standing c r) (fed c r (record { centre = omega arith; on = λ p. (hc, hr) }) (omega arith)))
      ∙ run_well (standing c r) refl hc (drop at xs) (angle s c r) (λ k. get_or-drop at xs k nan) k (omega arith) (rw (length-drop _ xs) (omega arith))
      ∙ ap (λ w. (standing c r).well && all_below (suc k) (asked w (angle s c r))) (head_rule c r)

  -- an angle out of range is refused at any place, and so is the sheet, whatever follows
  pub out_of_range : (c r k : ℕ) → c < h → r < h → k ≤ m → row_place c r + k < length xs → angle_in_range s c r k ≡ false → judged g xs ≡ false
  unfolding angle_in_range asked
  out_of_range c r k hc hr l i e =
      judged_no g xs (row_place c r + suc k)
      (judged_part c r (suc k) hc hr (omega arith) (omega arith)
      ∙ and_no (all_below c (centre_well s) && all_below r (row_well s c)) (all_below (suc k) (place_well s c r))
      (all_fails (suc k) (place_well s c r) k (omega arith) (refused_range k e)))
    where
      refused_range : (k : ℕ) → ranged (angle s c r) k ≡ false → place_well s c r k ≡ false
      refused_range zero e = rw e
      refused_range (suc k) e = rw e

  -- so are NaN and the infinities
  pub not_finite : (c r k : ℕ) → c < h → r < h → k ≤ m → row_place c r + k < length xs → finite (angle s c r k) ≡ false → judged g xs ≡ false
  unfolding angle_in_range
  not_finite c r k hc hr l i e = out_of_range c r k hc hr l i (unbounded (angle s c r k) e)

  module _ (size : length xs ≡ h * h * (m + 1)) where
    -- of a whole sheet it is that of every place
    judged_all : judged g xs ≡ all_below h (centre_well s)
    unfolding judged all_below
    judged_all =
        let all : row_place h 0 ≡ length xs = rw (add-zero (h * h)) (sym size) in
        ap (λ ys. (fold judge_feed (judge_start g) ys).well) (sym (take-length xs))
        ∙ ap (λ n. (fold judge_feed (judge_start g) (take n xs)).well) (sym all)
        ∙ ap (λ j. j.well) (fed h 0 (record { centre = omega arith; on = λ l. absurd (omega arith) }) (omega arith))
        ∙ and-true (all_below h (centre_well s))

-- ---- the judge between two runs of a whole sheet

module _ (g : Grid) (xs : List Float) where
  pub record Between (at : ℕ) (j : SheetJudge) : Type 0 where
    pub before : fed_to g xs at ≡ j
    pub place : at ≡ row_place g xs j.centre j.row
    pub stands : Stands g xs j.centre j.row
    pub inside : at ≤ length xs

  pub between_start : Between 0 (judge_start g)
  unfolding judge_start fold
  between_start =
      record {
        before = refl;
        place = rw (zero-mul g.height, zero-mul (closing g + 1));
        stands = record { centre = omega arith; on = λ l. absurd (omega arith) };
        inside = omega arith;
      }

module _ {g : Grid} {xs : List Float} {at : ℕ} {j : SheetJudge} (B : Between g xs at j) where
  -- a refusal is the sheet's
  pub between_no : j.well ≡ false → judged g xs ≡ false
  unfolding judged
  between_no e = judged_no g xs at (ap (λ j. j.well) B.before ∙ e)

  here : j ≡ standing g xs j.centre j.row
  here = sym B.before ∙ ap (fed_to g xs) B.place ∙ fed g xs j.centre j.row B.stands (omega (arith, B.place, B.inside))

  grid_here : j.grid ≡ g
  grid_here = ap (λ j. j.grid) here

  module _ (size : length xs ≡ angle_count g) where
    no_more : g.height ≤ j.centre → at ≡ length xs
    no_more l =
        let c : j.centre ≡ g.height = omega (arith, B.stands.centre) in
        let r : j.row ≡ 0 = elim (dec_lt 0 j.row) [
          | yes p ↦ absurd (omega (arith, B.stands.on p))
          | no p ↦ omega arith
        ] in
        B.place ∙ rw (r, c, add-zero (g.height * g.height)) (sym size)

    -- an angle is left, so a centre row
    pub centre_left : at < length xs → j.centre < g.height
    centre_left l = elim (dec_lt j.centre g.height) [
      | yes p ↦ p
      | no p ↦ absurd (omega (arith, no_more (omega arith)))
    ]

    -- past the last run the verdict is the sheet's
    pub between_end : g.height ≤ j.centre → judged g xs ≡ j.well
    unfolding judged
    between_end l =
        ap (λ ys. (fold judge_feed (judge_start g) ys).well) (sym (take-length xs))
        ∙ ap (λ n. (fed_to g xs n).well) (sym (no_more l))
        ∙ ap (λ j. j.well) B.before

    module _ (l : j.centre < g.height) where
      row_on : j.row < g.height
      row_on = elim (dec_lt 0 j.row) [
        | yes p ↦ (B.stands.on p).1
        | no p ↦ omega arith
      ]

      pub run_inside : at + (closing g + 1) ≤ length xs
      run_inside =
          let in-sheet : row_place g xs j.centre j.row + closing g < length xs = rw size (digits_lt (digits_lt l row_on) (omega arith)) in
          omega (arith, in-sheet, B.place)

      -- the angles from here on begin with the judge's next run
      pub between_run : NextRun j (take (closing g + 1) (drop at xs))
      between_run =
          record {
            fresh = ap (λ j. j.offset) here;
            on = subst (λ (g : Grid). j.centre < g.height) (sym grid_here) l;
            size = length-take-le (closing g + 1) (drop at xs) (rw (length-drop _ xs) (omega (arith, run_inside))) ∙ ap (λ g. closing g + 1) (sym grid_here);
          }

      abbrev next : SheetJudge
      next = fold judge_feed j (take (closing g + 1) (drop at xs))

      run_next : next ≡ next_row (standing g xs j.centre j.row) (angle (sheet_of g xs) j.centre j.row (closing g)) (angle (sheet_of g xs) j.centre j.row 0)
          ((standing g xs j.centre j.row).well && row_well (sheet_of g xs) j.centre j.row)
      run_next =
          ap (λ j. fold judge_feed j (take (closing g + 1) (drop at xs))) here
          ∙ ap (λ n. fold judge_feed (standing g xs j.centre j.row) (take (closing g + 1) (drop n xs))) B.place
          ∙ run_on g xs j.centre j.row l (omega (arith, run_inside, B.place))

      next_at : (c r : ℕ) → next ≡ standing g xs c r → Stands g xs c r → at + (closing g + 1) ≡ row_place g xs c r → Between g xs (at + (closing g + 1)) next
      next_at c r e S p =
          record {
            before = more_fed g xs at (closing g + 1) j B.before;
            place = p ∙ sym (ap (λ k. row_place g xs k.centre k.row) e);
            stands = subst (λ k. Stands g xs k.centre k.row) (sym e) S;
            inside = run_inside;
          }

      pub between_next : Between g xs (at + (closing g + 1)) next
      between_next = elim (dec_lt (suc j.row) g.height) [
        | yes p ↦
            next_at j.centre (suc j.row) (run_next ∙ next_south g xs j.centre j.row p)
            (record { centre = B.stands.centre; on = λ q. (l, p) })
            (omega (arith, B.place))
        | no p ↦
            let last : g.height ≡ suc j.row = omega (arith, row_on) in
            next_at (suc j.centre) 0 (run_next ∙ next_centre g xs j.centre j.row last)
            (record { centre = l; on = λ q. absurd (omega arith) })
            (omega (arith, B.place, centre_place g xs j.centre j.row last))
      ]

-- the same, with the angles that are left
pub record Left (g : Grid) (xs left : List Float) (j : SheetJudge) : Type 0 where
  pub at : ℕ
  pub left_is : left ≡ drop at xs
  pub fed_before : Between g xs at j

pub left_start : (g : Grid) (xs : List Float) → Left g xs xs (judge_start g)
left_start g xs = record { at = 0; left_is = refl; fed_before = between_start g xs }

module _ {g : Grid} {xs left : List Float} {j : SheetJudge} (L : Left g xs left j) (size : length xs ≡ angle_count g) where
  left_length : length left ≡ length xs - L.at
  left_length = ap length L.left_is ∙ length-drop L.at xs

  -- the angles that are left begin with the judge's next run
  module _ (run rest : List Float) (cut : left ≡ run ++ rest) (whole_run : length run ≡ closing g + 1) where
    on : j.centre < g.height
    on = centre_left L.fed_before size (omega (arith, left_length, ap length cut, length-append run rest))

    run_is : take (closing g + 1) (drop L.at xs) ≡ run
    run_is = rw (← L.left_is, cut, ← whole_run) (take-append_seam run rest)

    pub left_run : NextRun j run
    left_run = rw run_is at (between_run L.fed_before size on)

    pub left_next : (k : SheetJudge) → k ≡ fold judge_feed j run → Left g xs rest k
    left_next k e =
        record {
          at = L.at + (closing g + 1);
          left_is = sym (drop_at run rest (closing g + 1) whole_run) ∙ ap (drop (closing g + 1)) (sym cut ∙ L.left_is) ∙ drop-drop (closing g + 1) L.at xs;
          fed_before = rw (run_is, ← e) at (between_next L.fed_before size on);
        }

  pub left_end : length left < closing g + 1 → judged g xs ≡ j.well
  left_end l = elim (dec_lt j.centre g.height) [
    | yes p ↦ absurd (omega (arith, left_length, run_inside L.fed_before size p))
    | no p ↦ between_end L.fed_before size (omega arith)
  ]

-- ---- question 6

module _ (s : Globe) where
  abbrev rows : ℕ
  rows = s.grid.height

  abbrev last : ℕ
  last = closing s.grid

  abbrev parts : Bool
  parts = angles_in_range s && own_angle_zero s && angles_rise s && rows_rise s

  abbrev own : ℕ → Bool
  own c = eq (angle s c c 0) (whole 0)

  abbrev in_range : ℕ → ℕ → Bool
  in_range c r = all_below (last + 1) (ranged (angle s c r))

  abbrev rising : ℕ → ℕ → Bool
  rising c r = all_below last (risen (angle s c r))

  own_of : (c r : ℕ) → own c ≡ true → own_rule s c r ≡ true
  own_of c r o = cases (eqb r c) (λ e. let z : r ≡ c = eqb-true r c e in rw (e, z) o) (λ e. rw e)

  row_of : (c r : ℕ) → r < rows → all_below (rows - 1) (row_rises s c) ≡ true → row_rule s c r ≡ true
  row_of c zero l a = refl
  row_of c (suc q) l a = all_at (rows - 1) (row_rises s c) q a (omega arith)

  rows_of : parts ≡ true → (c r : ℕ) → c < rows → r < rows → row_well s c r ≡ true
  unfolding every_row every_pair angles_in_range own_angle_zero angles_rise rows_rise angle_in_range angle_rises
  rows_of e c r hc hr =
      let three = and_left (angles_in_range s && own_angle_zero s && angles_rise s) (rows_rise s) e in
      let two = and_left (angles_in_range s && own_angle_zero s) (angles_rise s) three in
      let o = all_at rows own c (and_right (angles_in_range s) (own_angle_zero s) two) hc in
      let d = all_at rows (λ c. all_below (rows - 1) (row_rises s c)) c (and_right (angles_in_range s && own_angle_zero s && angles_rise s) (rows_rise s) e) hc in
      asked_all (own_rule s c r && row_rule s c r) (angle s c r) last (and_both (own_rule s c r) (row_rule s c r) (own_of c r o) (row_of c r hr d))
      (all_rows_at rows (λ c. rows) in_range c r (and_left (angles_in_range s) (own_angle_zero s) two) hc hr)
      (all_rows_at rows (λ c. rows) rising c r (and_right (angles_in_range s && own_angle_zero s) (angles_rise s) three) hc hr)

  module _ (every : (c r : ℕ) → c < rows → r < rows → row_well s c r ≡ true) where
    head_of : (c r : ℕ) → c < rows → r < rows → (own_rule s c r && row_rule s c r) ≡ true
    head_of c r hc hr = all_head (own_rule s c r && row_rule s c r) (angle s c r) last (every c r hc hr)

    parts_of : parts ≡ true
    unfolding every_row every_pair angles_in_range own_angle_zero angles_rise rows_rise angle_in_range angle_rises
    parts_of =
        rw (
          all_rows_of rows (λ c. rows) in_range (λ c r hc hr. all_ranged (own_rule s c r && row_rule s c r) (angle s c r) last (every c r hc hr)),
          all_of rows own (λ c hc. rw (eq-eqb c c refl) at (and_left (own_rule s c c) (row_rule s c c) (head_of c c hc hc))),
          all_rows_of rows (λ c. rows) rising (λ c r hc hr. all_risen (own_rule s c r && row_rule s c r) (angle s c r) last (every c r hc hr)),
          all_rows_of rows (λ c. rows - 1) (row_rises s) (λ c q hc hq. and_right (own_rule s c (suc q)) (row_rises s c q) (head_of c (suc q) hc (omega arith))),
        )

  by_rows : parts ≡ all_below rows (centre_well s)
  by_rows =
      same_true parts (all_below rows (centre_well s)) (λ e. all_rows_of rows (λ c. rows) (row_well s) (rows_of e))
      (λ e. parts_of (λ c r hc hr. all_rows_at rows (λ c. rows) (row_well s) c r e hc hr))

-- what the judge says of a whole sheet is question 6 of its angles
pub judge_says : (g : Grid) (xs : List Float) → length xs ≡ angle_count g
    → judged g xs ≡ (angles_in_range (sheet_of g xs) && own_angle_zero (sheet_of g xs) && angles_rise (sheet_of g xs) && rows_rise (sheet_of g xs))
judge_says g xs size = judged_all g xs size ∙ sym (by_rows (sheet_of g xs))

and_five : (a b c d e : Bool) → (a && b && c && d && e) ≡ (a && (b && c && d && e))
and_five true b c d e = refl
and_five false b c d e = refl

-- question 6, as the code reads it: the cosines by themselves, then the angles
pub order_as_read : (g : Grid) (angles cosines : List Float) → length angles ≡ angle_count g
    → sheet_in_order (globe_of g angles cosines)
    ≡ (cosines_in_range (globe_of g angles cosines) && judged g angles)
unfolding sheet_in_order every_row every_pair cosine_in_range cosines_in_range cosine_at angles_in_range own_angle_zero angles_rise rows_rise angle_in_range angle_rises row_rises angle_at
order_as_read g angles cosines size =
    let s = sheet_of g angles in
    rw (judge_says g angles size)
    (and_five (cosines_in_range (globe_of g angles cosines)) (angles_in_range s) (own_angle_zero s) (angles_rise s) (rows_rise s))
