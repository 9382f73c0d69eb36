-- A kernel's rows: which of them it touches, where their runs end, and what makes a kernel that of its row and radius.
use Prim.Native.Nat.{ℕ, ◌+◌, ◌-◌, ◌≤◌, ◌<◌}
use mathlib.Core.Path.{◌≡◌, refl, sym, ◌∙◌}
use mathlib.Core.Bool.{Bool, true, false, cond, ◌||◌}
use mathlib.Core.List.{List}
use mathlib.Core.Logic.{◌⊎◌, inl, inr}
use native.Mathlib.Decide.{dec_lt}
use native.Mathlib.Omega.{arith}
use borrow.Author.Tests.{lt-ltb, le-ltb, ltb-true, ltb-false, le-leb, lt-leb, eq-eqb, ne_eqb, eqb-true}
use lib.Dec.{leb, ltb, eqb}
use lib.ListN.{length, get_or, get_or-eq_default}
use lib.Seq.{ext_get_or}
use lib.Ieee.{Float, eq}
use Rattle.floats.specs.Binary.{whole}
use Rattle.lists.specs.Counted.{sum_below, one}
use Rattle.lists.specs.Front.{tabulate}
use Rattle.lists.proofs.Bools.{cases}
use Rattle.lists.proofs.Fronts.{length_tabulate, get_d_tabulate}
use Rattle.grid.specs.declared.Row.{Row}
use Rattle.grid.specs.declared.Grid.{Grid}
use Rattle.grid.specs.Grid.{angle_of}
use Rattle.grid.specs.Map.{Globe, globe_of}
use Rattle.grid.proofs.SheetOrder.{InOrder}
use Rattle.kernel.specs.declared.Kernel.{Kernel}
use Rattle.kernel.specs.Kernel.{row_reach, run_end, row_run, kernel_of}
use Rattle.reach.specs.Reach.{reach, row_places}
use Rattle.kernel.specs.Requires.{Banded, RunsJoined}
use Rattle.lists.proofs.Counts.{count_is, count_le, count_tests}
use Rattle.reach.proofs.Reaches.{missed_beyond, reach_sheet}
use Rattle.kernel.proofs.RowRuns.{run_onward, run_alike}

-- ---- a row's reach

module _ (s : Globe) (c : Row) (km : Float) where
  pub reach_none : (r : ℕ) → eq km (whole 0) ≡ true → row_reach s c km r ≡ 0
  unfolding row_reach
  reach_none r e = rw e (off (leb s.grid.height r))
    where
      off : (b : Bool) → cond (b || true) 0 (reach s c (record { 0 = r }) (angle_of s.grid km)) ≡ 0
      off true = refl
      off false = refl

  pub reach_off : (r : ℕ) → s.grid.height ≤ r → row_reach s c km r ≡ 0
  unfolding row_reach
  reach_off r h = rw (le-leb s.grid.height r h)

  pub reach_on : (r : ℕ) → r < s.grid.height → eq km (whole 0) ≡ false → row_reach s c km r ≡ reach s c (record { 0 = r }) (angle_of s.grid km)
  unfolding row_reach
  reach_on r h e = rw (lt-leb s.grid.height r h, e)

  -- a row further out than one that is missed is missed
  pub beyond : InOrder s → c.0 < s.grid.height → (r t : ℕ) → r < s.grid.height → t < s.grid.height
      → (c.0 ≤ r × r ≤ t) ⊎ (t ≤ r × r ≤ c.0) → row_reach s c km r ≡ 0 → row_reach s c km t ≡ 0
  beyond q C r t R T' p e =
      cases (eq km (whole 0)) (λ z. reach_none t z)
      (λ z. reach_on t T' z ∙ missed_beyond s q c.0 C (angle_of s.grid km) r t T' p (sym (reach_on r R z) ∙ e))

  -- a row's run
  pub run_on : (r : ℕ) → 0 < row_reach s c km r → row_run s c km r ≡ run_end (row_reach s c km) (row_places - r) r
  unfolding row_run
  run_on r h = rw (lt-ltb 0 (row_reach s c km r) h)

  pub run_off : (r : ℕ) → row_reach s c km r ≡ 0 → row_run s c km r ≡ 0
  unfolding row_run
  run_off r e = rw (le-ltb 0 (row_reach s c km r) (omega arith))

-- ---- a kernel's band

-- a kernel by its last four fields
abbrev pub made : Row → Float → ℕ → ℕ → List ℕ → List ℕ → Kernel
made c km n e l u = record { row = c; km = km; north = record { 0 = n }; end = e; reach = l; run = u }

made_same : (c : Row) (km : Float) {n n' e e' : ℕ} {l l' u u' : List ℕ} → n ≡ n' → e ≡ e' → l ≡ l' → u ≡ u' → made c km n e l u ≡ made c km n' e' l' u'
made_same c km p q r t = rw (p, q, r, t)

list_is : (f : ℕ → ℕ) (l : List ℕ) → length l ≡ row_places → ((r : ℕ) → r < row_places → get_or l r 0 ≡ f r) → l ≡ tabulate f row_places
list_is f l len same =
    ext_get_or 0 l (tabulate f row_places) (len ∙ sym (length_tabulate f row_places))
    (λ r h. same r (omega (arith, len)) ∙ sym (get_d_tabulate f row_places r 0 (omega (arith, len))))

module _ (s : Globe) (c : Row) (km : Float) (high : s.grid.height ≤ row_places) (on : c.0 < s.grid.height) where
  abbrev missed_north : ℕ → Bool
  missed_north r = eqb (row_reach s c km r) 0

  abbrev touched_south : ℕ → Bool
  touched_south i = ltb 0 (row_reach s c km (c.0 + i))

  module _ (n e : ℕ) (l u : List ℕ) (b : Banded s.grid (made c km n e l u))
      (len : length l ≡ row_places) (same : (r : ℕ) → r < row_places → get_or l r 0 ≡ row_reach s c km r)
      (len-run : length u ≡ row_places) (same-run : (r : ℕ) → r < row_places → get_or u r 0 ≡ row_run s c km r) where
    north_is : sum_below c.0 (λ r. one (missed_north r)) ≡ n
    north_is =
        count_is missed_north c.0 n b.north_on
        (λ r h. eq-eqb (row_reach s c km r) 0 (sym (same r (omega arith)) ∙ b.missed r (inl h)))
        (λ r h u. ne_eqb (row_reach s c km r) 0 (λ z. omega (arith, b.touched r h (omega (arith, b.end_on)), same r (omega arith), z)))

    south_is : sum_below (s.grid.height - c.0) (λ i. one (touched_south i)) ≡ e - c.0
    south_is =
        count_is touched_south (s.grid.height - c.0) (e - c.0) (omega (arith, b.on))
        (λ i h.
        let t = b.touched (c.0 + i) (omega (arith, b.north_on)) (omega arith) in
        lt-ltb 0 (row_reach s c km (c.0 + i)) (omega (arith, t, same (c.0 + i) (omega (arith, b.on)))))
        (λ i h u.
        let t = b.missed (c.0 + i) (inr (omega (arith, b.end_on))) in
        le-ltb 0 (row_reach s c km (c.0 + i)) (omega (arith, t, same (c.0 + i) (omega arith))))

    -- a banded kernel with the reaches and the runs of a row and a radius is their kernel
    pub kernel_is : made c km n e l u ≡ kernel_of s c km
    unfolding kernel_of
    kernel_is = made_same c km (sym north_is) (omega (arith, south_is, b.end_on)) (list_is (row_reach s c km) l len same) (list_is (row_run s c km) u len-run same-run)

  -- the reach that a kernel has for a row
  pub kernel_reach : (r : ℕ) → r < row_places → get_or (kernel_of s c km).reach r 0 ≡ row_reach s c km r
  unfolding kernel_of
  kernel_reach r h = get_d_tabulate (row_reach s c km) row_places r 0 h

  kernel_run : (r : ℕ) → r < row_places → get_or (kernel_of s c km).run r 0 ≡ row_run s c km r
  unfolding kernel_of
  kernel_run r h = get_d_tabulate (row_run s c km) row_places r 0 h

  kernel_none : (r : ℕ) → s.grid.height ≤ r → get_or (kernel_of s c km).reach r 0 ≡ 0
  unfolding kernel_of
  kernel_none r h = elim (dec_lt r row_places) [
    | yes q ↦ get_d_tabulate (row_reach s c km) row_places r 0 q ∙ reach_off s c km r h
    | no q ↦ get_or-eq_default (tabulate (row_reach s c km) row_places) 0 (omega (arith, length_tabulate (row_reach s c km) row_places))
  ]

  module _ (q : InOrder s) where
    -- the rows missed north of the centre row come first
    north_tests : (r : ℕ) → r < c.0 → missed_north r ≡ ltb r (kernel_of s c km).north.0
    unfolding kernel_of
    north_tests r h =
        count_tests missed_north c.0 r
        (λ i j u v w. eq-eqb (row_reach s c km i) 0 (beyond s c km q on j i (omega arith) (omega arith) (inr (u, omega arith)) (eqb-true (row_reach s c km j) 0 w)))
        h

    -- and those touched from the centre row southward
    south_tests : (i : ℕ) → i < s.grid.height - c.0 → touched_south i ≡ ltb i ((kernel_of s c km).end - c.0)
    unfolding kernel_of
    south_tests i h =
        let k = sum_below (s.grid.height - c.0) (λ i. one (touched_south i)) in
        let e : c.0 + k - c.0 ≡ k = omega arith in
        rw e (count_tests touched_south (s.grid.height - c.0) i closed h)
      where
        closed : (i j : ℕ) → i ≤ j → j < s.grid.height - c.0 → touched_south j ≡ true → touched_south i ≡ true
        closed i j u v w =
            cases (touched_south i) (λ y. y)
            (λ y.
            let z : row_reach s c km (c.0 + i) ≡ 0 = omega (arith, ltb-false 0 (row_reach s c km (c.0 + i)) y) in
            let t = beyond s c km q on (c.0 + i) (c.0 + j) (omega arith) (omega arith) (inl (omega arith, omega arith)) z in
            absurd (omega (arith, ltb-true 0 (row_reach s c km (c.0 + j)) w, t)))

    north_le : (kernel_of s c km).north.0 ≤ c.0
    unfolding kernel_of
    north_le = count_le missed_north c.0

    end_ge : c.0 ≤ (kernel_of s c km).end
    unfolding kernel_of
    end_ge = omega arith

    end_le : (kernel_of s c km).end ≤ s.grid.height
    unfolding kernel_of
    end_le = omega (arith, count_le touched_south (s.grid.height - c.0))

    abbrev at : ℕ → ℕ
    at r = get_or (kernel_of s c km).reach r 0

    touched_at : (r : ℕ) → (kernel_of s c km).north.0 ≤ r → r < (kernel_of s c km).end → 0 < at r
    touched_at r h u =
        rw (kernel_reach r (omega (arith, end_le)))
        (elim (dec_lt r c.0) [
          | yes p ↦ positive (λ z. let t = sym (north_tests r p) ∙ eq-eqb (row_reach s c km r) 0 z in omega (arith, ltb-true r (kernel_of s c km).north.0 t))
          | no p ↦
              let e : c.0 + (r - c.0) ≡ r = omega arith in
              let t = south_tests (r - c.0) (omega (arith, end_le)) ∙ lt-ltb (r - c.0) ((kernel_of s c km).end - c.0) (omega arith) in
              rw e at (ltb-true 0 (row_reach s c km (c.0 + (r - c.0))) t)
        ])
      where
        positive : {n : ℕ} → (n ≡ 0 → ⊥) → 0 < n
        positive {n} some = elim (dec_lt 0 n) [
          | yes p ↦ p
          | no p ↦ absurd (some (omega arith))
        ]

    missed_at : (r : ℕ) → (r < (kernel_of s c km).north.0) ⊎ ((kernel_of s c km).end ≤ r) → at r ≡ 0
    missed_at r (inl h) =
        let l : r < c.0 = omega (arith, north_le) in
        kernel_reach r (omega arith) ∙ eqb-true (row_reach s c km r) 0 (north_tests r l ∙ lt-ltb r (kernel_of s c km).north.0 h)
    missed_at r (inr h) = elim (dec_lt r s.grid.height) [
      | yes p ↦
          let l : c.0 ≤ r = omega (arith, end_ge) in
          let e : c.0 + (r - c.0) ≡ r = omega arith in
          let t = south_tests (r - c.0) (omega arith) ∙ le-ltb (r - c.0) ((kernel_of s c km).end - c.0) (omega arith) in
          kernel_reach r (omega arith) ∙ (rw e at (none (ltb-false 0 (row_reach s c km (c.0 + (r - c.0))) t)))
      | no p ↦ kernel_none r (omega arith)
    ]
      where
        none : {n : ℕ} → n ≤ 0 → n ≡ 0
        none h = omega arith

    pub kernel_banded : Banded s.grid (kernel_of s c km)
    unfolding kernel_of
    kernel_banded = record { north_on = north_le; end_on = end_ge; on = end_le; touched = touched_at; missed = missed_at }

    -- ---- its runs

    abbrev until : ℕ → ℕ
    until r = get_or (kernel_of s c km).run r 0

    reach_some : (r : ℕ) → (kernel_of s c km).north.0 ≤ r → r < (kernel_of s c km).end → 0 < row_reach s c km r
    reach_some r h u = omega (arith, touched_at r h u, kernel_reach r (omega (arith, end_le)))

    reach_last : row_reach s c km (kernel_of s c km).end ≡ 0
    reach_last = elim (dec_lt (kernel_of s c km).end s.grid.height) [
      | yes p ↦ sym (kernel_reach (kernel_of s c km).end (omega arith)) ∙ missed_at (kernel_of s c km).end (inr (omega arith))
      | no p ↦ reach_off s c km (kernel_of s c km).end (omega arith)
    ]

    module _ (r : ℕ) (h : (kernel_of s c km).north.0 ≤ r) (u : r < (kernel_of s c km).end) where
      run_at : until r ≡ run_end (row_reach s c km) (row_places - r) r
      run_at = kernel_run r (omega (arith, end_le)) ∙ run_on s c km r (reach_some r h u)

      run_reach : (i : ℕ) → r ≤ i → i < until r → row_reach s c km i ≡ row_reach s c km r
      run_reach i p q = run_alike (row_reach s c km) (row_places - r) r i p (omega (arith, run_at))

      run_within : until r ≤ (kernel_of s c km).end
      run_within = elim (dec_lt (kernel_of s c km).end (until r)) [
        | yes p ↦ let e = run_reach (kernel_of s c km).end (omega arith) p in absurd (omega (arith, e, reach_last, reach_some r h u))
        | no p ↦ omega arith
      ]

      run_same : (i : ℕ) → r ≤ i → i < until r → at i ≡ at r
      run_same i p q =
          kernel_reach i (omega (arith, run_within, end_le)) ∙ run_reach i p q ∙ sym (kernel_reach r (omega (arith, end_le)))

    pub kernel_joined : RunsJoined (kernel_of s c km)
    kernel_joined =
        record { onward = λ r h u. omega (arith, run_at r h u, run_onward (row_reach s c km) (row_places - r) r); within = run_within; alike = run_same }

-- ---- kernels read no cosine

module _ (g : Grid) (angles cosines others : List Float) (row : Row) (km : Float) where
  rows_sheet : row_reach (globe_of g angles cosines) row km ≡ row_reach (globe_of g angles others) row km
  unfolding row_reach
  rows_sheet = λ i r. cond (leb g.height r || eq km (whole 0)) 0 (reach_sheet g angles cosines others row (record { 0 = r }) (angle_of g km) i)

  runs_sheet : row_run (globe_of g angles cosines) row km ≡ row_run (globe_of g angles others) row km
  unfolding row_run
  runs_sheet = λ i r. cond (ltb 0 (rows_sheet i r)) (run_end (rows_sheet i) (row_places - r) r) 0

  pub kernel_sheet : kernel_of (globe_of g angles cosines) row km ≡ kernel_of (globe_of g angles others) row km
  unfolding kernel_of
  kernel_sheet = rw (rows_sheet, runs_sheet)
