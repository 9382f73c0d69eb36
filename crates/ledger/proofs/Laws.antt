-- Laws of the ledger: the entries and the places after a put, what get sees of a put, and what a put keeps.
use Prim.Native.Nat.{ℕ, suc, ◌+◌, ◌≤◌}
use mathlib.Core.Path.{◌≡◌, refl, sym, ap, ◌∙◌}
use mathlib.Core.Bool.{true, false, ◌||◌, true≢false}
use mathlib.Core.List.{List}
use native.Mathlib.Omega.{arith}
use lib.Dec.{eqb}
use lib.ListN.{length}
use borrow.Author.Tests.{leb-true, eqb-true, le-leb}
use Rattle.std.specs.Option.{is_some}
use Rattle.std.proofs.Common.{Option, Some, None}
use Rattle.lists.specs.Front.{onto}
use Rattle.lists.proofs.Bools.{and_both, cases}
use Rattle.lists.proofs.Fronts.{take_onto}
use Rattle.grid.specs.declared.Grid.{Grid}
use Rattle.candidates.specs.declared.Candidate.{Candidate}
use Rattle.ledger.specs.declared.Entry.{Entry}
use Rattle.ledger.specs.declared.Ledger.{Ledger}
use Rattle.ledger.specs.Ledger.{capacity, entries, with_entries, get, enter, put, entry_in_bounds, rising_from, all_in_bounds, ledger_in_order, places_free}
use Rattle.ledger.proofs.Entries.{find_enter_same, find_enter_other, length_enter, length_enter_most, rising_enter, in_bounds_enter}

pub entries_with : (l : Ledger) (es : List Entry) → entries (with_entries l es) ≡ es
unfolding entries with_entries
entries_with l es = take_onto es l.places (onto es l.places) (length es) refl refl

module _ (l : Ledger) (x : Entry) where
  -- THE ARRAY'S PUT IS THE LIST'S: its first len places hold the entries with x entered, and those past them are as they were
  pub entries_put : entries (put l x) ≡ enter (entries l) x
  unfolding put
  entries_put = entries_with l (enter (entries l) x)

  pub len_put : (put l x).len ≡ length (entries (put l x))
  unfolding put with_entries
  len_put = ap length (sym (entries_with l (enter (entries l) x)))

  -- get sees what was put, and any other kilometre as before
  pub get_put_same : get (put l x) x.km.0 ≡ Some x.centre
  unfolding get
  get_put_same = rw entries_put (find_enter_same (entries l) x)

  pub get_put_other : (km : ℕ) → eqb x.km.0 km ≡ false → get (put l x) km ≡ get l km
  unfolding get
  get_put_other km o = rw entries_put (find_enter_other (entries l) x km o)

  pub there_put : (km : ℕ) → is_some (get (put l x) km) ≡ (eqb x.km.0 km || is_some (get l km))
  there_put km =
      cases (eqb x.km.0 km)
      (λ e. let same = eqb-true x.km.0 km e in rw (e, ← same, get_put_same))
      (λ e. rw (e, get_put_other km e))

  -- what holds of the circle put and of every one that get saw holds of every one that get sees
  pub got_put : (P : ℕ → Candidate → Type 0) → P x.km.0 x.centre → ((km : ℕ) (c : Candidate) → get l km ≡ Some c → P km c)
      → (km : ℕ) (c : Candidate) → get (put l x) km ≡ Some c → P km c
  got_put P new old km c g =
      cases (eqb x.km.0 km)
      (λ e.
      let same = eqb-true x.km.0 km e in
      let gets : Some x.centre ≡ Some c = sym get_put_same ∙ rw (← same) at g in
      let is : x.centre ≡ c = cc in
      rw (← same, ← is) new)
      (λ e. old km c (sym (get_put_other km e) ∙ g))

  -- a put at a new kilometre is one entry more
  pub length_put : get l x.km.0 ≡ None → length (entries (put l x)) ≡ suc (length (entries l))
  unfolding get
  length_put n = rw entries_put (length_enter (entries l) x n)

  -- no put makes more than one more
  pub length_put_most : length (entries (put l x)) ≤ suc (length (entries l))
  length_put_most = rw entries_put (length_enter_most (entries l) x)

  pub rising_put : rising_from 0 (entries l) ≡ true → rising_from 0 (entries (put l x)) ≡ true
  rising_put r = rw entries_put (rising_enter 0 (entries l) x r (omega arith))

  pub in_bounds_put : (g : Grid) → all_in_bounds g (entries l) ≡ true → entry_in_bounds g x ≡ true → all_in_bounds g (entries (put l x)) ≡ true
  in_bounds_put g a b = rw entries_put (in_bounds_enter g (entries l) x a b)

-- an entry that get gives stands there, and one stands there only where get gives it
pub there_get : (l : Ledger) (km : ℕ) → is_some (get l km) ≡ true → (c : Candidate) × (get l km ≡ Some c)
there_get l km t = go (get l km) t
  where
    go : (f : Option Candidate) → is_some f ≡ true → (c : Candidate) × (f ≡ Some c)
    go (Some c) t = (c, refl)
    go None t = absurd (true≢false (sym t))

pub get_there : (l : Ledger) (km : ℕ) (c : Candidate) → get l km ≡ Some c → is_some (get l km) ≡ true
get_there l km c e = rw e

-- question 11 from its parts, and question 12
pub in_order : (g : Grid) (l : Ledger) → l.len ≤ capacity → rising_from 0 (entries l) ≡ true → all_in_bounds g (entries l) ≡ true → ledger_in_order g l ≡ true
unfolding ledger_in_order
in_order g l n r b = and_both _ _ (and_both _ _ (le-leb l.len capacity n) r) b

pub places_free_lem : (l : Ledger) (n : ℕ) → places_free l n ≡ true → l.len + n ≤ capacity
unfolding places_free
places_free_lem l n e = leb-true (l.len + n) capacity e
