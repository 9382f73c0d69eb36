-- Laws of the places read one at a time, as the loops of get, of the judge and of a put's place do: d is any entry.
use Prim.Native.Nat.{ℕ, suc, ◌+◌, ◌-◌, ◌≤◌, ◌<◌, ◌^◌, min}
use mathlib.Core.Path.{◌≡◌, refl, ap, ◌∙◌}
use mathlib.Core.Bool.{Bool, true, false, ◌&&◌, cond}
use mathlib.Core.List.{List, [], ◌∷◌}
use native.Mathlib.Nat.{min-eq_left}
use native.Mathlib.Numerals.{add-one}
use native.Mathlib.Omega.{arith}
use lib.Dec.{leb, ltb, eqb}
use lib.ListN.{length, take, drop, get_or, length-take, drop_of_length-le}
use lib.Seq.{drop-cons, get_or-take}
use borrow.Author.Tests.{le-leb, lt-leb, leb-true, leb-false, ltb-true, ltb-false}
use Rattle.std.specs.Option.{unwrap_or}
use Rattle.std.specs.List.{position, position_or_len}
use Rattle.std.proofs.lemmas.List.Recursion.{is_position_or_len}
use Rattle.std.proofs.Common.{Some, None}
use Rattle.lists.proofs.Bools.{and_left, and_right, and_no, cases}
use Rattle.grid.specs.declared.Grid.{Grid}
use Rattle.grid.specs.Grid.{ceiling, on_grid}
use Rattle.candidates.specs.Candidate.{centre_of}
use Rattle.ledger.specs.declared.Entry.{Entry}
use Rattle.ledger.specs.declared.Ledger.{Ledger}
use Rattle.ledger.specs.Ledger.{capacity, entries, find, entry_in_bounds, rising_from, all_in_bounds, ledger_in_order}
use Rattle.ledger.specs.State.{place_of}

pub length_entries : (l : Ledger) → length l.places ≡ capacity → length (entries l) ≡ min l.len capacity
unfolding entries
length_entries l e = length-take l.len l.places ∙ ap (min l.len) e

pub length_counted : (l : Ledger) → length l.places ≡ capacity → l.len ≤ capacity → length (entries l) ≡ l.len
length_counted l e h = length_entries l e ∙ min-eq_left h

-- no entry is left
pub from_end : (l : Ledger) (i : ℕ) → length l.places ≡ capacity → min l.len capacity ≤ i → drop i (entries l) ≡ []
from_end l i e h = drop_of_length-le (entries l) {i = i} (rw (length_entries l e) h)

pub get_end : (es : List Entry) (km : ℕ) → es ≡ [] → find es km ≡ None
unfolding find
get_end es km e = rw e

pub place_end : (es : List Entry) (km : ℕ) → es ≡ [] → place_of es km ≡ 0
unfolding place_of
place_end es km e = rw e

pub place_le : (es : List Entry) (km : ℕ) → place_of es km ≤ length es
unfolding place_of
place_le [] km = omega arith
place_le (e ∷ es) km = cases (leb km e.km.0) (λ t. rw t (omega arith)) (λ f. rw f (omega (arith, place_le es km)))

place_first : (km : ℕ) (es : List Entry) → place_of es km ≡ position_or_len (λ (e : Entry). leb km e.km.0) es
unfolding place_of
place_first km es =
    is_position_or_len (λ (xs : List Entry). place_of xs km) (λ (e : Entry). leb km e.km.0) refl
    (λ x xs. cases (leb km x.km.0) (λ t. rw t) (λ f. rw f (omega arith))) es

or_len : (n k len : ℕ) → n ≤ k → k ≡ len → n ≡ unwrap_or (cond (ltb n k) (Some n) None) len
or_len n k len h e = cases (ltb n k) (λ t. rw t) (λ f. rw f (omega (arith, ltb-false n k f)))

pub place_found : (l : Ledger) (km : ℕ) → length l.places ≡ capacity → l.len ≤ capacity
    → place_of (entries l) km ≡ unwrap_or (position (λ (e : Entry). leb km e.km.0) (entries l)) l.len
place_found l km whole counted =
    let within = place_le (entries l) km in
    let long = length_counted l whole counted in
    rw place_first (or_len _ _ _ (rw place_first at within) long)

-- what question 11 asks of the entries
abbrev pub order_from : Grid → ℕ → List Entry → Bool
order_from g least es = rising_from least es && all_in_bounds g es

pub order_counted : (g : Grid) (l : Ledger) → leb l.len capacity ≡ true → ledger_in_order g l ≡ order_from g 0 (entries l)
unfolding ledger_in_order
order_counted g l h = rw h

pub order_beyond : (g : Grid) (l : Ledger) → leb l.len capacity ≡ false → ledger_in_order g l ≡ false
unfolding ledger_in_order
order_beyond g l h = rw h

one_fails : (a r b s : Bool) → (a && b) ≡ false → (a && r && (b && s)) ≡ false
one_fails false r b s n = refl
one_fails true r b s n = rw n (and_no r false refl)

pub km_below : (g : Grid) (least : ℕ) (e : Entry) → (leb least e.km.0 && entry_in_bounds g e) ≡ true → e.km.0 < ceiling g
unfolding entry_in_bounds
km_below g least e y =
    let bounds = and_right (leb least e.km.0) (entry_in_bounds g e) y in
    let placed = and_left (ltb e.km.0 (ceiling g) && on_grid g (centre_of e.centre)) (leb e.centre.population (2 ^ 53)) bounds in
    ltb-true e.km.0 (ceiling g) (and_left (ltb e.km.0 (ceiling g)) (on_grid g (centre_of e.centre)) placed)

pub order_end : (g : Grid) (least : ℕ) (es : List Entry) (i : ℕ) → length es ≤ i → order_from g least (drop i es) ≡ true
unfolding rising_from all_in_bounds
order_end g least es i h = rw (drop_of_length-le es {i = i} h)

module _ (es : List Entry) (i : ℕ) (d : Entry) (here : i < length es) where
  -- the entries from a place on begin with the one that stands there
  list_here : drop i es ≡ get_or es i d ∷ drop (i + 1) es
  list_here = rw add-one (drop-cons es i d here)

  -- the entry there follows those before it, or it does not
  abbrev pub follows_here : Grid → ℕ → Bool
  follows_here g least = leb least (get_or es i d).km.0 && entry_in_bounds g (get_or es i d)

  pub order_next : (g : Grid) (least : ℕ) → follows_here g least ≡ true
      → order_from g least (drop i es) ≡ order_from g ((get_or es i d).km.0 + 1) (drop (i + 1) es)
  unfolding rising_from all_in_bounds
  order_next g least y =
      let e = get_or es i d in
      rw (list_here, and_left (leb least e.km.0) (entry_in_bounds g e) y, and_right (leb least e.km.0) (entry_in_bounds g e) y)

  pub order_stop : (g : Grid) (least : ℕ) → follows_here g least ≡ false → order_from g least (drop i es) ≡ false
  unfolding rising_from all_in_bounds
  order_stop g least n =
      let e = get_or es i d in
      rw list_here (one_fails (leb least e.km.0) (rising_from (e.km.0 + 1) (drop (i + 1) es)) (entry_in_bounds g e) (all_in_bounds g (drop (i + 1) es)) n)

-- the ledger's places, as its entries are
module _ (l : Ledger) (i : ℕ) (d : Entry) (here : i < min l.len capacity) (whole : length l.places ≡ capacity) where
  -- the entries from a place on begin with the one that stands there
  pub from_here : drop i (entries l) ≡ get_or l.places i d ∷ drop (i + 1) (entries l)
  unfolding entries
  from_here =
      let inside : i < length (take l.len l.places) = rw (length-take, whole) here in
      rw (add-one, drop-cons (take l.len l.places) i d inside, get_or-take l.len l.places i d (omega arith))

  pub get_here : (km : ℕ) → eqb (get_or l.places i d).km.0 km ≡ true → find (drop i (entries l)) km ≡ Some (get_or l.places i d).centre
  unfolding find
  get_here km e = rw (from_here, e)

  pub get_next : (km : ℕ) → eqb (get_or l.places i d).km.0 km ≡ false → find (drop i (entries l)) km ≡ find (drop (i + 1) (entries l)) km
  unfolding find
  get_next km n = rw (from_here, n)

  pub place_here : (km : ℕ) → leb km (get_or l.places i d).km.0 ≡ true → place_of (drop i (entries l)) km ≡ 0
  unfolding place_of
  place_here km h = rw (from_here, h)

  pub place_next : (km : ℕ) → leb km (get_or l.places i d).km.0 ≡ false → place_of (drop i (entries l)) km ≡ suc (place_of (drop (i + 1) (entries l)) km)
  unfolding place_of
  place_next km h = rw (from_here, h)

  -- the entry there follows those before it, or it does not
  abbrev pub follows_at : Grid → ℕ → Bool
  follows_at g least = leb least (get_or l.places i d).km.0 && entry_in_bounds g (get_or l.places i d)

  pub order_next_at : (g : Grid) (least : ℕ) → follows_at g least ≡ true
      → order_from g least (drop i (entries l)) ≡ order_from g ((get_or l.places i d).km.0 + 1) (drop (i + 1) (entries l))
  unfolding rising_from all_in_bounds
  order_next_at g least y =
      let e = get_or l.places i d in
      rw (from_here, and_left (leb least e.km.0) (entry_in_bounds g e) y, and_right (leb least e.km.0) (entry_in_bounds g e) y)

  pub order_stop_at : (g : Grid) (least : ℕ) → follows_at g least ≡ false → order_from g least (drop i (entries l)) ≡ false
  unfolding rising_from all_in_bounds
  order_stop_at g least n =
      let e = get_or l.places i d in
      rw from_here (one_fails (leb least e.km.0) (rising_from (e.km.0 + 1) (drop (i + 1) (entries l))) (entry_in_bounds g e) (all_in_bounds g (drop (i + 1) (entries l))) n)

-- n places are free, found without the sum
pub same_leb : (len n most : ℕ) → n ≤ most → leb len (most - n) ≡ leb (len + n) most
same_leb len n most h = cases (leb (len + n) most) (λ t. rw (t, le-leb len (most - n) (omega (arith, leb-true (len + n) most t)))) (λ f. rw (f, lt-leb len (most - n) (omega (arith, leb-false (len + n) most f))))
