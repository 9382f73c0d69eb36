-- A ledger in order: question 11 in its parts, what get gives of it, and a put that keeps it.
use Prim.Native.Nat.{ℕ, ◌+◌, ◌^◌, ◌≤◌, ◌<◌}
use mathlib.Core.Path.{◌≡◌}
use mathlib.Core.Bool.{Bool, true, ◌&&◌}
use mathlib.Core.List.{List, [], ◌∷◌}
use native.Mathlib.Omega.{arith}
use lib.Dec.{eqb, leb, ltb}
use lib.ListN.{length-take}
use borrow.Author.Tests.{le-leb, leb-true, lt-ltb}
use Rattle.std.proofs.Common.{Some}
use Rattle.lists.proofs.Bools.{cases, and_both, and_left, and_right}
use Rattle.grid.specs.declared.Grid.{Grid}
use Rattle.grid.specs.Grid.{ceiling, on_grid}
use Rattle.candidates.specs.declared.Candidate.{Candidate}
use Rattle.candidates.specs.Candidate.{centre_of}
use Rattle.ledger.specs.declared.Entry.{Entry}
use Rattle.ledger.specs.declared.Ledger.{Ledger}
use Rattle.ledger.specs.Ledger.{capacity, entry, entries, find, get, put, entry_in_bounds, rising_from, all_in_bounds, ledger_in_order}
use Rattle.ledger.specs.Requires.{InBounds}
use Rattle.ledger.proofs.Laws.{len_put, length_put_most, rising_put, in_bounds_put, in_order}

all_three : (a b c : Bool) → (a && b && c) ≡ true → (a ≡ true) × (b ≡ true) × (c ≡ true)
all_three a b c e = let both = and_left (a && b) c e in (and_left a b both, and_right a b both, and_right (a && b) c e)

-- question 11 in its parts
pub record Ordered (g : Grid) (l : Ledger) : Type 0 where
  pub counted : l.len ≤ capacity
  pub rising : rising_from 0 (entries l) ≡ true
  pub bounded : all_in_bounds g (entries l) ≡ true

pub ordered : (g : Grid) (l : Ledger) → ledger_in_order g l ≡ true → Ordered g l
unfolding ledger_in_order
ordered g l e =
    let parts = all_three (leb l.len capacity) (rising_from 0 (entries l)) (all_in_bounds g (entries l)) e in
    record { counted = leb-true l.len capacity parts.0; rising = parts.1; bounded = parts.2 }

-- an entry by its kilometre and its centre
pub entry_in_bounds_lem : (g : Grid) (km : ℕ) (c : Candidate) → km < ceiling g → InBounds g c → entry_in_bounds g (entry km c) ≡ true
unfolding entry_in_bounds
entry_in_bounds_lem g km c h b = and_both _ _ (and_both _ _ (lt-ltb km (ceiling g) h) b.on) (le-leb c.population (2 ^ 53) b.exact)

bounds_of : (g : Grid) (x : Entry) → entry_in_bounds g x ≡ true → InBounds g x.centre
unfolding entry_in_bounds
bounds_of g x e =
    let parts = all_three (ltb x.km.0 (ceiling g)) (on_grid g (centre_of x.centre)) (leb x.centre.population (2 ^ 53)) e in
    record { on = parts.1; exact = leb-true x.centre.population (2 ^ 53) parts.2 }

found_in_bounds : (g : Grid) (es : List Entry) (km : ℕ) (c : Candidate) → all_in_bounds g es ≡ true → find es km ≡ Some c → InBounds g c
unfolding find all_in_bounds
found_in_bounds g [] km c a e = let z : ◌≡◌ {A = ℕ} 0 1 = cc in absurd (omega arith)
found_in_bounds g (x ∷ es) km c a e =
    cases (eqb x.km.0 km)
    (λ t.
    let found : Some x.centre ≡ Some c = rw t at e in
    let is : x.centre ≡ c = cc in
    rw (← is) (bounds_of g x (and_left (entry_in_bounds g x) (all_in_bounds g es) a)))
    (λ t. found_in_bounds g es km c (and_right (entry_in_bounds g x) (all_in_bounds g es) a) (rw t at e))

-- an entry of the ledger is in bounds
pub got_in_bounds : (g : Grid) (l : Ledger) (km : ℕ) (c : Candidate) → ledger_in_order g l ≡ true → get l km ≡ Some c → InBounds g c
unfolding get
got_in_bounds g l km c o e = found_in_bounds g (entries l) km c (ordered g l o).bounded e

pub len_put_most : (l : Ledger) (x : Entry) → (put l x).len ≤ l.len + 1
unfolding entries
len_put_most l x = omega (arith, len_put l x, length_put_most l x, length-take l.len l.places)

-- with a free place a put keeps the order
pub put_in_order : (g : Grid) (l : Ledger) (km : ℕ) (c : Candidate) → ledger_in_order g l ≡ true → l.len + 1 ≤ capacity → km < ceiling g → InBounds g c
    → ledger_in_order g (put l (entry km c)) ≡ true
put_in_order g l km c o r h b =
    let k = ordered g l o in
    let x = entry km c in
    in_order g (put l x) (omega (arith, len_put_most l x)) (rising_put l x k.rising) (in_bounds_put l x g k.bounded (entry_in_bounds_lem g km c h b))
