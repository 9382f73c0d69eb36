-- Laws of a list of entries: what finding sees of an entering, and what an entering keeps.
use Prim.Native.Nat.{ℕ, suc, ◌+◌, ◌≤◌}
use mathlib.Core.Path.{◌≡◌, refl, sym, ap}
use mathlib.Core.Bool.{true, false}
use mathlib.Core.List.{List, [], ◌∷◌}
use native.Mathlib.Omega.{arith}
use lib.Dec.{leb, ltb, eqb}
use lib.ListN.{length}
use borrow.Author.Tests.{eqb-true, eqb-false, ltb-true, ltb-false, eq-eqb, ne_eqb, le-leb}
use Rattle.std.proofs.Common.{Some, None}
use Rattle.lists.proofs.Bools.{and_both, and_left, and_right, cases, cond_case}
use Rattle.grid.specs.declared.Grid.{Grid}
use Rattle.ledger.specs.declared.Entry.{Entry}
use Rattle.ledger.specs.Ledger.{find, enter, entry_in_bounds, rising_from, all_in_bounds}

-- the kilometre entered is found with what was entered, and any other as before
pub find_enter_same : (es : List Entry) (x : Entry) → find (enter es x) x.km.0 ≡ Some x.centre
unfolding find enter
find_enter_same [] x = rw (eq-eqb x.km.0 x.km.0 refl)
find_enter_same (e ∷ es) x =
    cond_case (λ (l : List Entry). find l x.km.0 ≡ Some x.centre) (ltb x.km.0 e.km.0) _ _
    (λ t. rw (eq-eqb x.km.0 x.km.0 refl))
    (λ t. cond_case (λ (l : List Entry). find l x.km.0 ≡ Some x.centre) (eqb x.km.0 e.km.0) _ _
    (λ u. rw (eq-eqb x.km.0 x.km.0 refl))
    (λ u. rw (ne_eqb e.km.0 x.km.0 (λ k. eqb-false x.km.0 e.km.0 u (sym k))) (find_enter_same es x)))

pub find_enter_other : (es : List Entry) (x : Entry) (km : ℕ) → eqb x.km.0 km ≡ false → find (enter es x) km ≡ find es km
unfolding find enter
find_enter_other [] x km o = rw o
find_enter_other (e ∷ es) x km o =
    cond_case (λ (l : List Entry). find l km ≡ find (e ∷ es) km) (ltb x.km.0 e.km.0) _ _
    (λ t. rw o)
    (λ t. cond_case (λ (l : List Entry). find l km ≡ find (e ∷ es) km) (eqb x.km.0 e.km.0) _ _
    (λ u. let same = eqb-true x.km.0 e.km.0 u in rw (o, ← same, o))
    (λ u. cases (eqb e.km.0 km) (λ v. rw v) (λ v. rw v (find_enter_other es x km o))))

-- a new kilometre is one entry more
pub length_enter : (es : List Entry) (x : Entry) → find es x.km.0 ≡ None → length (enter es x) ≡ suc (length es)
unfolding find enter
length_enter [] x n = refl
length_enter (e ∷ es) x n =
    cond_case (λ (l : List Entry). length l ≡ suc (suc (length es))) (ltb x.km.0 e.km.0) _ _ (λ t. refl)
    (λ t. cond_case (λ (l : List Entry). length l ≡ suc (suc (length es))) (eqb x.km.0 e.km.0) _ _
    (λ u. absurd (held (eq-eqb e.km.0 x.km.0 (sym (eqb-true x.km.0 e.km.0 u)))))
    (λ u. ap suc (length_enter es x (rw (ne_eqb e.km.0 x.km.0 (λ k. eqb-false x.km.0 e.km.0 u (sym k))) at n))))
  where
    never : Some e.centre ≡ None → ⊥
    never z = let o : ◌≡◌ {A = ℕ} 0 1 = cc in omega arith

    held : eqb e.km.0 x.km.0 ≡ true → ⊥
    held k = never (rw k at n)

-- at most one more in any case
pub length_enter_most : (es : List Entry) (x : Entry) → length (enter es x) ≤ suc (length es)
unfolding enter
length_enter_most [] x = omega arith
length_enter_most (e ∷ es) x =
    cond_case (λ (l : List Entry). length l ≤ suc (suc (length es))) (ltb x.km.0 e.km.0) _ _ (λ t. omega arith)
    (λ t. cond_case (λ (l : List Entry). length l ≤ suc (suc (length es))) (eqb x.km.0 e.km.0) _ _ (λ u. omega arith)
    (λ u. omega (arith, length_enter_most es x)))

-- kilometres stay strictly rising
pub rising_enter : (least : ℕ) (es : List Entry) (x : Entry) → rising_from least es ≡ true → least ≤ x.km.0 → rising_from least (enter es x) ≡ true
unfolding rising_from enter
rising_enter least [] x r l = and_both _ _ (le-leb least x.km.0 l) refl
rising_enter least (e ∷ es) x r l =
    let first = and_left (leb least e.km.0) (rising_from (e.km.0 + 1) es) r in
    let rest = and_right (leb least e.km.0) (rising_from (e.km.0 + 1) es) r in
    cond_case (λ (l : List Entry). rising_from least l ≡ true) (ltb x.km.0 e.km.0) _ _
    (λ t.
    let u = ltb-true x.km.0 e.km.0 t in
    and_both _ _ (le-leb least x.km.0 l) (and_both _ _ (le-leb (x.km.0 + 1) e.km.0 (omega arith)) rest))
    (λ t. cond_case (λ (l : List Entry). rising_from least l ≡ true) (eqb x.km.0 e.km.0) _ _
    (λ u.
    let same = eqb-true x.km.0 e.km.0 u in
    and_both _ _ (le-leb least x.km.0 l) (rw same rest))
    (λ u.
    let past = ltb-false x.km.0 e.km.0 t in
    let other = eqb-false x.km.0 e.km.0 u in
    and_both _ _ first (rising_enter (e.km.0 + 1) es x rest (omega arith))))

-- entries stay in bounds
pub in_bounds_enter : (g : Grid) (es : List Entry) (x : Entry) → all_in_bounds g es ≡ true → entry_in_bounds g x ≡ true → all_in_bounds g (enter es x) ≡ true
unfolding all_in_bounds enter
in_bounds_enter g [] x a b = and_both _ _ b refl
in_bounds_enter g (e ∷ es) x a b =
    let first = and_left (entry_in_bounds g e) (all_in_bounds g es) a in
    let rest = and_right (entry_in_bounds g e) (all_in_bounds g es) a in
    cond_case (λ (l : List Entry). all_in_bounds g l ≡ true) (ltb x.km.0 e.km.0) _ _ (λ t. and_both _ _ b a)
    (λ t. cond_case (λ (l : List Entry). all_in_bounds g l ≡ true) (eqb x.km.0 e.km.0) _ _ (λ u. and_both _ _ b rest)
    (λ u. and_both _ _ first (in_bounds_enter g es x rest b)))
