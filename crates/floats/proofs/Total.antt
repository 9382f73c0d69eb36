-- The numbers among the floats (all but `nan`) are ordered: each is at most itself, of two one is at most the other, and the infinities are the ends.
use Prim.Native.Nat.{ℕ, ◌+◌, ◌*◌}
use mathlib.Core.Path.{◌≡◌}
use mathlib.Core.Bool.{Bool, true, false, not, ◌||◌, beq}
use native.Mathlib.Omega.{arith}
use native.Mathlib.Nat.{add-mul, mul-le-mul_right}
use lib.IntN.{ℤ}
use lib.Dec.{T, eqb, ltb→lt, nltb→le, eqb→eq}
use lib.Ieee.{Float, nan, inf, fin, up, down, below, level, lt, eq, le}
use lib.Ieee.Fits.{and_l, and_r}
use Rattle.lists.proofs.Bools.{or_left, or_right, same_test}
use Rattle.floats.proofs.Order.{plus_of, minus_of, ordered, tested, plus_mul, minus_mul, le_trans}
use Rattle.floats.proofs.Round.{Le}

-- all but `nan`
abbrev pub number : Float → Bool
number nan = false
number (inf s) = true
number (fin s m e) = true

pub le_number : (x y : Float) → T (le x y) → T (number x) × T (number y)
unfolding le
le_number nan y h = absurd h
le_number (inf s) nan h = absurd h
le_number (inf s) (inf t) h = (tt, tt)
le_number (inf s) (fin t n d) h = (tt, tt)
le_number (fin s m e) nan h = absurd h
le_number (fin s m e) (inf t) h = (tt, tt)
le_number (fin s m e) (fin t n d) h = (tt, tt)

pub neg_inf_le : (x : Float) → T (number x) → T (le (inf true) x)
unfolding le
neg_inf_le nan h = absurd h
neg_inf_le (inf true) h = tt
neg_inf_le (inf false) h = tt
neg_inf_le (fin s m e) h = tt

pub le_inf : (x : Float) → T (number x) → T (le x (inf false))
unfolding le
le_inf nan h = absurd h
le_inf (inf true) h = tt
le_inf (inf false) h = tt
le_inf (fin s m e) h = tt

-- ---- two finite values, by their signs and sizes over one denominator
pub le_sizes : (s : Bool) (m : ℕ) (e : ℤ) (t : Bool) (n : ℕ) (d : ℤ) → T (le (fin s m e) (fin t n d)) → Le s (m * up e * down d) t (n * up d * down e)
unfolding le
le_sizes s m e t n d h = ordered s (m * up e * down d) t (n * up d * down e) h

pub sizes_le : (s : Bool) (m : ℕ) (e : ℤ) (t : Bool) (n : ℕ) (d : ℤ) → Le s (m * up e * down d) t (n * up d * down e) → T (le (fin s m e) (fin t n d))
unfolding le
sizes_le s m e t n d h = tested s (m * up e * down d) t (n * up d * down e) h

pub Le-refl : (s : Bool) (a : ℕ) → Le s a s a
unfolding plus_of minus_of
Le-refl true a = omega arith
Le-refl false a = omega arith

pub Le-zero : (s : Bool) (a : ℕ) (t : Bool) (b : ℕ) → a ≡ 0 → b ≡ 0 → Le s a t b
unfolding plus_of minus_of
Le-zero true a true b p q = omega arith
Le-zero true a false b p q = omega arith
Le-zero false a true b p q = omega arith
Le-zero false a false b p q = omega arith

pub Le-scale : (s : Bool) (a : ℕ) (t : Bool) (b k : ℕ) → Le s a t b → Le s (a * k) t (b * k)
Le-scale s a t b k h =
    rw (plus_mul s a k, minus_mul t b k, plus_mul t b k, minus_mul s a k)
    (rw (add-mul (plus_of s a) (minus_of t b) k, add-mul (plus_of t b) (minus_of s a) k) at (mul-le-mul_right k h))

not_below : (s : Bool) (a : ℕ) (t : Bool) (b : ℕ) → T (not (below t b s a)) → Le s a t b
unfolding plus_of minus_of
not_below true a true b h = omega (arith, nltb→le a b h)
not_below true a false b h = omega arith
not_below false a true b h = omega (arith, nltb→le 0 (b + a) h)
not_below false a false b h = omega (arith, nltb→le b a h)

pub le_refl : (x : Float) → T (number x) → T (le x x)
le_refl nan h = absurd h
le_refl (inf true) h = unfold le in tt
le_refl (inf false) h = unfold le in tt
le_refl (fin s m e) h = sizes_le s m e s m e (Le-refl s (m * up e * down e))

-- what is not above y is at most y
pub le_of_not_lt : (x y : Float) → T (number x) → T (number y) → T (not (lt y x)) → T (le x y)
unfolding le
le_of_not_lt nan y X Y h = absurd X
le_of_not_lt (inf s) nan X Y h = absurd Y
le_of_not_lt (inf true) (inf true) X Y h = tt
le_of_not_lt (inf true) (inf false) X Y h = tt
le_of_not_lt (inf false) (inf true) X Y h = absurd h
le_of_not_lt (inf false) (inf false) X Y h = tt
le_of_not_lt (inf true) (fin t n d) X Y h = tt
le_of_not_lt (inf false) (fin t n d) X Y h = absurd h
le_of_not_lt (fin s m e) nan X Y h = absurd Y
le_of_not_lt (fin s m e) (inf true) X Y h = absurd h
le_of_not_lt (fin s m e) (inf false) X Y h = tt
le_of_not_lt (fin s m e) (fin t n d) X Y h =
    tested s (m * up e * down d) t (n * up d * down e) (not_below s (m * up e * down d) t (n * up d * down e) h)

pub le_of_lt : (x y : Float) → T (lt x y) → T (le x y)
unfolding le
le_of_lt x y h = or_left (lt x y) (eq x y) h

below_not : (s : Bool) (a : ℕ) (t : Bool) (b : ℕ) → T (below s a t b) → Le t b s a → ⊥
unfolding plus_of minus_of
below_not true a true b h k = omega (arith, ltb→lt b a h)
below_not true a false b h k = omega (arith, ltb→lt 0 (a + b) h)
below_not false a true b h k = h
below_not false a false b h k = omega (arith, ltb→lt a b h)

-- never both below y and at least y
pub lt_not_le : (x y : Float) → T (lt x y) → T (le y x) → ⊥
unfolding le
lt_not_le nan y h k = h
lt_not_le (inf s) nan h k = h
lt_not_le (inf true) (inf true) h k = h
lt_not_le (inf true) (inf false) h k = k
lt_not_le (inf false) (inf t) h k = h
lt_not_le (inf true) (fin t n d) h k = k
lt_not_le (inf false) (fin t n d) h k = h
lt_not_le (fin s m e) nan h k = h
lt_not_le (fin s m e) (inf true) h k = h
lt_not_le (fin s m e) (inf false) h k = k
lt_not_le (fin s m e) (fin t n d) h k =
    below_not s (m * up e * down d) t (n * up d * down e) h (ordered t (n * up d * down e) s (m * up e * down d) k)

pub le_of_eq : (x y : Float) → T (eq x y) → T (le x y)
unfolding le
le_of_eq x y h = or_right (lt x y) (eq x y) h

-- ---- two values that compare equal

level_sizes : (s : Bool) (a : ℕ) (t : Bool) (b : ℕ) → T (level s a t b) → Le t b s a
unfolding plus_of minus_of
level_sizes s a t b h = go s t (and_r (eqb a b) (beq s t || eqb a 0) h)
  where
    e : a ≡ b
    e = eqb→eq a b (and_l (eqb a b) (beq s t || eqb a 0) h)

    go : (s t : Bool) → T (beq s t || eqb a 0) → Le t b s a
    go false false k = omega (arith, e)
    go false true k = omega (arith, e)
    go true false k = omega (arith, e, eqb→eq a 0 k)
    go true true k = omega (arith, e)

eq_ge : (x y : Float) → T (eq x y) → T (le y x)
unfolding le
eq_ge nan y h = absurd h
eq_ge (inf s) nan h = absurd h
eq_ge (inf true) (inf true) h = tt
eq_ge (inf true) (inf false) h = absurd h
eq_ge (inf false) (inf true) h = absurd h
eq_ge (inf false) (inf false) h = tt
eq_ge (inf s) (fin t n d) h = absurd h
eq_ge (fin s m e) nan h = absurd h
eq_ge (fin s m e) (inf t) h = absurd h
eq_ge (fin s m e) (fin t n d) h = sizes_le t n d s m e (level_sizes s (m * up e * down d) t (n * up d * down e) h)

pub eq_le : (x y : Float) → T (eq x y) → T (le x y) × T (le y x)
eq_le x y h = (le_of_eq x y h, eq_ge x y h)

-- no comparison tells them apart
pub le_same_right : (x y : Float) → T (le x y) → T (le y x) → (a : Float) → le a x ≡ le a y
le_same_right x y h k a = same_test (le a x) (le a y) (λ l. le_trans a x y l h) (λ l. le_trans a y x l k)
