-- General laws of binary64 and of tests: values that compare at most both ways compare equal.
use Prim.Native.Nat.{ℕ, ◌*◌}
use mathlib.Core.Path.{◌≡◌}
use mathlib.Core.Bool.{Bool, true, false}
use native.Mathlib.Omega.{arith}
use lib.Dec.{T}
use lib.Ieee.{Float, nan, inf, fin, up, down, level, le, eq}
use borrow.Author.Tests.{eq-eqb}
use Rattle.floats.proofs.Order.{plus_of, minus_of, le_trans}
use Rattle.floats.proofs.Round.{Le}
use Rattle.floats.proofs.Total.{le_sizes, eq_le}
use Rattle.lists.proofs.Bools.{same_test}

level_both : (s : Bool) (a : ℕ) (t : Bool) (b : ℕ) → Le s a t b → Le t b s a → T (level s a t b)
unfolding plus_of minus_of
level_both false a false b h k = let e : a ≡ b = omega arith in rw (eq-eqb a b e) tt
level_both false a true b h k = let e : a ≡ b = omega arith in let z : a ≡ 0 = omega arith in rw (eq-eqb a b e, eq-eqb a 0 z) tt
level_both true a false b h k = let e : a ≡ b = omega arith in let z : a ≡ 0 = omega arith in rw (eq-eqb a b e, eq-eqb a 0 z) tt
level_both true a true b h k = let e : a ≡ b = omega arith in rw (eq-eqb a b e) tt

pub eq_of_le : (x y : Float) → T (le x y) → T (le y x) → T (eq x y)
unfolding le
eq_of_le nan y h k = absurd h
eq_of_le (inf s) nan h k = absurd h
eq_of_le (inf true) (inf true) h k = tt
eq_of_le (inf true) (inf false) h k = absurd k
eq_of_le (inf false) (inf true) h k = absurd h
eq_of_le (inf false) (inf false) h k = tt
eq_of_le (inf true) (fin t n d) h k = absurd k
eq_of_le (inf false) (fin t n d) h k = absurd h
eq_of_le (fin s m e) nan h k = absurd h
eq_of_le (fin s m e) (inf true) h k = absurd h
eq_of_le (fin s m e) (inf false) h k = absurd k
eq_of_le (fin s m e) (fin t n d) h k = level_both s (m * up e * down d) t (n * up d * down e) (le_sizes s m e t n d h) (le_sizes t n d s m e k)

-- what compares equal compares alike with a third
pub eq_same : (x y a : Float) → T (eq x y) → eq x a ≡ eq y a
eq_same x y a e =
    let both = eq_le x y e in
    same_test (eq x a) (eq y a)
    (λ t. let o = eq_le x a t in eq_of_le y a (le_trans y x a both.1 o.0) (le_trans a x y o.1 both.0))
    (λ t. let o = eq_le y a t in eq_of_le x a (le_trans x y a both.0 o.0) (le_trans a y x o.1 both.1))
