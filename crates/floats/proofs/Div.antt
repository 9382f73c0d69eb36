-- The quotient by a value above zero keeps the order, wherever neither quotient is `nan`.
use Prim.Native.Nat.{ℕ, ◌*◌, ◌<◌}
use mathlib.Core.Path.{◌≡◌, refl, ap}
use mathlib.Core.Bool.{Bool, true, false}
use native.Mathlib.Omega.{arith}
use native.Mathlib.Nat.{mul-one, mul-pos, mul_assoc, mul_comm, mul_left_comm}
use lib.IntN.{ℤ, pos}
use lib.Dec.{T, ltb→lt}
use lib.Ieee.{Float, nan, inf, fin, Format, binary64, unlike, up, down, round, div, lt, le}
use lib.Ieee.Fits.{up_pos, down_pos}
use lib.Ieee.Positive.{first_pos}
use borrow.Author.Tests.{ne_eqb}
use Rattle.floats.specs.Binary.{◌⊘◌}
use Rattle.floats.proofs.Round.{+0, round_le}
use Rattle.floats.proofs.Total.{number, neg_inf_le, le_inf, le_sizes, sizes_le, Le-scale, Le-zero}

unlike_false : (s : Bool) → unlike s false ≡ s
unlike_false true = refl
unlike_false false = refl

pub above_zero : (k : ℕ) (g : ℤ) → T (lt +0 (fin false k g)) → 0 < k
unfolding lt
above_zero k g h = let p = ltb→lt (0 * 1 * down g) (k * up g * 1) h in first_pos k (up g) (omega (arith, mul-one (k * up g)))

pub div_is : (f : Format) (s : Bool) (m : ℕ) (e : ℤ) (k : ℕ) (g : ℤ) → 0 < k → div f (fin s m e) (fin false k g) ≡ round f s (m * up e * down g) (k * up g * down e)
unfolding div
div_is f s m e k g K = rw (ne_eqb k 0 (λ (z : k ≡ 0). omega arith), unlike_false s) refl

reorder : (a g k d : ℕ) → a * g * (k * d) ≡ a * d * (g * k)
reorder a g k d = simp (mul_assoc, mul_comm, mul_left_comm)

inf_div : (f : Format) (s : Bool) (c : Float) → T (lt +0 c) → T (number (div f (inf s) c)) → div f (inf s) c ≡ inf s
unfolding lt div
inf_div f s nan C X = absurd X
inf_div f s (inf t) C X = absurd X
inf_div f s (fin true k g) C X = absurd C
inf_div f s (fin false k g) C X = ap inf (unlike_false s)

pub div_mono : (x y c : Float) → T (le x y) → T (lt +0 c) → T (number (x ⊘ c)) → T (number (y ⊘ c)) → T (le (x ⊘ c) (y ⊘ c))
unfolding le div
div_mono nan y c h C X Y = absurd h
div_mono (inf s) nan c h C X Y = absurd h
div_mono (inf s) (inf t) c h C X Y = rw (inf_div binary64 s c C X, inf_div binary64 t c C Y) h
div_mono (inf true) (fin t n d) c h C X Y = rw (inf_div binary64 true c C X) (neg_inf_le ((fin t n d) ⊘ c) Y)
div_mono (inf false) (fin t n d) c h C X Y = absurd h
div_mono (fin s m e) nan c h C X Y = absurd h
div_mono (fin s m e) (inf true) c h C X Y = absurd h
div_mono (fin s m e) (inf false) c h C X Y = rw (inf_div binary64 false c C Y) (le_inf ((fin s m e) ⊘ c) X)
div_mono (fin s m e) (fin t n d) nan h C X Y = absurd X
div_mono (fin s m e) (fin t n d) (inf u) h C X Y = sizes_le (unlike s u) 0 (pos 0) (unlike t u) 0 (pos 0) (Le-zero (unlike s u) (0 * 1 * 1) (unlike t u) (0 * 1 * 1) refl refl)
div_mono (fin s m e) (fin t n d) (fin true k g) h C X Y = absurd C
div_mono (fin s m e) (fin t n d) (fin false k g) h C X Y =
    let K = above_zero k g C in
    rw (div_is binary64 s m e k g K, div_is binary64 t n d k g K)
    (round_le binary64 s (m * up e * down g) (k * up g * down e) t (n * up d * down g) (k * up g * down d) (mul-pos (mul-pos K (up_pos g)) (down_pos e)) (mul-pos (mul-pos K (up_pos g)) (down_pos d))
    (rw (reorder (m * up e) (down g) (k * up g) (down d), reorder (n * up d) (down g) (k * up g) (down e))
    (Le-scale s (m * up e * down d) t (n * up d * down e) (down g * (k * up g)) (le_sizes s m e t n d h))))
