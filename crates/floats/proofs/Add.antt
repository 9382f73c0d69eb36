-- The sum keeps the order, wherever neither sum is `nan`.
use Prim.Native.Nat.{ℕ, ◌+◌, ◌-◌, ◌*◌, ◌≤◌, ◌<◌}
use mathlib.Core.Path.{◌≡◌, refl, ap}
use mathlib.Core.Bool.{Bool, true, false}
use native.Mathlib.Omega.{arith}
use native.Mathlib.Nat.{add-mul, mul-pos, mul_assoc, mul_right_comm, mul-le-mul_right}
use lib.Dec.{T, ltb}
use lib.Ieee.{Float, nan, inf, fin, Format, binary64, up, down, round, sum, add, le}
use lib.Ieee.Fits.{down_pos}
use borrow.Author.Tests.{ltb-true, ltb-false}
use Rattle.floats.specs.Binary.{◌⊕◌}
use Rattle.floats.proofs.Order.{plus_of, minus_of, plus_mul, minus_mul}
use Rattle.floats.proofs.Round.{Le, round_le}
use Rattle.floats.proofs.Total.{number, neg_inf_le, le_inf, le_refl, le_sizes}

-- ---- ±a / c + ±b / c is ±n / c rounded, for the n that the sum of the two is
pub record Sum (f : Format) (s : Bool) (a : ℕ) (t : Bool) (b c : ℕ) : Type 0 where
  pub sign : Bool
  pub size : ℕ
  pub rounded : sum f s a t b c ≡ round f sign size c
  pub exact : plus_of sign size + (minus_of s a + minus_of t b) ≡ minus_of sign size + (plus_of s a + plus_of t b)

pub sum_is : (f : Format) (s : Bool) (a : ℕ) (t : Bool) (b c : ℕ) → Sum f s a t b c
unfolding sum plus_of minus_of
sum_is f true a true b c = record { sign = true; size = a + b; rounded = refl; exact = omega arith }
sum_is f false a false b c = record { sign = false; size = a + b; rounded = refl; exact = omega arith }
sum_is f false a true b c = go (ltb a b) refl
  where
    go : (u : Bool) → ltb a b ≡ u → Sum f false a true b c
    go true e = record { sign = true; size = b - a; rounded = rw e refl; exact = omega (arith, ltb-true a b e) }
    go false e = record { sign = false; size = a - b; rounded = rw e refl; exact = omega (arith, ltb-false a b e) }
sum_is f true a false b c = go (ltb a b) (ltb b a) refl refl
  where
    go : (u v : Bool) → ltb a b ≡ u → ltb b a ≡ v → Sum f true a false b c
    go true v e d = record { sign = false; size = b - a; rounded = rw e refl; exact = omega (arith, ltb-true a b e) }
    go false true e d = record { sign = true; size = a - b; rounded = rw (e, d) refl; exact = omega (arith, ltb-true b a d) }
    go false false e d = record { sign = false; size = a - b; rounded = rw (e, d) refl; exact = omega (arith, ltb-false a b e, ltb-false b a d) }

-- ---- over plain numbers: a / E ≤ b / D, and c / G is added to both
times_all : (p a c p' a' c' k : ℕ) → p + (a' + c') ≡ p' + (a + c) → p * k + (a' * k + c' * k) ≡ p' * k + (a * k + c * k)
times_all p a c p' a' c' k h = simp add-mul at (ap (λ (z : ℕ). z * k) h)

add_sizes : (p p' q q' a a' b b' c c' D E G : ℕ) → p + (a' * G + c' * E) ≡ p' + (a * G + c * E) → q + (b' * G + c' * D) ≡ q' + (b * G + c * D)
    → a * D + b' * E ≤ b * E + a' * D → p * (D * G) + q' * (E * G) ≤ q * (E * G) + p' * (D * G)
add_sizes p p' q q' a a' b b' c c' D E G x y h =
    let x' = times_all p (a * G) (c * E) p' (a' * G) (c' * E) D x in
    let y' = times_all q (b * G) (c * D) q' (b' * G) (c' * D) E y in
    let h' : a * D * G + b' * E * G ≤ b * E * G + a' * D * G = rw (add-mul (a * D) (b' * E) G, add-mul (b * E) (a' * D) G) at (mul-le-mul_right G h) in
    let k : p * D + q' * E ≤ q * E + p' * D = omega (arith, mul_right_comm a G D, mul_right_comm a' G D, mul_right_comm b G E, mul_right_comm b' G E, mul_right_comm c D E, mul_right_comm c' D E) in
    rw (← mul_assoc p D G, ← mul_assoc q' E G, ← mul_assoc q E G, ← mul_assoc p' D G) (rw (add-mul (p * D) (q' * E) G, add-mul (q * E) (p' * D) G) at (mul-le-mul_right G k))

sum_mono : (f : Format) (s : Bool) (A E : ℕ) (t : Bool) (B D : ℕ) (u : Bool) (C G : ℕ) → 0 < E → 0 < D → 0 < G → Le s (A * D) t (B * E)
    → T (le (sum f s (A * G) u (C * E) (E * G)) (sum f t (B * G) u (C * D) (D * G)))
sum_mono f s A E t B D u C G EP DP GP h =
    let x = sum_is f s (A * G) u (C * E) (E * G) in
    let y = sum_is f t (B * G) u (C * D) (D * G) in
    rw (x.rounded, y.rounded)
    (round_le f x.sign x.size (E * G) y.sign y.size (D * G) (mul-pos EP GP) (mul-pos DP GP)
    (rw (plus_mul x.sign x.size (D * G), minus_mul y.sign y.size (E * G), plus_mul y.sign y.size (E * G), minus_mul x.sign x.size (D * G))
    (add_sizes (plus_of x.sign x.size) (minus_of x.sign x.size) (plus_of y.sign y.size) (minus_of y.sign y.size) (plus_of s A) (minus_of s A) (plus_of t B) (minus_of t B) (plus_of u C) (minus_of u C) D E G
    (rw (minus_mul s A G, minus_mul u C E, plus_mul s A G, plus_mul u C E) at x.exact)
    (rw (minus_mul t B G, minus_mul u C D, plus_mul t B G, plus_mul u C D) at y.exact)
    (rw (plus_mul s A D, minus_mul t B E, plus_mul t B E, minus_mul s A D) at h))))

inf_add : (f : Format) (s : Bool) (c : Float) → T (number (add f (inf s) c)) → add f (inf s) c ≡ inf s
unfolding add
inf_add f s nan X = absurd X
inf_add f s (fin u k g) X = refl
inf_add f true (inf true) X = refl
inf_add f true (inf false) X = absurd X
inf_add f false (inf true) X = absurd X
inf_add f false (inf false) X = refl

pub add_mono : (x y c : Float) → T (le x y) → T (number (x ⊕ c)) → T (number (y ⊕ c)) → T (le (x ⊕ c) (y ⊕ c))
unfolding le add
add_mono nan y c h X Y = absurd h
add_mono (inf s) nan c h X Y = absurd h
add_mono (inf s) (inf t) c h X Y = rw (inf_add binary64 s c X, inf_add binary64 t c Y) h
add_mono (inf true) (fin t n d) c h X Y = rw (inf_add binary64 true c X) (neg_inf_le ((fin t n d) ⊕ c) Y)
add_mono (inf false) (fin t n d) c h X Y = absurd h
add_mono (fin s m e) nan c h X Y = absurd h
add_mono (fin s m e) (inf true) c h X Y = absurd h
add_mono (fin s m e) (inf false) c h X Y = rw (inf_add binary64 false c Y) (le_inf ((fin s m e) ⊕ c) X)
add_mono (fin s m e) (fin t n d) nan h X Y = absurd X
add_mono (fin s m e) (fin t n d) (inf u) h X Y = le_refl (inf u) tt
add_mono (fin s m e) (fin t n d) (fin u k g) h X Y =
    sum_mono binary64 s (m * up e) (down e) t (n * up d) (down d) u (k * up g) (down g) (down_pos e) (down_pos d) (down_pos g) (le_sizes s m e t n d h)
