-- A finite value of the format is its own rounding. So what is not below zero, added to a value of the format, does not lower it.
use Prim.Native.Nat.{ℕ, zero, suc, ◌+◌, ◌-◌, ◌*◌, ◌%◌, ◌^◌, ◌≤◌, ◌<◌}
use mathlib.Core.Path.{◌≡◌, refl, ap, sym, ◌∙◌}
use mathlib.Core.Bool.{Bool, true, false, ◌&&◌}
use native.Mathlib.Omega.{arith}
use native.Mathlib.Nat.{add-mul, zero-mul, mul-one, one-mul, mul-pos, mul_assoc, mul_comm, mul-le-mul_right, mul-lt-mul_of_pos_right, add_comm, lt_of_not-le, not-le_of_lt, le_of_suc-le-suc}
use lib.IntN.{ℤ, pos, negsuc}
use lib.Dec.{T, ltb, leb, eqb, ltb→lt, leb→le, eqb→eq}
use lib.Pow.{pow-add, pow_pos, pow-lt}
use lib.Ieee.{Float, nan, inf, fin, Format, binary64, prec, emax, low, up, down, round, sum, add, le, fits}
use lib.Ieee.Fits.{down_pos, and_l, and_r}
use lib.Ieee.Exact.{HasValue, round_exact}
use Rattle.floats.specs.Binary.{◌⊕◌}
use Rattle.floats.proofs.Order.{plus_of, minus_of, plus_mul, minus_mul, le_trans}
use Rattle.floats.proofs.Round.{+0, round_le}
use Rattle.floats.proofs.Total.{number, le_refl, le_sizes, sizes_le, Le-refl}
use Rattle.floats.proofs.Add.{sum_is}

-- ---- what it takes to fit
pub record Fitting (f : Format) (m : ℕ) (e : ℤ) : Type 0 where
  pub digits : m < 2 ^ prec f
  pub places : down e ≤ 2 ^ low f
  pub below_top : m * up e < 2 ^ suc (emax f) * down e

unit_down : (e : ℤ) → up e * down e ≡ 1 → down e ≡ 1
unit_down (pos k) h = refl
unit_down (negsuc k) h = sym (one-mul (2 ^ suc k)) ∙ h

pub fitting : (f : Format) (s : Bool) (m : ℕ) (e : ℤ) → T (fits f (fin s m e)) → Fitting f m e
unfolding fits
fitting f s zero e h =
    let d : down e ≡ 1 = unit_down e (eqb→eq (up e * down e) 1 h) in
    record {
      digits = pow_pos (prec f);
      places = rw d (pow_pos (low f));
      below_top = rw (zero-mul (up e)) (mul-pos (pow_pos (suc (emax f))) (down_pos e));
    }
fitting f s (suc m) e h =
    let a = eqb (suc m % 2) 1 in
    let b = ltb (suc m) (2 ^ prec f) in
    let c = leb (down e) (2 ^ low f) in
    let d = ltb (suc m * up e) (2 ^ suc (emax f) * down e) in
    record {
      digits = ltb→lt (suc m) (2 ^ prec f) (and_r a b (and_l (a && b) c (and_l (a && b && c) d h)));
      places = leb→le (down e) (2 ^ low f) (and_r (a && b) c (and_l (a && b && c) d h));
      below_top = ltb→lt (suc m * up e) (2 ^ suc (emax f) * down e) (and_r (a && b && c) d h);
    }

-- ---- so it is q * 2 ^ j units
pow_order : (a b : ℕ) → 2 ^ a ≤ 2 ^ b → a ≤ b
pow_order a b h = le_of_suc-le-suc (lt_of_not-le (λ (g : suc b ≤ a). not-le_of_lt (pow-lt g) h))

pub round_own : (f : Format) (s : Bool) (m : ℕ) (e : ℤ) → T (fits f (fin s m e)) → HasValue (round f s (m * up e) (down e)) s (m * up e) (down e)
round_own f s m (pos k) h =
    let w = fitting f s m (pos k) h in
    let l = low f in
    let i : m * 2 ^ (k + l) ≡ m * 2 ^ k * 2 ^ l = ap (λ (z : ℕ). m * z) (pow-add 2 k l) ∙ sym (mul_assoc m (2 ^ k) (2 ^ l)) in
    let u : m * 2 ^ k < 2 ^ suc (emax f) = rw (mul-one (2 ^ suc (emax f))) at w.below_top in
    round_exact f s (m * 2 ^ k) 1 m (k + l) (pow_pos 0) w.digits
    (rw (i, add_comm l (suc (emax f)), pow-add 2 (suc (emax f)) l) (mul-lt-mul_of_pos_right u (pow_pos l)))
    (sym i ∙ sym (mul-one (m * 2 ^ (k + l))))
round_own f s m (negsuc k) h =
    let w = fitting f s m (negsuc k) h in
    let l = low f in
    let j = l - suc k in
    let g : suc k ≤ l = pow_order (suc k) l w.places in
    let i : j + suc k ≡ l = omega arith in
    let p : 2 ^ j * 2 ^ suc k ≡ 2 ^ l = sym (pow-add 2 j (suc k)) ∙ ap (λ (z : ℕ). 2 ^ z) i in
    let u : m < 2 ^ suc (emax f) * 2 ^ suc k = rw (mul-one m) at w.below_top in
    let v : m * 2 ^ j < 2 ^ suc (emax f) * 2 ^ suc k * 2 ^ j = mul-lt-mul_of_pos_right u (pow_pos j) in
    let r : 2 ^ suc (emax f) * 2 ^ suc k * 2 ^ j ≡ 2 ^ (l + suc (emax f)) = mul_assoc (2 ^ suc (emax f)) (2 ^ suc k) (2 ^ j) ∙ ap (λ (z : ℕ). 2 ^ suc (emax f) * z) (mul_comm (2 ^ suc k) (2 ^ j) ∙ p) ∙ mul_comm (2 ^ suc (emax f)) (2 ^ l) ∙ sym (pow-add 2 l (suc (emax f))) in
    round_exact f s (m * 1) (2 ^ suc k) m j (pow_pos (suc k)) w.digits (rw r at v)
    (ap (λ (z : ℕ). z * 2 ^ l) (mul-one m) ∙ ap (λ (z : ℕ). m * z) (sym p) ∙ sym (mul_assoc m (2 ^ j) (2 ^ suc k)))

same_value : (s : Bool) (m : ℕ) (e : ℤ) (x : Float) → HasValue x s (m * up e) (down e) → T (le (fin s m e) x)
same_value s m e nan h = absurd h
same_value s m e (inf t) h = absurd h
same_value s m e (fin t n d) h =
    sizes_le s m e t n d (rw (h.0, h.1) (Le-refl s (m * up e * down d)))

-- ---- x ≤ x + c for 0 ≤ c
add_sizes : (p p' a a' c c' E G : ℕ) → p + (a' * G + c' * E) ≡ p' + (a * G + c * E) → c' ≤ c → a * (E * G) + p' * E ≤ p * E + a' * (E * G)
add_sizes p p' a a' c c' E G x h =
    let k : a * G + p' ≤ p + a' * G = omega (arith, mul-le-mul_right E h) in
    let k' : a * G * E + p' * E ≤ p * E + a' * G * E = rw (add-mul (a * G) p' E, add-mul p (a' * G) E) at (mul-le-mul_right E k) in
    let i : a * (E * G) ≡ a * G * E = simp (mul_assoc, mul_comm) in
    let j : a' * (E * G) ≡ a' * G * E = simp (mul_assoc, mul_comm) in
    omega arith

sum_grows : (f : Format) (s : Bool) (A E : ℕ) (u : Bool) (C G : ℕ) → 0 < E → 0 < G → minus_of u C ≤ plus_of u C → T (le (round f s A E) (sum f s (A * G) u (C * E) (E * G)))
sum_grows f s A E u C G EP GP h =
    let x = sum_is f s (A * G) u (C * E) (E * G) in
    rw x.rounded
    (round_le f s A E x.sign x.size (E * G) EP (mul-pos EP GP)
    (rw (plus_mul s A (E * G), minus_mul x.sign x.size E, plus_mul x.sign x.size E, minus_mul s A (E * G))
    (add_sizes (plus_of x.sign x.size) (minus_of x.sign x.size) (plus_of s A) (minus_of s A) (plus_of u C) (minus_of u C) E G
    (rw (minus_mul s A G, minus_mul u C E, plus_mul s A G, plus_mul u C E) at x.exact) h)))

pub zero_le_sizes : (u : Bool) (k : ℕ) (g : ℤ) → T (le +0 (fin u k g)) → minus_of u (k * up g) ≤ plus_of u (k * up g)
unfolding plus_of minus_of
zero_le_sizes false k g h = omega arith
zero_le_sizes true k g h = let p = le_sizes false 0 (pos 0) true k g h in omega (arith, mul-one (k * up g), zero-mul (down g))

pub add_grows : (x c : Float) → T (fits binary64 x) → T (le +0 c) → T (number (x ⊕ c)) → T (le x (x ⊕ c))
unfolding le add
add_grows nan c F C X = absurd X
add_grows (inf s) nan F C X = absurd X
add_grows (inf true) (inf true) F C X = tt
add_grows (inf true) (inf false) F C X = absurd X
add_grows (inf false) (inf true) F C X = absurd X
add_grows (inf false) (inf false) F C X = tt
add_grows (inf s) (fin t n d) F C X = le_refl (inf s) tt
add_grows (fin s m e) nan F C X = absurd X
add_grows (fin s m e) (inf true) F C X = absurd C
add_grows (fin s m e) (inf false) F C X = tt
add_grows (fin s m e) (fin u k g) F C X =
    le_trans (fin s m e) (round binary64 s (m * up e) (down e)) (sum binary64 s (m * up e * down g) u (k * up g * down e) (down e * down g))
    (same_value s m e (round binary64 s (m * up e) (down e)) (round_own binary64 s m e F))
    (sum_grows binary64 s (m * up e) (down e) u (k * up g) (down g) (down_pos e) (down_pos g) (zero_le_sizes u k g C))
