-- `le` of floats is transitive, for every value: signs, both zeros, infinities and NaN included.
use Prim.Native.Nat.{ℕ, ◌+◌, ◌*◌, ◌≤◌, ◌<◌}
use mathlib.Core.Path.{◌≡◌, refl, sym}
use mathlib.Core.Logic.{◌⊎◌, inl, inr}
use mathlib.Core.Bool.{Bool, true, false, cond, ◌||◌}
use native.Mathlib.Omega.{arith}
use native.Mathlib.Nat.{mul_right_comm, mul-le-mul_right, le_of_mul-le-mul_right, add-mul, zero-mul}
use lib.Dec.{T, ltb, eqb, ltb→lt, eqb→eq}
use lib.Ieee.{Float, nan, inf, fin, up, down, below, level, le}
use borrow.Author.Tests.{ltb-false, eq-eqb}
use lib.Ieee.Fits.{down_pos, and_l, and_r}
use Rattle.lists.proofs.Bools.{or_split}

-- what a number has above zero, and what below, in units of 1 / down e
unfoldable pub plus_of : Bool → ℕ → ℕ
plus_of s a = cond s 0 a

unfoldable pub minus_of : Bool → ℕ → ℕ
minus_of s a = cond s a 0

-- ±a ≤ ±b, over one denominator: what a has above and b below is at most what b has above and a below
pub ordered : (s : Bool) (a : ℕ) (t : Bool) (b : ℕ) → T (below s a t b || level s a t b) → plus_of s a + minus_of t b ≤ plus_of t b + minus_of s a
unfolding plus_of minus_of
ordered s a t b h = go s t (or_split (below s a t b) (level s a t b) h)
  where
    go : (s t : Bool) → T (below s a t b) ⊎ T (level s a t b) → plus_of s a + minus_of t b ≤ plus_of t b + minus_of s a
    go false false (inl u) = omega (arith, ltb→lt a b u)
    go false false (inr u) = omega (arith, eqb→eq a b (and_l (eqb a b) _ u))
    go false true (inl u) = absurd u
    go false true (inr u) = omega (arith, eqb→eq a b (and_l (eqb a b) _ u), eqb→eq a 0 (and_r (eqb a b) _ u))
    go true false u = omega arith
    go true true (inl u) = omega (arith, ltb→lt b a u)
    go true true (inr u) = omega (arith, eqb→eq a b (and_l (eqb a b) _ u))

pub tested : (s : Bool) (a : ℕ) (t : Bool) (b : ℕ) → plus_of s a + minus_of t b ≤ plus_of t b + minus_of s a → T (below s a t b || level s a t b)
unfolding plus_of minus_of
tested false a false b h = go (ltb a b) refl
  where
    go : (u : Bool) → ltb a b ≡ u → T (ltb a b || level false a false b)
    go true e = rw e tt
    go false e = let q : a ≡ b = omega (arith, ltb-false a b e) in rw (e, eq-eqb a b q) tt
tested false a true b h = let p : a ≡ 0 = omega arith in let q : a ≡ b = omega arith in rw (eq-eqb a b q, eq-eqb a 0 p) tt
tested true a false b h = go (ltb 0 (a + b)) refl
  where
    go : (u : Bool) → ltb 0 (a + b) ≡ u → T (ltb 0 (a + b) || level true a false b)
    go true e = rw e tt
    go false e = let z = ltb-false 0 (a + b) e in let p : a ≡ 0 = omega arith in let q : a ≡ b = omega arith in rw (e, eq-eqb a b q, eq-eqb a 0 p) tt
tested true a true b h = go (ltb b a) refl
  where
    go : (u : Bool) → ltb b a ≡ u → T (ltb b a || level true a true b)
    go true e = rw e tt
    go false e = let q : a ≡ b = omega (arith, ltb-false b a e) in rw (e, eq-eqb a b q) tt

-- p - n over c, three times: two orders make the third
trans_sizes : (p n c p' n' c' p'' n'' c'' : ℕ) → 0 < c' → p * c' + n' * c ≤ p' * c + n * c' → p' * c'' + n'' * c' ≤ p'' * c' + n' * c'' → p * c'' + n'' * c ≤ p'' * c + n * c''
trans_sizes p n c p' n' c' p'' n'' c'' pos h k =
    let h₁ : (p * c' + n' * c) * c'' ≤ (p' * c + n * c') * c'' = mul-le-mul_right c'' h in
    let k₁ : (p' * c'' + n'' * c') * c ≤ (p'' * c' + n' * c'') * c = mul-le-mul_right c k in
    let h₂ = simp add-mul at h₁ in
    let k₂ = simp add-mul at k₁ in
    le_of_mul-le-mul_right
    (simp add-mul
    (omega (
      arith,
      mul_right_comm p c' c'',
      mul_right_comm n' c c'',
      mul_right_comm p' c c'',
      mul_right_comm n c' c'',
      mul_right_comm n'' c' c,
      mul_right_comm p'' c' c,
    )))
    pos

pub plus_mul : (s : Bool) (a c : ℕ) → plus_of s (a * c) ≡ plus_of s a * c
unfolding plus_of
plus_mul true a c = sym (zero-mul c)
plus_mul false a c = refl

pub minus_mul : (s : Bool) (a c : ℕ) → minus_of s (a * c) ≡ minus_of s a * c
unfolding minus_of
minus_mul true a c = refl
minus_mul false a c = sym (zero-mul c)

pub le_trans : (x y z : Float) → T (le x y) → T (le y z) → T (le x z)
unfolding le
le_trans nan y z h k = absurd h
le_trans (inf s) nan z h k = absurd h
le_trans (inf s) (inf t) nan h k = absurd k
le_trans (inf true) (inf t) (inf true) h k = tt
le_trans (inf true) (inf t) (inf false) h k = tt
le_trans (inf false) (inf true) (inf u) h k = absurd h
le_trans (inf false) (inf false) (inf u) h k = k
le_trans (inf true) (inf t) (fin u m e) h k = tt
le_trans (inf false) (inf true) (fin u m e) h k = absurd h
le_trans (inf false) (inf false) (fin u m e) h k = absurd k
le_trans (inf s) (fin t n d) nan h k = absurd k
le_trans (inf true) (fin t n d) (inf true) h k = tt
le_trans (inf true) (fin t n d) (inf false) h k = tt
le_trans (inf false) (fin t n d) (inf u) h k = absurd h
le_trans (inf true) (fin t n d) (fin u l g) h k = tt
le_trans (inf false) (fin t n d) (fin u l g) h k = absurd h
le_trans (fin s m e) nan z h k = absurd h
le_trans (fin s m e) (inf t) nan h k = absurd k
le_trans (fin s m e) (inf true) (inf u) h k = absurd h
le_trans (fin s m e) (inf false) (inf true) h k = absurd k
le_trans (fin s m e) (inf false) (inf false) h k = tt
le_trans (fin s m e) (inf true) (fin u l g) h k = absurd h
le_trans (fin s m e) (inf false) (fin u l g) h k = absurd k
le_trans (fin s m e) (fin t n d) nan h k = absurd k
le_trans (fin s m e) (fin t n d) (inf u) h k = k
le_trans (fin s m e) (fin t n d) (fin u l g) h k = by_sizes s (m * up e) (down e) t (n * up d) (down d) u (l * up g) (down g) (down_pos d) h k
  where
    by_sizes : (s : Bool) (a c : ℕ) (t : Bool) (a' c' : ℕ) (u : Bool) (a'' c'' : ℕ) → 0 < c'
        → T (below s (a * c') t (a' * c) || level s (a * c') t (a' * c))
        → T (below t (a' * c'') u (a'' * c') || level t (a' * c'') u (a'' * c')) → T (below s (a * c'') u (a'' * c) || level s (a * c'') u (a'' * c))
    by_sizes s a c t a' c' u a'' c'' pos h k =
        tested s (a * c'') u (a'' * c)
        (simp (plus_mul, minus_mul)
        (trans_sizes (plus_of s a) (minus_of s a) c (plus_of t a') (minus_of t a') c' (plus_of u a'') (minus_of u a'') c'' pos
        (simp (plus_mul, minus_mul) at (ordered s (a * c') t (a' * c) h))
        (simp (plus_mul, minus_mul) at (ordered t (a' * c'') u (a'' * c') k))))
