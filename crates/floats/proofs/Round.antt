-- `round` keeps the order, whatever the signs: of two signed fractions the larger rounds to a value that is no smaller.
use Prim.Native.Nat.{ℕ, zero, suc, ◌+◌, ◌*◌, ◌^◌, ◌≤◌, ◌<◌}
use mathlib.Core.Path.{◌≡◌, refl, ap, sym, ◌∙◌, subst}
use mathlib.Core.Bool.{Bool, true, false, not, cond}
use native.Mathlib.Omega.{arith}
use native.Mathlib.Nat.{zero-mul, mul-pos, zero-lt-suc}
use lib.IntN.{pos}
use lib.Dec.{T, ltb}
use lib.Ieee.{Float, nan, inf, fin, Format, binary32, binary64, prec, emax, low, up, down, odd, units, round, neg, le, of_bits}
use lib.Ieee.Fits.{round_is}
use lib.Ieee.Order.{round_mono, kept, drop}
use lib.Ieee.Scale.{round_same}
use Rattle.floats.proofs.Order.{plus_of, minus_of, ordered, tested, le_trans}

-- ±a ≤ ±b
abbrev pub Le : Bool → ℕ → Bool → ℕ → Type 0
Le s a t b = plus_of s a + minus_of t b ≤ plus_of t b + minus_of s a

-- ---- the other sign
pub Le-neg : (s : Bool) (a : ℕ) (t : Bool) (b : ℕ) → Le s a t b → Le (not t) b (not s) a
unfolding plus_of minus_of
Le-neg false a false b h = omega arith
Le-neg false a true b h = omega arith
Le-neg true a false b h = omega arith
Le-neg true a true b h = omega arith

pub neg_le : (x y : Float) → T (le x y) → T (le (neg y) (neg x))
unfolding le neg
neg_le nan y h = absurd h
neg_le (inf s) nan h = absurd h
neg_le (inf true) (inf true) h = tt
neg_le (inf true) (inf false) h = tt
neg_le (inf false) (inf true) h = absurd h
neg_le (inf false) (inf false) h = tt
neg_le (inf true) (fin t n d) h = tt
neg_le (inf false) (fin t n d) h = absurd h
neg_le (fin s m e) nan h = absurd h
neg_le (fin s m e) (inf t) h = h
neg_le (fin s m e) (fin t n d) h =
    tested (not t) (n * up d * down e) (not s) (m * up e * down d) (Le-neg s (m * up e * down d) t (n * up d * down e) (ordered s (m * up e * down d) t (n * up d * down e) h))

odd_neg : (d q k l : ℕ) → odd d true q k l ≡ neg (odd d false q k l)
unfolding odd neg
odd_neg d zero k l = refl
odd_neg d (suc q) k l = refl

units_neg : (f : Format) (q k : ℕ) → units f true q k ≡ neg (units f false q k)
unfolding units neg
units_neg f q k = go (ltb (q * 2 ^ k) (2 ^ (low f + suc (emax f))))
  where
    go : (b : Bool) → cond b (odd (suc (prec f)) true q k (low f)) (inf true) ≡ neg (cond b (odd (suc (prec f)) false q k (low f)) (inf false))
    go true = odd_neg (suc (prec f)) q k (low f)
    go false = refl

pub round_neg : (f : Format) (a b : ℕ) → round f true a b ≡ neg (round f false a b)
round_neg f a b =
    round_is f true a b ∙ units_neg f (kept (prec f) (a * 2 ^ low f) b) (drop (prec f) (a * 2 ^ low f) b) ∙ ap neg (sym (round_is f false a b))

-- ---- zero, and the other names that it has
abbrev pub +0 : Float
+0 = fin false 0 (pos 0)

-- the literal 0.0
pub zero_bits : of_bits binary64 0 ≡ +0
unfolding of_bits
zero_bits = refl

round_zero_one : (f : Format) → round f false 0 1 ≡ +0
unfolding round
round_zero_one binary32 = refl
round_zero_one binary64 = refl

round_zero : (f : Format) (b : ℕ) → 0 < b → round f false 0 b ≡ +0
round_zero f b B = round_same f false 0 b 0 1 B (zero-lt-suc 0) (zero-mul 1 ∙ sym (zero-mul b)) ∙ round_zero_one f

round_not_below : (f : Format) (a b : ℕ) → 0 < b → T (le +0 (round f false a b))
round_not_below f a b B =
    subst (λ (z : Float). T (le z (round f false a b))) (round_zero_one f)
    (round_mono f 0 1 a b (zero-lt-suc 0) B (let z : 0 * b ≡ 0 = zero-mul b in omega arith))

zeros : T (le +0 (neg +0))
unfolding le neg
zeros = tt

zeros⁻ : T (le (neg +0) +0)
unfolding le neg
zeros⁻ = tt

zero_of : (a d : ℕ) → 0 < d → a * d ≡ 0 → a ≡ 0
zero_of zero d D e = refl
zero_of (suc a) d D e = let p = mul-pos {m = suc a} {n = d} (zero-lt-suc a) D in absurd (omega arith)

-- ---- the law
pub round_le : (f : Format) (s : Bool) (a b : ℕ) (t : Bool) (c d : ℕ) → 0 < b → 0 < d → Le s (a * d) t (c * b) → T (le (round f s a b) (round f t c d))
unfolding plus_of minus_of
round_le f false a b false c d B D h = round_mono f a b c d B D (omega arith)
round_le f true a b true c d B D h =
    rw (round_neg f a b, round_neg f c d) (neg_le (round f false c d) (round f false a b) (round_mono f c d a b D B (omega arith)))
round_le f true a b false c d B D h =
    rw (round_neg f a b)
    (le_trans (neg (round f false a b)) (neg +0) (round f false c d) (neg_le +0 (round f false a b) (round_not_below f a b B))
    (le_trans (neg +0) +0 (round f false c d) zeros⁻ (round_not_below f c d D)))
round_le f false a b true c d B D h =
    let p : a ≡ 0 = zero_of a d D (omega arith) in
    let q : c ≡ 0 = zero_of c b B (omega arith) in
    rw (p, q, round_neg f 0 d, round_zero f b B, round_zero f d D) zeros
