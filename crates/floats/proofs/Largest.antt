-- No finite value of a format is above its largest, which is 2 ^ prec - 1 with the highest exponent.
use Prim.Native.Nat.{ℕ, suc, ◌+◌, ◌-◌, ◌*◌, ◌^◌, ◌≤◌, ◌<◌}
use mathlib.Core.Path.{◌≡◌, ap, sym, ◌∙◌, subst}
use mathlib.Core.Bool.{Bool, true, false}
use native.Mathlib.Omega.{arith}
use native.Mathlib.Decide.{dec_le}
use native.Mathlib.Nat.{le_trans, mul-one, mul_assoc, mul-le-mul, mul-le-mul_left, mul-le-mul_right, mul-pos, lt_of_mul-lt-mul_right}
use lib.IntN.{ℤ, pos, negsuc}
use lib.Dec.{T}
use lib.Pow.{pow-add, pow_pos, pow_mono, le_ones}
use lib.Ieee.{Float, nan, inf, fin, Format, prec, emax, up, down, le, fits}
use lib.Ieee.Fits.{reach}
use Rattle.floats.specs.Binary.{finite}
use Rattle.floats.proofs.Order.{plus_of, minus_of}
use Rattle.floats.proofs.Total.{sizes_le}
use Rattle.floats.proofs.Own.{fitting}

abbrev pub largest : Format → Float
largest f = fin false (2 ^ prec f - 1) (pos (suc (emax f) - prec f))

-- with p digits and q binary places below the top
most_digits_lem : (m p q k : ℕ) → m < 2 ^ p → m * 2 ^ k < 2 ^ (p + q) → m * 2 ^ k ≤ (2 ^ p - 1) * 2 ^ q
most_digits_lem m p q k h l = elim (dec_le k q) [
  | yes g ↦ mul-le-mul (le_ones p h) (pow_mono g)
  | no g ↦
      let j = k - q in
      let i : j + q ≡ k = omega arith in
      let e : m * 2 ^ k ≡ m * 2 ^ j * 2 ^ q = ap (λ (z : ℕ). m * 2 ^ z) (sym i) ∙ ap (λ (z : ℕ). m * z) (pow-add 2 j q) ∙ sym (mul_assoc m (2 ^ j) (2 ^ q)) in
      let b : m * 2 ^ j * 2 ^ q < 2 ^ p * 2 ^ q = rw (e, pow-add 2 p q) at l in
      rw e (mul-le-mul_right (2 ^ q) (le_ones p (lt_of_mul-lt-mul_right (2 ^ q) b)))
]

at_least : (a b : ℕ) → 0 < b → a ≤ a * b
at_least a b B = subst (λ (z : ℕ). z ≤ a * b) (mul-one a) (mul-le-mul_left a B)

sizes : (f : Format) (s : Bool) (m : ℕ) (e : ℤ) → T (fits f (fin s m e)) → m * up e * 1 ≤ (2 ^ prec f - 1) * 2 ^ (suc (emax f) - prec f) * down e
sizes f s m (pos k) F =
    let w = fitting f s m (pos k) F in
    let p = prec f in
    let q = suc (emax f) - prec f in
    let i : p + q ≡ suc (emax f) = omega (arith, reach f) in
    let u : m * 2 ^ k < 2 ^ (p + q) = rw i (rw (mul-one (2 ^ suc (emax f))) at w.below_top) in
    rw (mul-one (m * 2 ^ k), mul-one ((2 ^ p - 1) * 2 ^ q)) (most_digits_lem m p q k w.digits u)
sizes f s m (negsuc k) F =
    let w = fitting f s m (negsuc k) F in
    let p = prec f in
    let q = suc (emax f) - prec f in
    rw (mul-one m, mul-one m, mul_assoc (2 ^ p - 1) (2 ^ q) (2 ^ suc k))
    (le_trans (le_ones p w.digits) (at_least (2 ^ p - 1) (2 ^ q * 2 ^ suc k) (mul-pos (pow_pos q) (pow_pos (suc k)))))

pub le_largest : (f : Format) (x : Float) → T (fits f x) → T (finite x) → T (le x (largest f))
unfolding plus_of minus_of finite
le_largest f nan F X = absurd X
le_largest f (inf s) F X = absurd X
le_largest f (fin true m e) F X = sizes_le true m e false (2 ^ prec f - 1) (pos (suc (emax f) - prec f)) (omega arith)
le_largest f (fin false m e) F X = sizes_le false m e false (2 ^ prec f - 1) (pos (suc (emax f) - prec f)) (omega (arith, sizes f false m e F))
