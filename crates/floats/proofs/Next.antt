-- `next_up` is the library's, which goes by the bits of its argument; and a law for each case of those bits, none of which makes a NaN's pattern.
use Prim.Native.Nat.{ℕ, zero, suc, ◌+◌, ◌-◌, ◌*◌, ◌/◌, ◌%◌, ◌≤◌, ◌<◌}
use mathlib.Core.Path.{◌≡◌, refl, sym, ap, ◌∙◌, subst}
use mathlib.Core.Bool.{Bool, true, false, not, cond, true≢false}
use native.Mathlib.Omega.{arith}
use native.Mathlib.Nat.{zero-mul, mul-one, mul-pos, zero-lt-suc, mod-eq_of_lt, mod-eq-sub-mod}
use lib.IntN.{ℤ, pos}
use lib.Dec.{T, leb, eqb, nltb→le}
use lib.Ieee.{Float, nan, inf, fin, Format, binary64, prec, low, hid, ones, top, up, down, odd, fits, is_nan, eq, ne, of_fields, of_bits, to_bits, nan_bits}
use lib.Ieee.Bits.{of_bits-to_bits, to_bits-lt, nan_bits_is, nan_bits_above}
use lib.Ieee.Compare.{differs_from_itself}
use lib.Ieee.Fits.{up_pos}
use borrow.Author.Tests.{le-ltb, le-leb, lt-leb}
use Rattle.std.specs.Float as Library
use Rattle.std.proofs.lemmas.Bool.{ne_eqb}
use Rattle.std.proofs.lemmas.Bool.Decides.{nat_tests}
use Rattle.lists.proofs.Bools.{of_true, not_both, cond_true, cond_false}
use Rattle.floats.specs.Binary.{open_floats, finite, next_bits, next_up}
use Rattle.floats.proofs.Absolute.{zero_exponent}

-- ---- a value's sign is its first bit

abbrev Signed : Bool → Float → Type 0
Signed s nan = Unit {0}
Signed s (inf t) = t ≡ s
Signed s (fin t m e) = t ≡ s

odd_signed : (d : ℕ) (s : Bool) (q k l : ℕ) → Signed s (odd d s q k l)
unfolding odd
odd_signed d s zero k l = refl
odd_signed d s (suc q) k l = refl

fields_signed : (f : Format) (s : Bool) (x t : ℕ) → Signed s (of_fields f s x t)
unfolding of_fields
fields_signed f s zero t = odd_signed (prec f) s t 0 (low f)
fields_signed f s (suc x) t = go (eqb (suc x) (ones f)) (eqb t 0)
  where
    go : (a b : Bool) → Signed s (cond a (cond b (inf s) nan) (odd (prec f) s (hid f + t) x (low f)))
    go true true = refl
    go true false = tt
    go false b = odd_signed (prec f) s (hid f + t) x (low f)

bits_signed : (f : Format) (b : ℕ) → Signed (leb (top f) b) (of_bits f b)
unfolding of_bits
bits_signed f b = fields_signed f (leb (top f) b) (b % top f / hid f) (b % hid f)

value_signed : (x : Float) → T (fits binary64 x) → Signed (leb 0x8000000000000000 (to_bits binary64 x)) x
value_signed x F = subst (λ (y : Float). Signed (leb 0x8000000000000000 (to_bits binary64 x)) y) (of_bits-to_bits binary64 x F) (bits_signed binary64 (to_bits binary64 x))

-- ---- zero

not_zero : (s : Bool) (m : ℕ) (e : ℤ) → eq (fin s (suc m) e) (of_bits binary64 0) ≡ false
unfolding eq of_bits
not_zero s m e =
    rw (ne_eqb (suc m * up e * 1) (0 * down e) (λ z. omega (arith, z, zero-mul (down e), mul-one (suc m * up e), mul-pos (zero-lt-suc m) (up_pos e))))

-- ---- the library's branches

chosen : (x : Float) (b : ℕ) → (b ≡ 0x7ff0000000000000 → ⊥) → (b % 0x8000000000000000 ≡ 0 → ⊥)
    → Library.next_up_by_bits binary64 x b ≡ of_bits binary64 (next_bits (leb 0x8000000000000000 b) b)
unfolding next_bits
chosen x b i z = grind (arith, nat_tests)

module _ (s : Bool) (m : ℕ) (e : ℤ) (F : T (fits binary64 (fin s (suc m) e))) where
  value : of_bits binary64 (to_bits binary64 (fin s (suc m) e)) ≡ fin s (suc m) e
  value = of_bits-to_bits binary64 (fin s (suc m) e) F

  not_infinite : to_bits binary64 (fin s (suc m) e) ≡ 0x7ff0000000000000 → ⊥
  unfolding finite of_bits
  not_infinite h = true≢false (ap finite (sym value ∙ ap (of_bits binary64) h))

  not_level : (n : ℕ) → eq (of_bits binary64 n) (of_bits binary64 0) ≡ true → to_bits binary64 (fin s (suc m) e) ≡ n → ⊥
  not_level n z h =
      let at : of_bits binary64 n ≡ fin s (suc m) e = ap (of_bits binary64) (sym h) ∙ value in
      not_both (eq (fin s (suc m) e) (of_bits binary64 0)) (rw at at z) (not_zero s m e)

  not_zeros : to_bits binary64 (fin s (suc m) e) % 0x8000000000000000 ≡ 0 → ⊥
  unfolding eq of_bits
  not_zeros h =
      let low_zero = not_level 0 refl in
      let high_zero = not_level 0x8000000000000000 refl in
      let l = to_bits-lt binary64 (fin s (suc m) e) F in
      omega arith

zero_next : (s : Bool) → Library.next_up binary64 (fin s 0 (pos 0)) ≡ next_up (fin s 0 (pos 0))
unfolding open_floats is_nan
zero_next true = refl
zero_next false = refl

pub next_is : (x : Float) → T (fits binary64 x) → Library.next_up binary64 x ≡ next_up x
unfolding next_up is_nan to_bits next_bits
next_is nan F = refl
next_is (inf true) F = refl
next_is (inf false) F = refl
next_is (fin s zero e) F = rw (zero_exponent s e F) (zero_next s)
next_is (fin s (suc m) e) F =
    let b = to_bits binary64 (fin s (suc m) e) in
    chosen (fin s (suc m) e) b (not_infinite s m e F) (not_zeros s m e F)
    ∙ ap (λ t. of_bits binary64 (next_bits t b)) (sym (value_signed (fin s (suc m) e) F))
    ∙ sym (cond_false (eq (fin s (suc m) e) (of_bits binary64 0)) (of_bits binary64 1) _ (not_zero s m e))

-- ---- patterns

-- a pattern up to that of the infinity is no NaN's, with the sign's bit or without
no_nan : (n : ℕ) → n ≤ 0x7ff0000000000000 → T (not (nan_bits binary64 n))
no_nan n h = let m : n % 0x8000000000000000 ≡ n = mod-eq_of_lt (omega arith) in rw (nan_bits_above binary64 n, m, le-ltb 0x7ff0000000000000 n h) tt

signed_rest : (n : ℕ) → 0x8000000000000000 ≤ n → n < 0x10000000000000000 → n % 0x8000000000000000 ≡ n - 0x8000000000000000
signed_rest n h l = mod-eq-sub-mod h ∙ mod-eq_of_lt (omega arith)

no_nan_signed : (n : ℕ) → 0x8000000000000000 ≤ n → n ≤ 0xfff0000000000000 → T (not (nan_bits binary64 n))
no_nan_signed n h k =
    rw (nan_bits_above binary64 n, signed_rest n h (omega arith), le-ltb 0x7ff0000000000000 (n - 0x8000000000000000) (omega arith)) tt

-- ---- by the bits, a case for each branch that code without the library has

pub next_nan : (x : Float) → ne x x ≡ true → next_up x ≡ x
unfolding next_up
next_nan x h = rw (differs_from_itself x (of_true (ne x x) h))

pub no_nan_of : (x : Float) → ne x x ≡ false → T (not (is_nan x))
unfolding ne is_nan
no_nan_of nan h = absurd (true≢false h)
no_nan_of (inf s) h = tt
no_nan_of (fin s m e) h = tt

zero_finite : (x : Float) → T (not (finite x)) → eq x (of_bits binary64 0) ≡ true → ⊥
unfolding finite eq of_bits
zero_finite nan n h = true≢false (sym h)
zero_finite (inf s) n h = true≢false (sym h)
zero_finite (fin s m e) n h = n

pub next_zero : (x : Float) → eq x (of_bits binary64 0) ≡ true → next_up x ≡ of_bits binary64 1
unfolding next_up finite
next_zero nan h = absurd (zero_finite nan tt h)
next_zero (inf s) h = absurd (zero_finite (inf s) tt h)
next_zero (fin s m e) h = cond_true (eq (fin s m e) (of_bits binary64 0)) (of_bits binary64 1) _ h

infinite_bits : of_bits binary64 0x7ff0000000000000 ≡ inf false
unfolding of_bits
infinite_bits = refl

pub next_infinite : (x : Float) → T (fits binary64 x) → to_bits binary64 x ≡ 0x7ff0000000000000 → next_up x ≡ x
unfolding next_up
next_infinite x F h =
    let e : x ≡ inf false = sym (of_bits-to_bits binary64 x F) ∙ ap (of_bits binary64) h ∙ infinite_bits in
    rw e

-- the sign's bit is clear, or set
clear : (x : Float) → T (fits binary64 x) → to_bits binary64 x < 0x8000000000000000 → Signed false x
clear x F b = subst (λ (s : Bool). Signed s x) (lt-leb 0x8000000000000000 (to_bits binary64 x) b) (value_signed x F)

set : (x : Float) → T (fits binary64 x) → 0x8000000000000000 ≤ to_bits binary64 x → Signed true x
set x F b = subst (λ (s : Bool). Signed s x) (le-leb 0x8000000000000000 (to_bits binary64 x) b) (value_signed x F)

pub next_above : (x : Float) → T (fits binary64 x) → T (not (is_nan x)) → (to_bits binary64 x ≡ 0x7ff0000000000000 → ⊥) → eq x (of_bits binary64 0) ≡ false
    → to_bits binary64 x < 0x8000000000000000 → next_up x ≡ of_bits binary64 (to_bits binary64 x + 1)
unfolding next_up next_bits is_nan
next_above nan F n i z b = absurd n
next_above (inf true) F n i z b = absurd (true≢false (clear (inf true) F b))
next_above (inf false) F n i z b = absurd (i (unfold to_bits in refl))
next_above (fin true m e) F n i z b = absurd (true≢false (clear (fin true m e) F b))
next_above (fin false m e) F n i z b = cond_false (eq (fin false m e) (of_bits binary64 0)) (of_bits binary64 1) _ z

pub next_below : (x : Float) → T (fits binary64 x) → T (not (is_nan x)) → eq x (of_bits binary64 0) ≡ false → 0x8000000000000000 ≤ to_bits binary64 x
    → next_up x ≡ of_bits binary64 (to_bits binary64 x - 1)
unfolding next_up next_bits is_nan
next_below nan F n z b = absurd n
next_below (inf true) F n z b = refl
next_below (inf false) F n z b = absurd (true≢false (sym (set (inf false) F b)))
next_below (fin true m e) F n z b = cond_false (eq (fin true m e) (of_bits binary64 0)) (of_bits binary64 1) _ z
next_below (fin false m e) F n z b = absurd (true≢false (sym (set (fin false m e) F b)))

-- ---- no branch makes a NaN's pattern

module _ (x : Float) (F : T (fits binary64 x)) (n : T (not (is_nan x))) where
  -- what is left of its pattern without the sign's bit
  rest : to_bits binary64 x % 0x8000000000000000 ≤ 0x7ff0000000000000
  rest =
      let b = to_bits binary64 x in
      let e : nan_bits binary64 b ≡ is_nan x = nan_bits_is binary64 b ∙ ap is_nan (of_bits-to_bits binary64 x F) in
      nltb→le 0x7ff0000000000000 (b % 0x8000000000000000) (subst (λ (t : Bool). T (not t)) (sym e ∙ nan_bits_above binary64 b) n)

  pub above_no_nan : (to_bits binary64 x ≡ 0x7ff0000000000000 → ⊥) → to_bits binary64 x < 0x8000000000000000 → T (not (nan_bits binary64 (to_bits binary64 x + 1)))
  above_no_nan i b =
      let m : to_bits binary64 x % 0x8000000000000000 ≡ to_bits binary64 x = mod-eq_of_lt b in
      no_nan (to_bits binary64 x + 1) (omega (arith, rest))

  pub below_no_nan : eq x (of_bits binary64 0) ≡ false → 0x8000000000000000 ≤ to_bits binary64 x → T (not (nan_bits binary64 (to_bits binary64 x - 1)))
  below_no_nan z b =
      let l : to_bits binary64 x < 0x10000000000000000 = to_bits-lt binary64 x F in
      let m = signed_rest (to_bits binary64 x) b l in
      no_nan_signed (to_bits binary64 x - 1) (omega (arith, not_least)) (omega (arith, rest))
    where
      minus_zero : eq (of_bits binary64 0x8000000000000000) (of_bits binary64 0) ≡ true
      minus_zero = unfold eq of_bits in refl

      not_least : to_bits binary64 x ≡ 0x8000000000000000 → ⊥
      not_least h =
          let e : x ≡ of_bits binary64 0x8000000000000000 = sym (of_bits-to_bits binary64 x F) ∙ ap (of_bits binary64) h in
          not_both (eq x (of_bits binary64 0)) (rw e minus_zero) z
