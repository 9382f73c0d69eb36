-- Whether a number is a product, found by division.
use Prim.Native.Nat.{ℕ, ◌*◌, ◌/◌, ◌%◌}
use mathlib.Core.Path.{◌≡◌, refl, sym, ap, ◌∙◌}
use mathlib.Core.Bool.{Bool, true, false}
use native.Mathlib.Omega.{arith}
use native.Mathlib.Nat.{div-add-mod, mul-mod_right, mul-div_cancel_left, zero-mul}
use lib.Dec.{eqb}
use borrow.Author.Tests.{eqb-true, eqb-false, eq-eqb, ne_eqb}

module _ (n a b : ℕ) where
  pub product_of_none : a ≡ 0 → eqb n 0 ≡ eqb n (a * b)
  product_of_none e = ap (eqb n) (sym (ap (λ x. x * b) e ∙ zero-mul b))

  pub product_with_rest : (n % a ≡ 0 → ⊥) → false ≡ eqb n (a * b)
  product_with_rest h = sym (ne_eqb n (a * b) (λ e. h (ap (λ x. x % a) e ∙ mul-mod_right a b)))

  pub product_by_quotient : (a ≡ 0 → ⊥) → n % a ≡ 0 → eqb (n / a) b ≡ eqb n (a * b)
  product_by_quotient h r = go (eqb (n / a) b) refl
    where
      whole_quotient : a * (n / a) ≡ n
      whole_quotient = omega (arith, div-add-mod n a)

      go : (t : Bool) → eqb (n / a) b ≡ t → eqb (n / a) b ≡ eqb n (a * b)
      go true e = e ∙ sym (eq-eqb n (a * b) (sym whole_quotient ∙ ap (λ x. a * x) (eqb-true (n / a) b e)))
      go false e = e ∙ sym (ne_eqb n (a * b) (λ p. eqb-false (n / a) b e (ap (λ x. x / a) p ∙ mul-div_cancel_left b (omega (arith, h)))))
