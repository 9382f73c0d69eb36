-- A property of some element of a list, elements that differ; laws of these, of a property of every element and of a sum over the elements.
use Prim.Native.Nat.{ℕ, zero, suc, ◌+◌, ◌<◌}
use mathlib.Core.Path.{◌≡◌, refl}
use mathlib.Core.Logic.{◌⊎◌, inl, inr}
use mathlib.Core.List.{List, [], ◌∷◌, ◌++◌}
use native.Mathlib.Omega.{arith}
use lib.ListN.{length, take, drop, get_or, take-append-drop}
use Rattle.lists.specs.Lists.{each, concat_each}
use Rattle.lists.specs.Elements.{AllOf, none, also, total_of}

module _ {A : Type 0} where
  pub data AnyOf (P : A → Type 0) : List A → Type 0 where
    here : {x : A} {xs : List A} → P x → AnyOf P (x ∷ xs)
    there : {x : A} {xs : List A} → AnyOf P xs → AnyOf P (x ∷ xs)

  -- no element twice
  pub data Distinct : List A → Type 0 where
    empty : Distinct []
    new : {x : A} {xs : List A} → AllOf (λ y. x ≡ y → ⊥) xs → Distinct xs → Distinct (x ∷ xs)

  -- ---- every element

  pub all_map : {P Q : A → Type 0} {xs : List A} → ((x : A) → P x → Q x) → AllOf P xs → AllOf Q xs
  all_map f none = none
  all_map f (also {x = x} p a) = also (f x p) (all_map f a)

  pub all_zip : {P Q R : A → Type 0} {xs : List A} → ((x : A) → P x → Q x → R x) → AllOf P xs → AllOf Q xs → AllOf R xs
  all_zip f none none = none
  all_zip f (also {x = x} p a) (also q b) = also (f x p q) (all_zip f a b)

  pub all_get : {P : A → Type 0} {xs : List A} → AllOf P xs → (i : ℕ) (d : A) → i < length xs → P (get_or xs i d)
  all_get none i d h = absurd (omega arith)
  all_get (also p a) zero d h = p
  all_get (also p a) (suc i) d h = all_get a i d (omega arith)

  pub all_append : {P : A → Type 0} {xs ys : List A} → AllOf P xs → AllOf P ys → AllOf P (xs ++ ys)
  all_append none b = b
  all_append (also p a) b = also p (all_append a b)

  pub all_left : {P : A → Type 0} (xs ys : List A) → AllOf P (xs ++ ys) → AllOf P xs
  all_left [] ys a = none
  all_left (x ∷ xs) ys (also p a) = also p (all_left xs ys a)

  pub all_right : {P : A → Type 0} (xs : List A) {ys : List A} → AllOf P (xs ++ ys) → AllOf P ys
  all_right [] a = a
  all_right (x ∷ xs) (also p a) = all_right xs a

  pub all_take : {P : A → Type 0} (n : ℕ) (xs : List A) → AllOf P xs → AllOf P (take n xs)
  all_take {P} n xs a = all_left (take n xs) (drop n xs) (rw (take-append-drop n xs) a)

  pub all_drop : {P : A → Type 0} (n : ℕ) (xs : List A) → AllOf P xs → AllOf P (drop n xs)
  all_drop {P} n xs a = all_right (take n xs) (rw (take-append-drop n xs) a)

  -- ---- some element

  pub any_map : {P Q : A → Type 0} {xs : List A} → ((x : A) → P x → Q x) → AnyOf P xs → AnyOf Q xs
  any_map f (here {x = x} p) = here (f x p)
  any_map f (there a) = there (any_map f a)

  -- what some element and every element say together
  pub any_all : {P Q : A → Type 0} {R : Type 0} {xs : List A} → ((x : A) → P x → Q x → R) → AnyOf P xs → AllOf Q xs → R
  any_all f (here {x = x} p) (also q a) = f x p q
  any_all f (there b) (also q a) = any_all f b a

  pub any_left : {P : A → Type 0} {xs : List A} (ys : List A) → AnyOf P xs → AnyOf P (xs ++ ys)
  any_left ys (here p) = here p
  any_left ys (there a) = there (any_left ys a)

  pub any_right : {P : A → Type 0} (xs : List A) {ys : List A} → AnyOf P ys → AnyOf P (xs ++ ys)
  any_right [] a = a
  any_right (x ∷ xs) a = there (any_right xs a)

  pub any_append : {P : A → Type 0} (xs : List A) {ys : List A} → AnyOf P (xs ++ ys) → AnyOf P xs ⊎ AnyOf P ys
  any_append [] a = inr a
  any_append (x ∷ xs) (here p) = inl (here p)
  any_append {P} (x ∷ xs) {ys} (there a) = deeper (any_append xs a)
    where
      deeper : AnyOf P xs ⊎ AnyOf P ys → AnyOf P (x ∷ xs) ⊎ AnyOf P ys
      deeper (inl b) = inl (there b)
      deeper (inr b) = inr b

  -- ---- a sum over the elements

  pub total_append : (f : A → ℕ) (xs ys : List A) → total_of f (xs ++ ys) ≡ total_of f xs + total_of f ys
  unfolding total_of
  total_append f [] ys = omega arith
  total_append f (x ∷ xs) ys = omega (arith, total_append f xs ys)

  pub total_length : (xs : List A) → total_of (λ x. 1) xs ≡ length xs
  unfolding total_of
  total_length [] = refl
  total_length (x ∷ xs) = omega (arith, total_length xs)

module _ {A B : Type 0} {P : B → Type 0} {Q : A → Type 0} where
  pub all_each : (f : A → B) → ((x : A) → Q x → P (f x)) → {xs : List A} → AllOf Q xs → AllOf P (each f xs)
  unfolding each
  all_each f g none = none
  all_each f g (also {x = x} q a) = also (g x q) (all_each f g a)

  pub any_of_each : (f : A → B) → ((x : A) → P (f x) → Q x) → (xs : List A) → AnyOf P (each f xs) → AnyOf Q xs
  unfolding each
  any_of_each f g [] x = elim x [ ]
  any_of_each f g (x ∷ xs) (here p) = here (g x p)
  any_of_each f g (x ∷ xs) (there a) = there (any_of_each f g xs a)

  pub all_concat : (f : A → List B) → ((x : A) → Q x → AllOf P (f x)) → {xs : List A} → AllOf Q xs → AllOf P (concat_each f xs)
  unfolding concat_each
  all_concat f g none = none
  all_concat f g (also {x = x} q a) = all_append (g x q) (all_concat f g a)
