-- A property of every element of a list, and a sum over its elements.
use Rattle.std.specs.Prelude.{ℕ, ◌+◌, List, [], ◌∷◌}

module _ {A : Type 0} where
  -- P of each element
  pub data AllOf (P : A → Type 0) : List A → Type 0 where
    none : AllOf P []
    also : {x : A} {xs : List A} → P x → AllOf P xs → AllOf P (x ∷ xs)

  -- f x₀ + f x₁ + ..
  unfoldable pub total_of : (A → ℕ) → List A → ℕ
  total_of f [] = 0
  total_of f (x ∷ xs) = f x + total_of f xs
