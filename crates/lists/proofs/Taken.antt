-- What was taken of a source are its first elements, as far as the limit; nothing is said of a source whose elements are not known.
use Prim.Native.Nat.{ℕ}
use mathlib.Core.Path.{◌≡◌}
use mathlib.Core.List.{List, [], ◌++◌}
use lib.ListN.{take}
use Rattle.std.proofs.Common.{None, Some, IfSome}
use Rattle.std.specs.Option.{option_map}
use Rattle.std.specs.declared.option.Option.{Option}

module _ {A : Type 0} where
  pub taken : (left whole : Option (List A)) (limit most : ℕ) (start xs : List A) → left ≡ whole → limit ≡ most → start ≡ []
      → IfSome (option_map (take limit) left) (λ ys. xs ≡ start ++ ys) → IfSome whole (λ ys. xs ≡ take most ys)
  taken None None limit most start xs e n s h = tt
  taken None (Some ys) limit most start xs e n s h = cc
  taken (Some ys) None limit most start xs e n s h = tt
  taken (Some ys) (Some zs) limit most start xs e n s h = cc
