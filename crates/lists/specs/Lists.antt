-- Operations on lists.
use Rattle.std.specs.Prelude.{ℕ, zero, suc, Bool, cond, List, [], ◌∷◌, ◌++◌, take, drop}

module _ {A : Type 0} where
  -- from the left: f (.. (f (f s x₀) x₁) ..) xₙ
  unfoldable pub fold : {S : Type 0} → (S → A → S) → S → List A → S
  fold f s [] = s
  fold f s (x ∷ xs) = fold f (f s x) xs

  -- f of each element
  unfoldable pub each : {B : Type 0} → (A → B) → List A → List B
  each f [] = []
  each f (x ∷ xs) = f x ∷ each f xs

  -- the lists that f gives of the elements, joined
  unfoldable pub concat_each : {B : Type 0} → (A → List B) → List A → List B
  concat_each f [] = []
  concat_each f (x ∷ xs) = f x ++ concat_each f xs

  -- the elements that pass a test, in their order
  unfoldable pub filter : (A → Bool) → List A → List A
  filter p [] = []
  filter p (x ∷ xs) = let rest = filter p xs in cond (p x) (x ∷ rest) rest

  -- x put before the first element that it is at or before, by a test "at or before"
  unfoldable pub insert : (A → A → Bool) → A → List A → List A
  insert before x [] = x ∷ []
  insert before x (y ∷ ys) = let later = y ∷ insert before x ys in cond (before x y) (x ∷ y ∷ ys) later

  -- sorted by such a test; of elements at or before each other the earlier stays first
  unfoldable pub sort : (A → A → Bool) → List A → List A
  sort before [] = []
  sort before (x ∷ xs) = insert before x (sort before xs)

  -- pieces of n elements each, the last one shorter; at most fuel of them
  unfoldable pub pieces : ℕ → ℕ → List A → List (List A)
  pieces zero n xs = []
  pieces (suc fuel) n [] = []
  pieces (suc fuel) n (x ∷ xs) = take n (x ∷ xs) ∷ pieces fuel n (drop n (x ∷ xs))

-- opens all of the above, for facts that are computed
unfoldable pub open_lists : Unit {0}
unfolding fold each concat_each filter insert sort pieces
open_lists = tt
