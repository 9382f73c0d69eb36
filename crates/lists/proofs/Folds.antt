-- A fold from the left, the form of a loop that carries a state over a slice; and a function applied to each element.
use mathlib.Core.Path.{◌≡◌, refl, sym, ap, ◌∙◌}
use mathlib.Core.List.{List, [], ◌∷◌, ◌++◌, append_assoc, append-nil}
use Prim.Native.Nat.{ℕ, suc, ◌+◌, ◌<◌}
use native.Mathlib.Numerals.{add-one}
use lib.ListN.{length, take, drop, get_or}
use lib.Seq.{take-suc, take-add}
use Rattle.lists.specs.Lists.{fold, each, concat_each}

module _ {A S : Type 0} (f : S → A → S) where
  pub fold_append : (s : S) (xs ys : List A) → fold f s (xs ++ ys) ≡ fold f (fold f s xs) ys
  unfolding fold
  fold_append s [] ys = refl
  fold_append s (x ∷ xs) ys = fold_append (f s x) xs ys

  -- a state that has taken the elements before a place takes some more, or one
  pub fold_more : (s : S) (xs : List A) (at n : ℕ) → fold f (fold f s (take at xs)) (take n (drop at xs)) ≡ fold f s (take (at + n) xs)
  fold_more s xs at n = rw (take-add at n xs) (sym (fold_append s (take at xs) (take n (drop at xs))))

  pub fold_next : (s : S) (xs : List A) (i : ℕ) (d : A) → i < length xs → f (fold f s (take i xs)) (get_or xs i d) ≡ fold f s (take (i + 1) xs)
  unfolding fold
  fold_next s xs i d h = rw (add-one i, take-suc xs i d h) (sym (fold_append s (take i xs) (get_or xs i d ∷ [])))

module _ {A B : Type 0} (f : A → B) where
  pub length_each : (xs : List A) → length (each f xs) ≡ length xs
  unfolding each
  length_each [] = refl
  length_each (x ∷ xs) = ap suc (length_each xs)

  pub each_append : (xs ys : List A) → each f (xs ++ ys) ≡ each f xs ++ each f ys
  unfolding each
  each_append [] ys = refl
  each_append (x ∷ xs) ys = ap {B = List B} (λ l. f x ∷ l) (each_append xs ys)

module _ {A B : Type 0} (f : A → List B) where
  pub concat_append : (xs ys : List A) → concat_each f (xs ++ ys) ≡ concat_each f xs ++ concat_each f ys
  unfolding concat_each
  concat_append [] ys = refl
  concat_append (x ∷ xs) ys = ap (λ (l : List B). f x ++ l) (concat_append xs ys) ∙ sym (append_assoc (f x) (concat_each f xs) (concat_each f ys))

  pub concat_snoc : (xs : List A) (x : A) → concat_each f (xs ++ x ∷ []) ≡ concat_each f xs ++ f x
  unfolding concat_each
  concat_snoc xs x = concat_append xs (x ∷ []) ∙ ap (λ (l : List B). concat_each f xs ++ l) (append-nil (f x))

  pub concat_more : (xs : List A) (i : ℕ) (d : A) → i < length xs → concat_each f (take (i + 1) xs) ≡ concat_each f (take i xs) ++ f (get_or xs i d)
  concat_more xs i d h = rw (add-one i, take-suc xs i d h) (concat_snoc (take i xs) (get_or xs i d))
