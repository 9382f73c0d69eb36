-- General laws of lists and tests: a buffer wholly overwritten, four elements appended, three tests in turn.
use Prim.Native.Nat.{ℕ, ◌+◌, ◌*◌, ◌≤◌, ◌<◌}
use mathlib.Core.Path.{◌≡◌, refl, sym, ap, ◌∙◌}
use mathlib.Core.Bool.{Bool, true, false, ◌&&◌}
use mathlib.Core.List.{List, [], ◌∷◌, ◌++◌, append-nil, append_assoc}
use native.Mathlib.Omega.{arith}
use native.Mathlib.Nat.{le_of_eq, min-eq_left}
use lib.ListN.{length, take, drop, length-take, take-append-drop, set, length-append, drop_of_length-le}
use Rattle.lists.specs.Front.{tabulate, onto, over}
use Rattle.lists.specs.Lists.{concat_each}
use Rattle.lists.proofs.Fronts.{onto_step}

module _ {A : Type 0} where
  pub over_whole : (f : ℕ → A) (n : ℕ) (l : List A) → length l ≡ n → over f n l ≡ tabulate f n
  unfolding over
  over_whole f n l e = rw (drop_of_length-le l (le_of_eq e)) (append-nil (tabulate f n))

  pub onto_whole : (xs l : List A) → length l ≡ length xs → onto xs l ≡ xs
  unfolding onto
  onto_whole xs l e = rw (drop_of_length-le l (le_of_eq e)) (append-nil xs)

  pub onto_taken : (n : ℕ) (l : List A) → n ≤ length l → onto (take n l) l ≡ l
  unfolding onto
  onto_taken n l h = let long : length (take n l) ≡ n = length-take n l ∙ min-eq_left h in rw long (take-append-drop n l)

  -- four stores one after the other append four elements
  pub onto_four : (xs l s : List A) (a b c d : A) (n : ℕ) → s ≡ onto xs l → n ≡ length xs → n + 3 < length l
      → set (set (set (set s n a) (n + 1) b) (n + 2) c) (n + 3) d ≡ onto (xs ++ a ∷ b ∷ c ∷ d ∷ []) l
  onto_four xs l s a b c d n e k h =
      let one = onto_step xs (xs ++ a ∷ []) l s a n e k (omega arith) refl in
      let l1 : length (xs ++ a ∷ []) ≡ length xs + 1 = length-append xs (a ∷ []) in
      let two = onto_step (xs ++ a ∷ []) (xs ++ a ∷ b ∷ []) l (set s n a) b (n + 1) one (omega arith) (omega arith) (sym (append_assoc xs (a ∷ []) (b ∷ []))) in
      let l2 : length (xs ++ a ∷ b ∷ []) ≡ length xs + 2 = length-append xs (a ∷ b ∷ []) in
      let three = onto_step (xs ++ a ∷ b ∷ []) (xs ++ a ∷ b ∷ c ∷ []) l _ c (n + 2) two (omega arith) (omega arith) (sym (append_assoc xs (a ∷ b ∷ []) (c ∷ []))) in
      let l3 : length (xs ++ a ∷ b ∷ c ∷ []) ≡ length xs + 3 = length-append xs (a ∷ b ∷ c ∷ []) in
      onto_step (xs ++ a ∷ b ∷ c ∷ []) (xs ++ a ∷ b ∷ c ∷ d ∷ []) l _ d (n + 3) three (omega arith) (omega arith) (sym (append_assoc xs (a ∷ b ∷ c ∷ []) (d ∷ [])))

  -- and stand in place of the four that were there
  pub set_four : (s : List A) (a b c d : A) (n : ℕ) → n + 3 < length s → set (set (set (set s n a) (n + 1) b) (n + 2) c) (n + 3) d ≡ take n s ++ a ∷ b ∷ c ∷ d ∷ [] ++ drop (n + 4) s
  unfolding onto
  set_four s a b c d n h =
      let front : length (take n s) ≡ n = length-take n s ∙ min-eq_left (omega arith) in
      let long : length (take n s ++ a ∷ b ∷ c ∷ d ∷ []) ≡ n + 4 = length-append (take n s) (a ∷ b ∷ c ∷ d ∷ []) ∙ ap (λ k. k + 4) front in
      onto_four (take n s) s s a b c d n (sym (onto_taken n s (omega arith))) (sym front) h ∙ ap (λ k. take n s ++ a ∷ b ∷ c ∷ d ∷ [] ++ drop k s) long

  -- four elements of each
  pub length_fours : {B : Type 0} (f : A → List B) → ((x : A) → length (f x) ≡ 4) → (xs : List A) → length (concat_each f xs) ≡ 4 * length xs
  unfolding concat_each
  length_fours f h [] = omega arith
  length_fours f h (x ∷ xs) = let rest = length_fours f h xs in let here = h x in rw (length-append (f x) (concat_each f xs), here, rest) (omega arith)

pub first_no_lem : (a b c : Bool) → a ≡ false → false ≡ (a && b && c)
first_no_lem a b c e = rw e

pub second_no : (a b c : Bool) → b ≡ false → false ≡ (a && b && c)
second_no true b c e = rw e
second_no false b c e = refl

pub last_left : (a b c r : Bool) → a ≡ true → b ≡ true → r ≡ c → r ≡ (a && b && c)
last_left a b c r e f g = rw (e, f, g)
