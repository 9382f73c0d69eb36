-- A list by its elements, and a buffer whose front is overwritten: the forms of loops that fill a buffer and that append to one.
use mathlib.Core.Path.{◌≡◌, refl, sym, ap, ◌∙◌}
use mathlib.Core.List.{List, [], ◌∷◌, ◌++◌}
use mathlib.Core.Logic.{inl, inr}
use Prim.Native.Nat.{ℕ, zero, suc, ◌+◌, ◌≤◌, ◌<◌}
use native.Mathlib.Nat.{add-zero, eq-or-lt_of_le, le_of_suc-le-suc}
use native.Mathlib.Numerals.{add-one}
use native.Mathlib.Omega.{arith}
use lib.ListN.{length, take, drop, get_or, set, length-append, length-drop, get_or-append}
use lib.Seq.{drop-cons, set_at, get_or_at, take_at, drop-append-add, drop-drop, append_snoc}
use Rattle.lists.specs.Front.{tabulate, onto, over}

module _ {A : Type 0} where
  -- ---- a list by its elements

  pub length_tabulate : (f : ℕ → A) (n : ℕ) → length (tabulate f n) ≡ n
  unfolding tabulate
  length_tabulate f zero = refl
  length_tabulate f (suc n) = length-append (tabulate f n) (f n ∷ []) ∙ ap (λ (k : ℕ). k + 1) (length_tabulate f n) ∙ add-one n

  pub tabulate_more : (f : ℕ → A) (n : ℕ) → tabulate f (n + 1) ≡ tabulate f n ++ f n ∷ []
  unfolding tabulate
  tabulate_more f n = rw (add-one n)

  pub get_d_tabulate : (f : ℕ → A) (n i : ℕ) (d : A) → i < n → get_or (tabulate f n) i d ≡ f i
  unfolding tabulate
  get_d_tabulate f zero i d h = absurd (omega arith)
  get_d_tabulate f (suc n) i d h =
      elim (eq-or-lt_of_le (le_of_suc-le-suc h)) [
        | inl e ↦ rw e (get_or_at (tabulate f n) (f n) [] d n (length_tabulate f n))
        | inr l ↦ get_or-append (tabulate f n) (f n ∷ []) d i (rw length_tabulate l) ∙ get_d_tabulate f n i d l
      ]

  -- ---- a list over a buffer's front

  pub length_onto : (xs l : List A) → length xs ≤ length l → length (onto xs l) ≡ length l
  unfolding onto
  length_onto xs l h = simp (length-append, length-drop) (omega arith)

  -- the front, read back
  pub take_onto : (xs l s : List A) (n : ℕ) → length xs ≡ n → s ≡ onto xs l → take n s ≡ xs
  unfolding onto
  take_onto xs l s n e h = rw h (take_at xs (drop (length xs) l) n e)

  -- one element more
  pub onto_snoc : (xs l : List A) (v : A) (n : ℕ) → n ≡ length xs → n < length l → set (onto xs l) n v ≡ onto (xs ++ v ∷ []) l
  unfolding onto
  onto_snoc xs l v n e h =
      let h' : length xs < length l = omega arith in
      rw (length-append, add-one, drop-cons l (length xs) v)
      (set_at xs (get_or l (length xs) v) (drop (suc (length xs)) l) v n (sym e) ∙ sym (append_snoc xs v (drop (suc (length xs)) l)))

  -- the step of a loop that appends an element at a time
  pub onto_step : (xs ys l s : List A) (v : A) (n : ℕ) → s ≡ onto xs l → n ≡ length xs → n < length l → ys ≡ xs ++ v ∷ [] → set s n v ≡ onto ys l
  onto_step xs ys l s v n e k h f = rw (e, f) (onto_snoc xs l v n k h)

  -- the step of a loop that appends a list at a time
  pub onto_append : (xs ys l s : List A) (n : ℕ) → length xs ≡ n → s ≡ onto xs l → take n s ++ ys ++ drop (n + length ys) s ≡ onto (xs ++ ys) l
  unfolding onto
  onto_append xs ys l s n e h =
      let t = take_onto xs l s n e h in
      let d = drop-append-add xs (drop (length xs) l) (length ys) in
      let d' : drop (n + length ys) s ≡ drop (length xs + length ys) l = rw (h, ← e) (d ∙ drop-drop (length ys) (length xs) l) in
      rw (t, d', length-append)

  -- ---- a function's values over a buffer's front

  pub over_onto : (f : ℕ → A) (n : ℕ) (l : List A) → over f n l ≡ onto (tabulate f n) l
  unfolding over onto
  over_onto f n l = rw (length_tabulate f n)

  pub over_none : (f : ℕ → A) (l : List A) → over f 0 l ≡ l
  unfolding over tabulate
  over_none f l = refl

  pub length_over : (f : ℕ → A) (n : ℕ) (l : List A) → n ≤ length l → length (over f n l) ≡ length l
  length_over f n l h = rw (over_onto f n l) (length_onto (tabulate f n) l (rw length_tabulate h))

  -- the step of a loop that fills from the front: what is to hold after a store, from what held before
  pub over_step : (f : ℕ → A) (n : ℕ) (l s : List A) (v : A) → n < length l → s ≡ over f n l → v ≡ f n → set s n v ≡ over f (n + 1) l
  over_step f n l s v h e w =
      rw (e, w, over_onto f n l, over_onto f (n + 1) l, tabulate_more f n) (onto_snoc (tabulate f n) l (f n) n (sym (length_tabulate f n)) h)

  pub over_at : (f : ℕ → A) (n : ℕ) (l : List A) (i : ℕ) (d : A) → i < n → get_or (over f n l) i d ≡ f i
  unfolding over
  over_at f n l i d h = rw (get_or-append (tabulate f n) (drop n l) d i (rw length_tabulate h)) (get_d_tabulate f n i d h)

  -- what is overwritten further is overwritten once
  pub over_over : (f : ℕ → A) (m n : ℕ) (l : List A) → over f (m + n) (over f m l) ≡ over f (m + n) l
  unfolding over
  over_over f m n l =
      let e = drop-append-add (tabulate f m) (drop m l) n in
      ap (λ (r : List A). tabulate f (m + n) ++ r) (rw length_tabulate at e ∙ drop-drop n m l)

  -- a front that is as it should be
  pub over_same : (f : ℕ → A) (n : ℕ) (l : List A) → over f n (over f n l) ≡ over f n l
  over_same f n l = let e = over_over f n 0 l in rw add-zero at e

  -- a list whose front has been filled is its own
  pub over_fix : (f : ℕ → A) (n : ℕ) (l s : List A) → s ≡ over f n l → s ≡ over f n s
  over_fix f n l s e = e ∙ sym (over_same f n l) ∙ ap (over f n) (sym e)

  -- two fills in a row are one
  pub over_more : (f : ℕ → A) (m n : ℕ) (l s t : List A) → s ≡ over f m l → t ≡ over f (m + n) s → t ≡ over f (m + n) l
  over_more f m n l s t e h = h ∙ ap (over f (m + n)) e ∙ over_over f m n l
