-- A buffer that is written from a place on: what is written and what is left to write are the whole.
use Prim.Native.Nat.{ℕ, suc, ◌+◌, ◌≤◌, ◌<◌}
use mathlib.Core.Path.{◌≡◌, refl, sym, ap, ◌∙◌}
use mathlib.Core.List.{List, [], ◌∷◌, ◌++◌, append_assoc, append-nil}
use native.Mathlib.Omega.{arith}
use native.Mathlib.Nat.{add-zero}
use native.Mathlib.Numerals.{add-one}
use lib.ListN.{length, take, drop, set, length-append, length-drop, take-append-drop}
use lib.Seq.{length-take-le, take_at, drop_at, drop-drop, append_snoc, set_split}
use Rattle.lists.specs.Front.{written_at}

module _ {A : Type 0} where
  pub length_written : (at : ℕ) (xs l : List A) → at + length xs ≤ length l → length (written_at at xs l) ≡ length l
  length_written at xs l h =
      simp (length-append, length-drop) (omega (arith, length-take-le at l (omega arith)))

  pub written_none : (at : ℕ) (l : List A) → written_at at [] l ≡ l
  written_none at l = rw (add-zero at, append-nil (take at l)) (take-append-drop at l)

  -- one store
  pub set_written : (at : ℕ) (v : A) (l : List A) → at < length l → set l at v ≡ written_at at (v ∷ []) l
  set_written at v l h = rw (add-one at) (set_split l at v h ∙ sym (append_snoc (take at l) v (drop (suc at) l)))

  -- the front of what was written
  pub take_written : (at : ℕ) (xs l : List A) → at ≤ length l → take (at + length xs) (written_at at xs l) ≡ take at l ++ xs
  take_written at xs l h =
      take_at (take at l ++ xs) (drop (at + length xs) l) (at + length xs) (length-append (take at l) xs ∙ ap (λ (n : ℕ). n + length xs) (length-take-le at l h))

  pub drop_written : (at : ℕ) (xs l : List A) → at ≤ length l → drop (at + length xs) (written_at at xs l) ≡ drop (at + length xs) l
  drop_written at xs l h =
      drop_at (take at l ++ xs) (drop (at + length xs) l) (at + length xs) (length-append (take at l) xs ∙ ap (λ (n : ℕ). n + length xs) (length-take-le at l h))

  -- the buffer l₀ is being written from place at₀ on with the list whole; so far it is l, written up to place at, and left is what is left of the list
  pub record Writing (l₀ : List A) (at₀ : ℕ) (whole : List A) (l : List A) (at : ℕ) (left : List A) : Type 0 where
    pub size : length l ≡ length l₀
    pub count : at + length left ≡ at₀ + length whole
    pub room : at₀ + length whole ≤ length l₀
    pub front : take at l ++ left ≡ take at₀ l₀ ++ whole
    pub rest : drop at l ≡ drop at l₀

  pub writing_start : (l₀ : List A) (at₀ : ℕ) (whole : List A) → at₀ + length whole ≤ length l₀ → Writing l₀ at₀ whole l₀ at₀ whole
  writing_start l₀ at₀ whole h = record { size = refl; count = refl; room = h; front = refl; rest = refl }

  module _ {l₀ : List A} {at₀ : ℕ} {whole l : List A} {at : ℕ} {left : List A} (w : Writing l₀ at₀ whole l at left) where
    -- a list more
    pub writing_more : (ys left' l' : List A) → left ≡ ys ++ left' → l' ≡ written_at at ys l → Writing l₀ at₀ whole l' (at + length ys) left'
    writing_more ys left' l' e k =
        let n : length left ≡ length ys + length left' = ap (length {A = A}) e ∙ length-append ys left' in
        let h : at + length ys ≤ length l = omega (arith, w.size, w.count, w.room) in
        let f : take (at + length ys) l' ≡ take at l ++ ys = rw k (take_written at ys l (omega arith)) in
        let d : drop (at + length ys) l' ≡ drop (at + length ys) l = rw k (drop_written at ys l (omega arith)) in
        record {
          size = ap (length {A = A}) k ∙ length_written at ys l h ∙ w.size;
          count = omega (arith, w.count);
          room = w.room;
          front = ap (λ (r : List A). r ++ left') f ∙ append_assoc (take at l) ys left' ∙ ap (λ (r : List A). take at l ++ r) (sym e) ∙ w.front;
          rest = d ∙ sym (drop-drop (length ys) at l) ∙ ap (drop (length ys)) w.rest ∙ drop-drop (length ys) at l₀;
        }

    -- there is room for what is left
    pub writing_room : at + length left ≤ length l
    writing_room = omega (arith, w.size, w.count, w.room)

    -- an element more
    pub writing_step : (v : A) (left' : List A) → left ≡ v ∷ left' → Writing l₀ at₀ whole (set l at v) (at + 1) left'
    writing_step v left' e =
        let n : length left ≡ suc (length left') = ap (length {A = A}) e in
        writing_more (v ∷ []) left' (set l at v) e (set_written at v l (omega (arith, writing_room)))

    pub writing_end : left ≡ [] → at ≡ at₀ + length whole
    writing_end e = let n : length left ≡ 0 = ap (length {A = A}) e in omega (arith, w.count)

    pub writing_done : left ≡ [] → l ≡ written_at at₀ whole l₀
    writing_done e =
        let f : take at l ≡ take at₀ l₀ ++ whole = sym (append-nil (take at l)) ∙ ap (λ (r : List A). take at l ++ r) (sym e) ∙ w.front in
        sym (take-append-drop at l) ∙ ap (λ (r : List A). r ++ drop at l) f
        ∙ ap (λ (r : List A). take at₀ l₀ ++ whole ++ r) (w.rest ∙ ap (λ (k : ℕ). drop k l₀) (writing_end e))
