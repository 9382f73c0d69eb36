-- Words of a line and of a buffer: those at its front, and those stored from a place on.
use Rattle.std.proofs.Common.{◌≡◌, ℕ, suc, ◌+◌, ◌-◌, ◌≤◌, ◌<◌, min, Bool, true, false, not, eqb, List, [], ◌∷◌, ◌++◌, refl, sym, ap, ◌∙◌, arith, length, take, drop, get_or, set, add-zero, add-one, take-append-drop, append_assoc, length-take-le, drop-drop, get_or-drop}
use Rattle.std.proofs.lemmas.List.Edits.{sets, sets-eq}
use native.Mathlib.Nat.{min-eq_left, min-eq_right, min-le_right, le_of_lt, add-suc, suc-add}
use lib.Dec.{leb}
use lib.ListN.{drop_of_length-le, get_or-eq_default}
use lib.Seq.{take_all, take-length, take-suc, drop-length, set_out, length-sets}
use borrow.Author.Tests.{leb-true, leb-false}
use mir.Val.{bool_byte}
use Rattle.lists.proofs.Bools.{cases, byte_one}
use Rattle.lists.proofs.Sums.{sum_none, sum_plus_one}
use Rattle.test_lines.specs.Numbers.{number_at, differing}

module _ {A : Type 0} where
  -- beyond the end there is the default
  pub beyond : (l : List A) (d : A) (n : ℕ) → length l ≤ n → d ≡ get_or l n d
  beyond l d n h = sym (get_or-eq_default l d {n = n} h)

  -- ---- the first n, or all where there are fewer

  module _ (k n : ℕ) (l : List A) (e : k ≡ min n (length l)) where
    pub front_count : k ≡ length (take k l)
    front_count = sym (length-take-le k l (rw e (min-le_right n (length l))))

    pub front_taken : take k l ≡ take n l
    front_taken =
        cases (leb n (length l)) (λ t. ap (λ (i : ℕ). take i l) (e ∙ min-eq_left (leb-true _ _ t)))
        (λ t. let h = le_of_lt (leb-false _ _ t) in ap (λ (i : ℕ). take i l) (e ∙ min-eq_right h) ∙ take-length l ∙ sym (take_all n l h))

    pub front_dropped : drop k l ≡ drop n l
    front_dropped =
        cases (leb n (length l)) (λ t. ap (λ (i : ℕ). drop i l) (e ∙ min-eq_left (leb-true _ _ t)))
        (λ t. let h = le_of_lt (leb-false _ _ t) in ap (λ (i : ℕ). drop i l) (e ∙ min-eq_right h) ∙ drop-length l ∙ sym (drop_of_length-le l h))

  -- ---- words stored from a place on

  -- beyond the end none is stored
  sets_out : (vs l : List A) (at : ℕ) → length l ≤ at → sets l at vs ≡ l
  sets_out [] l at h = refl
  sets_out (v ∷ vs) l at h = ap (λ (s : List A). sets s (suc at) vs) (set_out l at v h) ∙ sets_out vs l (suc at) (omega arith)

  sets_append : (xs ys l : List A) (at : ℕ) → sets l at (xs ++ ys) ≡ sets (sets l at xs) (at + length xs) ys
  sets_append [] ys l at = ap (λ (k : ℕ). sets l k ys) (sym (add-zero at))
  sets_append (x ∷ xs) ys l at =
      sets_append xs ys (set l at x) (suc at)
      ∙ ap (λ (k : ℕ). sets (sets (set l at x) (suc at) xs) k ys) (suc-add at (length xs) ∙ sym (add-suc at (length xs)))

  -- as many as there is room for
  pub sets_front : (l vs : List A) (at k n : ℕ) → k ≡ min at (length l) → n ≡ min (length vs) (length l - k) → take k l ++ (take n vs ++ drop n (drop k l)) ≡ sets l at vs
  sets_front l vs at k n e f =
      let few : length (take n vs) ≡ n = length-take-le n vs (omega arith) in
      let whole : take k l ++ take n vs ++ drop (k + n) l ≡ sets l k (take n vs) = rw few at (sym (sets-eq (take n vs) l k (omega arith))) in
      let front : take k l ++ (take n vs ++ drop n (drop k l)) ≡ sets l k (take n vs) = rw (drop-drop n k l, ← append_assoc) whole in
      cases (leb at (length l))
      (λ t. let at_k : k ≡ at = e ∙ min-eq_left (leb-true _ _ t) in
      let all = ap (sets l k) (take-append-drop n vs) in
      let rest = drop n vs in
      let s = sets l k (take n vs) in
      let long : length s ≡ length l = length-sets l k (take n vs) in
      let none : sets s (k + length (take n vs)) rest ≡ s =
      cases (leb (length vs) n) (λ u. ap (sets s (k + length (take n vs))) (drop_of_length-le vs (leb-true _ _ u)))
      (λ u. sets_out rest s _ (omega (arith, leb-false _ _ u, leb-true _ _ t, long, few, at_k, f))) in
      front ∙ sym none ∙ sym (sets_append (take n vs) rest l k) ∙ all ∙ ap (λ (i : ℕ). sets l i vs) at_k)
      (λ t. let none : n ≡ 0 = omega (arith, leb-false _ _ t, e, f) in
      front ∙ ap (λ (i : ℕ). sets l k (take i vs)) none ∙ sym (sets_out vs l at (omega (arith, leb-false _ _ t))))

  -- one word more
  pub sets_more : (l s t : List A) (at : ℕ) (xs : List A) (i : ℕ) (d : A) → i < length xs → s ≡ sets l at (take i xs) → t ≡ set s (at + i) (get_or xs i d)
      → t ≡ sets l at (take (i + 1) xs)
  sets_more l s t at xs i d h e f =
      let k : length (take i xs) ≡ i = length-take-le i xs (omega arith) in
      let v = get_or xs i d in
      let last : sets l at (take i xs ++ v ∷ []) ≡ set (sets l at (take i xs)) (at + length (take i xs)) v = sets_append (take i xs) (v ∷ []) l at in
      rw (f, e, add-one i, take-suc xs i d h) (sym (last ∙ ap (λ (n : ℕ). set (sets l at (take i xs)) (at + n) v) k))

-- ---- words that differ

pub at_most_one : (b : Bool) → bool_byte b ≤ 1
at_most_one true = omega arith
at_most_one false = omega arith

module _ (a : List ℕ) (i : ℕ) (b : List ℕ) (j : ℕ) where
  pub differing_none : 0 ≡ differing a i b j 0
  unfolding differing
  differing_none = sym (sum_none _)

  pub differing_more : (k count : ℕ) → count ≡ differing a i b j k
      → count + bool_byte (not (eqb (number_at (drop i a) k) (number_at (drop j b) k))) ≡ differing a i b j (k + 1)
  unfolding differing
  differing_more k count e = rw (get_or-drop, get_or-drop, e, byte_one) (sym (sum_plus_one k _))

  -- the same by the words themselves
  pub differing_more_at : (k count x y : ℕ) → x ≡ number_at a (i + k) → y ≡ number_at b (j + k) → count ≡ differing a i b j k
      → count + bool_byte (not (eqb x y)) ≡ differing a i b j (k + 1)
  unfolding differing
  differing_more_at k count x y p q e = rw (p, q, e, byte_one) (sym (sum_plus_one k _))
