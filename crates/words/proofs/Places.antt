-- The words of a ledger: which fit, the ledger that they give, and the words that a ledger gives.
use Prim.Native.Nat.{ℕ, ◌+◌, ◌*◌, ◌^◌, ◌≤◌, ◌<◌}
use mathlib.Core.Path.{◌≡◌, refl, sym, ap, ◌∙◌}
use mathlib.Core.Bool.{Bool, true, false, ◌&&◌}
use mathlib.Core.List.{List, [], ◌∷◌, ◌++◌, append-nil, append_assoc}
use native.Mathlib.Omega.{arith}
use native.Mathlib.Nat.{le_of_eq}
use lib.ListN.{length, take, get_or, set, drop, length-take, length-append, length-replicate}
use lib.Seq.{take_all}
use lib.Dec.{ltb, eqb}
use borrow.Author.Tests.{eq-eqb, eqb-true, ne_eqb, ltb-true}
use Rattle.lists.specs.Counted.{all_below}
use Rattle.lists.specs.Lists.{concat_each}
use Rattle.lists.specs.Front.{onto, over}
use Rattle.lists.proofs.Bools.{and_left, and_right, cases, cond_true}
use Rattle.lists.proofs.All.{all_at}
use Rattle.lists.proofs.Folds.{concat_more}
use Rattle.lists.proofs.Fronts.{length_onto, onto_append}
use Rattle.grid.specs.declared.Grid.{Grid}
use Rattle.ledger.specs.declared.Entry.{Entry}
use Rattle.ledger.specs.declared.Ledger.{Ledger}
use Rattle.ledger.specs.Ledger.{capacity, ledger_in_order}
use Rattle.ledger.proofs.Places.{order_beyond}
use Rattle.ledger.specs.State.{fresh_ledger, blank}
use Rattle.words.specs.Words.{entry_words, ledger_words, ledger_length, word_at, place_at, read_ledger, place_fits, ledger_fits, unreadable, ledger_of}
use Rattle.words.proofs.General.{over_whole, onto_whole, onto_taken, length_fours, first_no_lem, second_no, last_left}

pub fresh_length : length fresh_ledger.places ≡ capacity
unfolding fresh_ledger
fresh_length = length-replicate capacity blank

module _ (words : List ℕ) where
  pub fits_length : ledger_fits words ≡ true → length words ≡ ledger_length
  unfolding ledger_fits
  fits_length e = eqb-true (length words) ledger_length (and_left (eqb (length words) ledger_length) (all_below capacity (place_fits words)) e)

  pub fits_place : ledger_fits words ≡ true → (i : ℕ) → i < capacity → place_fits words i ≡ true
  unfolding ledger_fits
  fits_place e i h = all_at capacity (place_fits words) i (and_right (eqb (length words) ledger_length) (all_below capacity (place_fits words)) e) h

  pub other_length : (length words ≡ ledger_length → ⊥) → false ≡ ledger_fits words
  unfolding ledger_fits
  other_length e = rw (ne_eqb (length words) ledger_length e)

  pub place_unfit : length words ≡ ledger_length → all_below capacity (place_fits words) ≡ false → false ≡ ledger_fits words
  unfolding ledger_fits
  place_unfit e f = rw (eq-eqb (length words) ledger_length e, f)

  pub all_fit : length words ≡ ledger_length → all_below capacity (place_fits words) ≡ true → true ≡ ledger_fits words
  unfolding ledger_fits
  all_fit e f = rw (eq-eqb (length words) ledger_length e, f)

  module _ (i : ℕ) where
    abbrev at : ℕ
    at = 1 + 4 * i

    pub km_unfit : ltb (word_at words at) (2 ^ 32) ≡ false → false ≡ place_fits words i
    unfolding place_fits
    km_unfit e = first_no_lem (ltb (word_at words at) (2 ^ 32)) (ltb (word_at words (at + 1)) (2 ^ 32)) (ltb (word_at words (at + 2)) (2 ^ 32)) e

    pub row_unfit : ltb (word_at words (at + 1)) (2 ^ 32) ≡ false → false ≡ place_fits words i
    unfolding place_fits
    row_unfit e = second_no (ltb (word_at words at) (2 ^ 32)) (ltb (word_at words (at + 1)) (2 ^ 32)) (ltb (word_at words (at + 2)) (2 ^ 32)) e

    pub col_decides : (r : Bool) → ltb (word_at words at) (2 ^ 32) ≡ true → ltb (word_at words (at + 1)) (2 ^ 32) ≡ true → r ≡ ltb (word_at words (at + 2)) (2 ^ 32) → r ≡ place_fits words i
    unfolding place_fits
    col_decides r e f g = last_left (ltb (word_at words at) (2 ^ 32)) (ltb (word_at words (at + 1)) (2 ^ 32)) (ltb (word_at words (at + 2)) (2 ^ 32)) r e f g

    module _ (e : place_fits words i ≡ true) where
      pub km_fits : word_at words at < 2 ^ 32
      unfolding place_fits
      km_fits = ltb-true (word_at words at) (2 ^ 32) (and_left (ltb (word_at words at) (2 ^ 32)) (ltb (word_at words (at + 1)) (2 ^ 32))
          (and_left (ltb (word_at words at) (2 ^ 32) && ltb (word_at words (at + 1)) (2 ^ 32)) (ltb (word_at words (at + 2)) (2 ^ 32)) e))

      pub row_fits : word_at words (at + 1) < 2 ^ 32
      unfolding place_fits
      row_fits = ltb-true (word_at words (at + 1)) (2 ^ 32) (and_right (ltb (word_at words at) (2 ^ 32)) (ltb (word_at words (at + 1)) (2 ^ 32))
          (and_left (ltb (word_at words at) (2 ^ 32) && ltb (word_at words (at + 1)) (2 ^ 32)) (ltb (word_at words (at + 2)) (2 ^ 32)) e))

      pub col_fits : word_at words (at + 2) < 2 ^ 32
      unfolding place_fits
      col_fits = ltb-true (word_at words (at + 2)) (2 ^ 32) (and_right (ltb (word_at words at) (2 ^ 32) && ltb (word_at words (at + 1)) (2 ^ 32)) (ltb (word_at words (at + 2)) (2 ^ 32)) e)

  -- ---- the ledger of the words

  pub read_whole : (l : Ledger) (places : List Entry) → l.len ≡ word_at words 0 → length places ≡ capacity → l.places ≡ over (place_at words) capacity places → l ≡ read_ledger words
  unfolding read_ledger
  read_whole l places n k e = rw (← n, ← over_whole (place_at words) capacity places k, ← e)

  pub of_fitting : ledger_fits words ≡ true → read_ledger words ≡ ledger_of words
  unfolding ledger_of
  of_fitting e = sym (cond_true (ledger_fits words) (read_ledger words) unreadable e)

  pub of_other : (l : Ledger) → ledger_fits words ≡ false → l.len ≡ capacity + 1 → l.places ≡ fresh_ledger.places → l ≡ ledger_of words
  unfolding ledger_of unreadable
  of_other l e n f = rw (e, ← n, ← f)

  -- OTHER WORDS ARE REFUSED BY QUESTION 11, in its place among the questions
  pub unfit_refused : (g : Grid) → ledger_fits words ≡ false → ledger_in_order g (ledger_of words) ≡ false
  unfolding ledger_of unreadable
  unfit_refused g e = rw e (order_beyond g unreadable refl)

  -- what question 11 accepts was read from words that fit
  pub counted_fits : (ledger_of words).len ≤ capacity → ledger_fits words ≡ true
  unfolding ledger_of unreadable
  counted_fits h = cases (ledger_fits words) (λ e. e) (λ e. absurd (beyond (rw e at h)))
    where
      beyond : capacity + 1 ≤ capacity → ⊥
      beyond k = omega arith

-- ---- the words of a ledger

-- the first word as it was, and the words of the first i places
abbrev pub up_to : List ℕ → List Entry → ℕ → List ℕ
up_to w es i = take 1 w ++ concat_each entry_words (take i es)

module _ (w : List ℕ) (es : List Entry) (long : length w ≡ ledger_length) (whole : length es ≡ capacity) where
  pub length_up_to : (i : ℕ) → i ≤ capacity → length (up_to w es i) ≡ 1 + 4 * i
  unfolding entry_words
  length_up_to i h =
      let first : length (take 1 w) ≡ 1 = rw (length-take 1 w, long) refl in
      let rest = length_fours entry_words (λ e. refl) (take i es) in
      let taken : length (take i es) ≡ i = rw (length-take i es, whole) (omega arith) in
      rw (length-append (take 1 w) (concat_each entry_words (take i es)), first, rest, taken)

  pub write_none : w ≡ onto (up_to w es 0) w
  unfolding onto concat_each
  write_none = rw (append-nil (take 1 w)) (sym (onto_taken 1 w (omega (arith, long))))

  pub length_written : (i : ℕ) (s : List ℕ) → i ≤ capacity → s ≡ onto (up_to w es i) w → length s ≡ ledger_length
  length_written i s h e = ap length e ∙ length_onto (up_to w es i) w (omega (arith, long, length_up_to i h)) ∙ long

  -- the words of the next place
  pub write_next : (s : List ℕ) (i : ℕ) (d : Entry) → i < capacity → s ≡ onto (up_to w es i) w
      → take (1 + 4 * i) s ++ entry_words (get_or es i d) ++ drop (1 + 4 * i + 4) s ≡ onto (up_to w es (i + 1)) w
  unfolding entry_words
  write_next s i d h e =
      let more = concat_more entry_words es i d (omega (arith, whole)) in
      onto_append (up_to w es i) (entry_words (get_or es i d)) w s (1 + 4 * i) (length_up_to i (omega arith)) e
      ∙ ap (λ (xs : List ℕ). onto xs w) (append_assoc (take 1 w) (concat_each entry_words (take i es)) (entry_words (get_or es i d)) ∙ ap (λ (xs : List ℕ). take 1 w ++ xs) (sym more))

pub write_whole : (w : List ℕ) (l : Ledger) (s : List ℕ) → length w ≡ ledger_length → length l.places ≡ capacity → s ≡ onto (up_to w l.places capacity) w → set s 0 l.len ≡ ledger_words l
unfolding ledger_words
write_whole [] l s long whole e = absurd (omega (arith, long))
write_whole (x ∷ w) l s long whole e =
    let written : s ≡ up_to (x ∷ w) l.places capacity = e ∙ onto_whole (up_to (x ∷ w) l.places capacity) (x ∷ w) (long ∙ sym (length_up_to (x ∷ w) l.places long whole capacity (omega arith))) in
    let all : take capacity l.places ≡ l.places = take_all capacity l.places (le_of_eq whole) in
    rw (written, all)
