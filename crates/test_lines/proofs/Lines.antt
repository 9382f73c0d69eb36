-- A line read byte by byte.
use Rattle.std.specs.Prelude.{slice_get}
use Rattle.std.proofs.Common.{◌≡◌, ℕ, ◌+◌, ◌-◌, ◌*◌, ◌^◌, ◌≤◌, ◌<◌, true, ◌&&◌, Option, List, eqb, ap, ◌∙◌, arith, length, take, drop, get_or, get_or-drop, length-drop}
use lib.Dec.{leb, ltb}
use lib.Seq.{take_all}
use borrow.Author.Tests.{leb-true, ltb-true}
use Rattle.lists.specs.Lists.{fold}
use Rattle.lists.proofs.Folds.{fold_next}
use Rattle.lists.proofs.Bools.{and_left, and_right, cond_case}
use Rattle.test_lines.specs.declared.reader.Line.{Line}
use Rattle.test_lines.specs.Lines.{space, line_end, digit0, digit9, with_digit, fits, took_digit, took, last_put, Reading, read_byte, letter_of, line_read}

-- what a digit that fits is
pub digit_fits : (r : Line) (b : ℕ) → fits r b ≡ true → (digit0 ≤ b) × (r.value * 10 + (b - digit0) < 2 ^ 64)
unfolding fits
digit_fits r b t =
    let low = leb digit0 b in
    let high = leb b digit9 in
    let begun = ltb 0 r.count in
    let room = ltb (with_digit r b) (2 ^ 64) in (
      leb-true _ _ (and_left low high (and_left (low && high) begun (and_left (low && high && begun) room t))),
      ltb-true _ _ (and_right (low && high && begun) room t),
    )

-- a byte begins at most one number
pub took_count : (r : Line) (b : ℕ) → (took r b).count ≤ r.count + 1
unfolding took took_digit
took_count r b =
    let few : Line → Type 0 = λ x. x.count ≤ r.count + 1 in
    cond_case few (eqb b space) _ _ (λ t. omega arith)
    (λ t. cond_case few (eqb b line_end) _ _ (λ u. omega arith) (λ u. cond_case few (fits r b) _ _ (λ v. omega arith) (λ v. omega arith)))

pub read_more : (s : Reading) (bytes : List ℕ) (i : ℕ) (r : Line) (words : List ℕ) → i < length bytes
    → ◌≡◌ {A = Reading} (record { line = r; words = words }) (fold read_byte s (take i bytes))
    → let next = took r (get_or bytes i 0) in ◌≡◌ {A = Reading} (record { line = next; words = last_put next words }) (fold read_byte s (take (i + 1) bytes))
unfolding read_byte
read_more s bytes i r words h e = ap (λ (x : Reading). read_byte x (get_or bytes i 0)) e ∙ fold_next read_byte s bytes i 0 h

-- a line read to a place: to that behind its letter, and to its end
module _ (line words₀ : List ℕ) where
  abbrev read_to : ℕ → Reading
  read_to i = fold read_byte (record { line = letter_of line; words = words₀ }) (take (i - 1) (drop 1 line))

  pub read_none : (b : Option ℕ) → b ≡ slice_get line 0
      → ◌≡◌ {A = Reading} (record { line = record { tag = b; count = 0; value = 0 }; words = words₀ }) (read_to 1)
  unfolding fold
  read_none b e = rw e

  pub read_more_to : (r r' : Line) (words words' : List ℕ) (i : ℕ) → 1 ≤ i → i < length line → r' ≡ took r (get_or line i 0) → words' ≡ last_put r' words
      → ◌≡◌ {A = Reading} (record { line = r; words = words }) (read_to i) → ◌≡◌ {A = Reading} (record { line = r'; words = words' }) (read_to (i + 1))
  unfolding read_byte
  read_more_to r r' words words' i low h p q e =
      let xs = drop 1 line in
      let within : i - 1 < length xs = rw (length-drop 1 line) (omega arith) in
      let same : 1 + (i - 1) ≡ i = omega arith in
      let next : (i - 1) + 1 ≡ i + 1 - 1 = omega arith in
      let byte : get_or xs (i - 1) 0 ≡ get_or line i 0 = get_or-drop 1 line (i - 1) 0 ∙ ap (λ (k : ℕ). get_or line k 0) same in
      let step : ◌≡◌ {A = Reading} (record { line = r'; words = words' }) (read_byte (record { line = r; words = words }) (get_or xs (i - 1) 0)) = rw (byte, q, p) in
      step ∙ ap (λ (x : Reading). read_byte x (get_or xs (i - 1) 0)) e ∙ fold_next read_byte _ xs (i - 1) 0 within
      ∙ ap (λ (k : ℕ). fold read_byte (record { line = letter_of line; words = words₀ }) (take k xs)) next

  pub read_all : (x : Reading) (i : ℕ) → length line ≤ i → x ≡ read_to i → x ≡ line_read line words₀
  unfolding line_read
  read_all x i h e =
      let all : length (drop 1 line) ≤ i - 1 = rw (length-drop 1 line) (omega arith) in
      e ∙ ap (fold read_byte (record { line = letter_of line; words = words₀ })) (take_all (i - 1) (drop 1 line) all)
