-- A list's lines, and the numbers of a line.
use Rattle.std.specs.Prelude.{ℕ, ◌+◌, ◌-◌, ◌*◌, ◌^◌, Bool, cond, ◌&&◌, List, eqb, leb, ltb, set, drop, slice_get, None}
use Rattle.lists.specs.Lists.{fold}
use Rattle.test_lines.specs.declared.reader.Line.{Line}

abbrev pub line_end : ℕ
line_end = 10

-- ---- the numbers of a line

abbrev pub space : ℕ
space = 32

abbrev pub digit0 : ℕ
digit0 = 48

abbrev pub digit9 : ℕ
digit9 = 57

-- the last number with one more digit
abbrev pub with_digit : Line → ℕ → ℕ
with_digit r b = r.value * 10 + (b - digit0)

-- a decimal digit of a number that has begun and with it fits
unfoldable pub fits : Line → ℕ → Bool
fits r b = leb digit0 b && leb b digit9 && ltb 0 r.count && ltb (with_digit r b) (2 ^ 64)

-- a digit goes to the number; a byte that is none takes the letter away
unfoldable pub took_digit : Line → ℕ → Line
took_digit r b =
    cond (fits r b)
    (record { tag = r.tag; count = r.count; value = with_digit r b })
    (record { tag = None; count = r.count; value = r.value })

-- one more byte: a space begins a number, a newline byte changes nothing
unfoldable pub took : Line → ℕ → Line
took r b = cond (eqb b space) (record { tag = r.tag; count = r.count + 1; value = 0 }) (cond (eqb b line_end) r (took_digit r b))

-- the line so far, and the words with the numbers so far in them
pub record Reading : Type 0 where
  pub line : Line
  pub words : List ℕ

-- the last number in its place, where there is one
unfoldable pub last_put : Line → List ℕ → List ℕ
last_put r words = cond (ltb 0 r.count) (set words (r.count - 1) r.value) words

unfoldable pub read_byte : Reading → ℕ → Reading
read_byte s b = let r = took s.line b in record { line = r; words = last_put r s.words }

-- the letter alone, where there is one
abbrev pub letter_of : List ℕ → Line
letter_of line = record { tag = slice_get line 0; count = 0; value = 0 }

-- a line read to its end, its numbers put into the words as far as there is room
unfoldable pub line_read : List ℕ → List ℕ → Reading
line_read line words = fold read_byte (record { line = letter_of line; words = words }) (drop 1 line)
