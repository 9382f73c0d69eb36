-- A text in a buffer, byte behind byte and text behind text.
use Prim.Native.Nat.{ℕ, zero, suc, ◌+◌, ◌≤◌, ◌<◌}
use mathlib.Core.Path.{◌≡◌, refl, sym, ◌∙◌, ap}
use mathlib.Core.List.{List, [], ◌∷◌, ◌++◌}
use native.Mathlib.Omega.{arith}
use native.Mathlib.Numerals.{add-one}
use Rattle.std.proofs.Common.{min, Bool, true, false}
use borrow.Author.Tests.{ltb-true, ltb-false}
use lib.Dec.{ltb}
use lib.ListN.{length, take, drop, get_or, set, length-take, length-append}
use lib.Seq.{length-take-le, take_all, take-suc, take-length, get_or-take}
use Rattle.job_lines.specs.declared.Line.{Line}
use Rattle.job_lines.specs.State.{line_room, text_of}
use Rattle.job_output.specs.Output.{printed_into, output_of, output}
use Rattle.job_output.specs.State.{added}

written_none : (text : List ℕ) → printed_into text [] ≡ []
unfolding printed_into
written_none [] = refl
written_none (x ∷ text) = refl

set_written : (text l : List ℕ) (v : ℕ) → set (printed_into text l) (length text) v ≡ printed_into (text ++ v ∷ []) l
unfolding printed_into
set_written [] [] v = refl
set_written [] (b ∷ l) v = refl
set_written (x ∷ text) [] v = refl
set_written (x ∷ text) (b ∷ l) v = ap (λ (t : List ℕ). x ∷ t) (set_written text l v)

-- a text from a place on
unfoldable pub from : ℕ → List ℕ → List ℕ → List ℕ
from place text l = take place l ++ printed_into text (drop place l)

pub from_nothing : (place : ℕ) (l : List ℕ) → l ≡ from place [] l
unfolding from printed_into
from_nothing zero l = refl
from_nothing (suc p) [] = refl
from_nothing (suc p) (b ∷ l) = ap (λ (t : List ℕ). b ∷ t) (from_nothing p l)

set_from : (place : ℕ) (text l : List ℕ) (v n : ℕ) → n ≡ place + length text → set (from place text l) n v ≡ from place (text ++ v ∷ []) l
unfolding from
set_from zero text l v n e = let here : n ≡ length text = omega arith in rw here (set_written text l v)
set_from (suc p) text [] v n e = rw (written_none text, written_none (text ++ v ∷ []))
set_from (suc p) text (b ∷ l) v n e = let there : n ≡ suc (p + length text) = omega arith in rw there (ap (λ (t : List ℕ). b ∷ t) (set_from p text l v (p + length text) refl))

-- behind a text
pub from_written : (text more l : List ℕ) → from (length text) more (printed_into text l) ≡ printed_into (text ++ more) l
unfolding from printed_into
from_written [] more l = refl
from_written (x ∷ text) more [] = written_none more
from_written (x ∷ text) more (b ∷ l) = ap (λ (t : List ℕ). x ∷ t) (from_written text more l)

pub added_written : (text more l : List ℕ) → added (length text) more (printed_into text l) ≡ output (text ++ more) l
unfolding added output from
added_written text more l = rw (length-append text more, sym (from_written text more l))

-- ---- a line, byte by byte

pub line_front : (line : Line) → length line.bytes ≡ line_room → take (min line.len line_room) line.bytes ≡ text_of line
unfolding text_of
line_front line whole = go (ltb line.len line_room) refl
  where
    go : (b : Bool) → ltb line.len line_room ≡ b → take (min line.len line_room) line.bytes ≡ take line.len line.bytes
    go true t =
        let h : line.len < line_room = ltb-true line.len line_room t in
        let e : min line.len line_room ≡ line.len = omega arith in
        ap (λ (k : ℕ). take k line.bytes) e
    go false t =
        let h : line_room ≤ line.len = ltb-false line.len line_room t in
        take_all (min line.len line_room) line.bytes (omega arith) ∙ sym (take_all line.len line.bytes (omega arith))

module _ (place : ℕ) (text out₀ : List ℕ) where
  pub text_next : (out : List ℕ) (i : ℕ) → i < length text → out ≡ from place (take i text) out₀
      → set out (place + i) (get_or text i 0) ≡ from place (take (i + 1) text) out₀
  text_next out i h e =
      let here : length (take i text) ≡ i = length-take-le i text (omega arith) in
      rw (e, add-one i, take-suc text i 0 h) (set_from place (take i text) out₀ (get_or text i 0) (place + i) (omega arith))

  pub text_all : (out : List ℕ) (n : ℕ) → n ≡ length text → out ≡ from place (take n text) out₀ → output_of (place + n) out ≡ added place text out₀
  unfolding added from
  text_all out n k e = rw (e, k, take-length text)

-- the same by the line's own bytes

module _ (line : Line) (whole : length line.bytes ≡ line_room) where
  pub short_line : line.len < line_room → line.len ≡ length (text_of line)
  unfolding text_of
  short_line h = sym (length-take-le line.len line.bytes (omega (arith, whole)))

  pub full_line : line_room ≤ line.len → line_room ≡ length (text_of line)
  unfolding text_of
  full_line h = sym whole ∙ ap length (sym (take_all line.len line.bytes (omega (arith, whole))))

byte_of : (line : Line) (i : ℕ) → i < length (text_of line) → get_or (text_of line) i 0 ≡ get_or line.bytes i 0
unfolding text_of
byte_of line i h = get_or-take line.len line.bytes i 0 (omega (arith, length-take line.len line.bytes))

pub line_within : (line : Line) → length (text_of line) ≤ length line.bytes
unfolding text_of
line_within line = omega (arith, length-take line.len line.bytes)

module _ (line : Line) (place : ℕ) (out₀ : List ℕ) where
  pub line_next : (out : List ℕ) (i : ℕ) → i < length (text_of line) → out ≡ from place (take i (text_of line)) out₀
      → set out (place + i) (get_or line.bytes i 0) ≡ from place (take (i + 1) (text_of line)) out₀
  line_next out i h e =
      let here : length (take i (text_of line)) ≡ i = length-take-le i (text_of line) (omega arith) in
      let byte : get_or (text_of line) i 0 ≡ get_or line.bytes i 0 = byte_of line i h in
      rw (e, add-one i, take-suc (text_of line) i 0 h, byte) (set_from place (take i (text_of line)) out₀ (get_or line.bytes i 0) (place + i) (omega arith))

  pub line_all : (out : List ℕ) (i n : ℕ) → i ≡ length (text_of line) → n ≡ place + i → out ≡ from place (take i (text_of line)) out₀
      → output_of n out ≡ added place (text_of line) out₀
  unfolding added from
  line_all out i n all k e = rw (e, k, all, take-length (text_of line))
