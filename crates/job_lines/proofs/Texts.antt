-- Lines that grow: one byte more, bytes behind bytes, fields behind fields.
use Prim.Native.Nat.{ℕ, suc, ◌+◌, ◌-◌, ◌*◌, ◌^◌, ◌≤◌, ◌<◌}
use mathlib.Core.Path.{◌≡◌, refl, sym, ◌∙◌, ap}
use mathlib.Core.List.{List, [], ◌∷◌, ◌++◌, append_assoc, append-nil}
use native.Mathlib.Omega.{arith}
use native.Mathlib.Numerals.{add-one}
use lib.ListN.{length, take, drop, get_or, set, replicate, length-append, length-set}
use Rattle.std.proofs.lemmas.Grind.{take-set_at}
use Rattle.std.proofs.Common.{add-zero}
use Rattle.std.proofs.lemmas.List.{drop-set-lt, take-append-drop}
use lib.Seq.{drop-drop, take-suc, take-length, take-append_seam, set-append_seam, append_snoc, length-take-le}
use Rattle.job_lines.specs.declared.Line.{Line}
use Rattle.job_lines.specs.State.{line_room, text_of, line_of, with_byte, longer}
use Rattle.job_lines.specs.Line.{longest_field, in_decimal, field, fields}
use Rattle.std.specs.Fmt.{decimal}
use Rattle.job_lines.proofs.Decimals.{in_decimal_is}
use Rattle.job_lines.proofs.Lengths.{length_fields}

-- ---- bytes behind bytes

pub longer_then : (l : Line) (xs ys : List ℕ) → longer (longer l xs) ys ≡ longer l (xs ++ ys)
unfolding longer
longer_then l [] ys = refl
longer_then l (x ∷ xs) ys = longer_then (with_byte l x) xs ys

longer_len : (l : Line) (xs : List ℕ) → (longer l xs).len ≡ l.len + length xs
unfolding longer with_byte
longer_len l [] = omega arith
longer_len l (x ∷ xs) = omega (arith, longer_len (with_byte l x) xs)

module _ (l r : Line) where
  pub len_longer : (xs : List ℕ) → r ≡ longer l xs → r.len ≡ l.len + length xs
  len_longer xs e = ap (λ (t : Line). t.len) e ∙ longer_len l xs

  -- as far as a place of a list, and one byte more
  pub len_so_far : (more : List ℕ) (i : ℕ) → i ≤ length more → r ≡ longer l (take i more) → r.len ≡ l.len + i
  len_so_far more i h e = omega (arith, len_longer (take i more) e, length-take-le i more h)

  pub longer_next : (more : List ℕ) (i : ℕ) → i < length more → r ≡ longer l (take i more) → with_byte r (get_or more i 0) ≡ longer l (take (i + 1) more)
  unfolding longer
  longer_next more i h e =
      let next : take (i + 1) more ≡ take i more ++ get_or more i 0 ∷ [] = rw (add-one i) (take-suc more i 0 h) in
      ap (λ (t : Line). with_byte t (get_or more i 0)) e ∙ longer_then l (take i more) (get_or more i 0 ∷ []) ∙ ap (longer l) (sym next)

  pub longer_all : (more : List ℕ) (i : ℕ) → i ≡ length more → r ≡ longer l (take i more) → r ≡ longer l more
  longer_all more i h e = e ∙ ap (longer l) (ap (λ (n : ℕ). take n more) h ∙ take-length more)

-- all bytes at once: the line's own, those behind them, and what stands after
pub longer_is : (l : Line) (xs : List ℕ) → l.len + length xs ≤ length l.bytes
    → record { len = l.len + length xs; bytes = take l.len l.bytes ++ (xs ++ drop (length xs) (drop l.len l.bytes)) } ≡ longer l xs
unfolding longer with_byte
longer_is l [] h = rw (add-zero, take-append-drop l.len l.bytes)
longer_is l (x ∷ xs) h =
    let n = l.len in
    let front : take (n + 1) (set l.bytes n x) ≡ take n l.bytes ++ x ∷ [] = take-set_at l.bytes n (n + 1) x refl (omega arith) in
    let back : drop (n + 1) (set l.bytes n x) ≡ drop 1 (drop n l.bytes) = drop-set-lt (n + 1) l.bytes n x (omega arith) ∙ sym (drop-drop 1 n l.bytes) in
    let one : 1 + length xs ≡ suc (length xs) = omega arith in
    let rest : drop (length xs) (drop 1 (drop n l.bytes)) ≡ drop (suc (length xs)) (drop n l.bytes) = drop-drop (length xs) 1 (drop n l.bytes) ∙ ap (λ (k : ℕ). drop k (drop n l.bytes)) one in
    let place : n + 1 + length xs ≡ n + suc (length xs) = omega arith in
    let all = longer_is (with_byte l x) xs (omega (arith, length-set l.bytes n x)) in
    let same = rw (place, front, back, rest, append_assoc (take n l.bytes) (x ∷ [])) at all in
    same

-- ---- the line of a text

pub text_line : (text : List ℕ) → text_of (line_of text) ≡ text
unfolding text_of line_of
text_line text = take-append_seam text _

byte_line : (xs : List ℕ) (b : ℕ) → length xs < line_room → with_byte (line_of xs) b ≡ line_of (xs ++ b ∷ [])
unfolding line_of with_byte
byte_line xs b h =
    let room : ℕ = line_room - length (xs ++ b ∷ []) in
    let more : line_room - length xs ≡ suc room = omega (arith, length-append xs (b ∷ [])) in
    let bytes : set (xs ++ replicate (line_room - length xs) 0) (length xs) b ≡ xs ++ b ∷ [] ++ replicate room 0
    = rw (more) (set-append_seam xs 0 (replicate room 0) b) ∙ sym (append_snoc xs b (replicate room 0)) in
    rw (bytes, length-append xs (b ∷ []))

pub line_longer : (xs ys : List ℕ) → length (xs ++ ys) ≤ line_room → longer (line_of xs) ys ≡ line_of (xs ++ ys)
unfolding longer
line_longer xs [] h = ap line_of (sym (append-nil xs))
line_longer xs (y ∷ ys) h =
    let all : xs ++ (y ∷ []) ++ ys ≡ xs ++ y ∷ ys = append_snoc xs y ys in
    ap (λ (l : Line). longer l ys) (byte_line xs y (omega (arith, length-append xs (y ∷ ys))))
    ∙ line_longer (xs ++ y ∷ []) ys (rw all h) ∙ ap line_of all

module _ (r l : Line) (xs ys : List ℕ) where
  pub line_then : r ≡ longer l ys → l ≡ line_of xs → length (xs ++ ys) ≤ line_room → r ≡ line_of (xs ++ ys)
  line_then e f h = e ∙ ap (λ (t : Line). longer t ys) f ∙ line_longer xs ys h

pub line_four : (a b c r : Line) (xs ys zs ws : List ℕ) → a ≡ line_of xs → b ≡ longer a ys → c ≡ longer b zs → r ≡ longer c ws → length (xs ++ ys ++ zs ++ ws) ≤ line_room → r ≡ line_of (xs ++ ys ++ zs ++ ws)
line_four a b c r xs ys zs ws p q s t h =
    let all = length-append (xs ++ ys ++ zs) ws in
    let most = length-append (xs ++ ys) zs in
    line_then r c (xs ++ ys ++ zs) ws t (line_then c b (xs ++ ys) zs s (line_then b a xs ys q p (omega (arith, all, most))) (omega (arith, all))) h

-- a line as far as its word and its first numbers
pub begun_len : (r : Line) (word ns : List ℕ) → r ≡ line_of (word ++ fields ns) → r.len ≤ length word + longest_field * length ns
unfolding line_of
begun_len r word ns e = let n : r.len ≡ length (word ++ fields ns) = ap (λ (l : Line). l.len) e in omega (arith, length-append word (fields ns), length_fields ns)

-- ---- a space, and a number's digits

pub field_longer : (l a b : Line) (n : ℕ) → n < 2 ^ 64 → a ≡ longer l (32 ∷ []) → b ≡ longer a (decimal n) → b ≡ longer l (field n)
unfolding field
field_longer l a b n fits p q =
    q ∙ ap (longer a) (sym (in_decimal_is n fits)) ∙ ap (λ (t : Line). longer t (in_decimal n)) p ∙ longer_then l (32 ∷ []) (in_decimal n)

-- ---- fields so far, and one more

fields_snoc : (ns : List ℕ) (n : ℕ) → fields (ns ++ n ∷ []) ≡ fields ns ++ field n
unfolding fields
fields_snoc [] n = append-nil (field n)
fields_snoc (m ∷ ns) n = ap (λ (t : List ℕ). field m ++ t) (fields_snoc ns n) ∙ sym (append_assoc (field m) (fields ns) (field n))

pub fields_none : (l : Line) (ns : List ℕ) → l ≡ longer l (fields (take 0 ns))
unfolding fields longer
fields_none l ns = refl

module _ (l : Line) (ns : List ℕ) (i : ℕ) where
  pub fields_len : (r : Line) → i ≤ length ns → r ≡ longer l (fields (take i ns)) → r.len ≤ l.len + longest_field * i
  fields_len r h e = omega (arith, len_longer l r (fields (take i ns)) e, length_fields (take i ns), length-take-le i ns h)

  pub fields_next : (a b : Line) → i < length ns → a ≡ longer l (fields (take i ns)) → b ≡ longer a (field (get_or ns i 0)) → b ≡ longer l (fields (take (i + 1) ns))
  fields_next a b h p q =
      let more : fields (take i ns) ++ field (get_or ns i 0) ≡ fields (take (i + 1) ns) = sym (rw (add-one i, take-suc ns i 0 h) (fields_snoc (take i ns) (get_or ns i 0))) in
      q ∙ ap (λ (t : Line). longer t (field (get_or ns i 0))) p ∙ longer_then l (fields (take i ns)) (field (get_or ns i 0)) ∙ ap (longer l) more

  pub fields_all : (r : Line) → i ≡ length ns → r ≡ longer l (fields (take i ns)) → r ≡ longer l (fields ns)
  fields_all r h e = e ∙ ap (λ (t : List ℕ). longer l (fields t)) (ap (λ (n : ℕ). take n ns) h ∙ take-length ns)
