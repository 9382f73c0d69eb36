-- A number's digits are those that `{}` writes, and how many there are; and how they are written one by one, from the last to the first.
use Rattle.std.proofs.Common.{ℕ, zero, suc, ◌+◌, ◌-◌, ◌*◌, ◌/◌, ◌%◌, ◌^◌, ◌≤◌, ◌<◌, ◌≡◌, Bool, true, false, cond, List, [], ◌∷◌, ◌++◌, length, length-append, ap, refl, sym, ◌∙◌, inl, inr, arith}
use Rattle.std.proofs.lemmas.Bool.{cases_lt}
use mathlib.Core.List.{append_assoc, append-nil}
use lib.Dec.{ltb}
use lib.ListN.{drop, set, replicate, length-set, length-replicate}
use lib.Seq.{set_at}
use native.Mathlib.Nat.{pow-succ'}
use borrow.Author.Tests.{lt-ltb, le-ltb}
use Rattle.std.specs.Fmt.{decimal}
use Rattle.std.proofs.lemmas.Fmt.{decimal_digit, decimal_step}
use Rattle.job_lines.specs.Line.{most_digits, longest_field, digits, in_decimal, field}

digits_are_decimal : (k n : ℕ) → n < 10 ^ suc k → n < 2 ^ 64 → digits (suc k) n ≡ decimal n
unfolding digits
digits_are_decimal zero n h fits = rw (lt-ltb n 10 h, decimal_digit n h)
digits_are_decimal (suc k) n h fits =
    let more = digits_are_decimal k (n / 10) (omega (arith, pow-succ' 10 (suc k))) (omega arith) in
    elim (cases_lt n 10) [
      | inl small ↦ rw (lt-ltb n 10 small, decimal_digit n small)
      | inr large ↦ rw (le-ltb n 10 large, decimal_step n large fits) (ap (λ (t : List ℕ). t ++ (48 + n % 10) ∷ []) more)
    ]

pub in_decimal_is : (n : ℕ) → n < 2 ^ 64 → in_decimal n ≡ decimal n
unfolding in_decimal
in_decimal_is n fits = digits_are_decimal 19 n (omega arith) fits

-- ---- one by one

drop_set_here : {A : Type 0} (l : List A) (i : ℕ) (a : A) → i < length l → drop i (set l i a) ≡ a ∷ drop (suc i) l
drop_set_here [] i a h = absurd (omega arith)
drop_set_here (x ∷ l) zero a h = refl
drop_set_here (x ∷ l) (suc i) a h = drop_set_here l i a (omega arith)

digits_large : (k n : ℕ) → 10 ≤ n → digits (suc k) n ≡ digits k (n / 10) ++ (48 + n % 10) ∷ []
unfolding digits
digits_large k n h = rw (le-ltb n 10 h)

-- "0" up to a place with its own, and the next digit there
replicate_last : (n a : ℕ) (l : List ℕ) → replicate (suc n) a ++ l ≡ replicate n a ++ a ∷ l
replicate_last zero a l = refl
replicate_last (suc n) a l = ap (λ (t : List ℕ). a ∷ t) (replicate_last n a l)

clear_set : (bytes : List ℕ) (from d : ℕ) → bytes ≡ replicate (suc from) 48 ++ drop (suc from) bytes → set bytes from d ≡ replicate from 48 ++ d ∷ drop (suc from) bytes
clear_set bytes from d e =
    let l : List ℕ = drop (suc from) bytes in
    ap (λ (t : List ℕ). set t from d) (e ∙ replicate_last from 48 l) ∙ set_at (replicate from 48) 48 l d from (length-replicate from 48)

-- the digits below a place are written, with "0" up to it, and the rest of the number has at most as many digits as there are places
pub record Written (n : ℕ) (bytes : List ℕ) (from rest : ℕ) : Type 0 where
  pub place : from < most_digits
  pub sized : length bytes ≡ most_digits
  pub small : rest < 10 ^ suc from
  pub clear : bytes ≡ replicate (suc from) 48 ++ drop (suc from) bytes
  pub same : digits (suc from) rest ++ drop (suc from) bytes ≡ in_decimal n

pub none_written : (n : ℕ) (bytes : List ℕ) → n < 2 ^ 64 → bytes ≡ replicate most_digits 48 → Written n bytes 19 n
unfolding in_decimal
none_written n bytes h e =
    let done : drop most_digits bytes ≡ [] = ap (drop most_digits) e in
    record {
      place = omega arith;
      sized = ap length e;
      small = omega arith;
      clear = e ∙ sym (ap (λ (t : List ℕ). replicate most_digits 48 ++ t) done);
      same = ap (λ (t : List ℕ). digits most_digits n ++ t) done ∙ append-nil (digits most_digits n);
    }

-- a number of two digits and more has a place left for the next
pub place_left : (n : ℕ) (bytes : List ℕ) (from rest : ℕ) → Written n bytes from rest → 10 ≤ rest → 1 ≤ from
place_left n bytes zero rest w h = absurd (let s : rest < 10 = w.small in omega arith)
place_left n bytes (suc k) rest w h = omega arith

one_written : (n : ℕ) (bytes : List ℕ) (k rest : ℕ) → Written n bytes (suc k) rest → 10 ≤ rest → Written n (set bytes (suc k) (48 + rest % 10)) k (rest / 10)
one_written n bytes k rest w h =
    let d : ℕ = 48 + rest % 10 in
    let p : 10 ^ suc (suc k) ≡ 10 * 10 ^ suc k = pow-succ' 10 (suc k) in
    let at : suc k < length bytes = omega (arith, w.place, w.sized) in
    record {
      place = omega (arith, w.place);
      sized = length-set bytes (suc k) d ∙ w.sized;
      small = omega (arith, w.small, p);
      clear = clear_set bytes (suc k) d w.clear ∙ ap (λ (t : List ℕ). replicate (suc k) 48 ++ t) (sym (drop_set_here bytes (suc k) d at));
      same = ap (λ (t : List ℕ). digits (suc k) (rest / 10) ++ t) (drop_set_here bytes (suc k) d at)
          ∙ sym (append_assoc (digits (suc k) (rest / 10)) (d ∷ []) (drop (suc (suc k)) bytes))
          ∙ ap (λ (t : List ℕ). t ++ drop (suc (suc k)) bytes) (sym (digits_large (suc k) rest h)) ∙ w.same;
    }

pub more_written : (n : ℕ) (bytes : List ℕ) (from rest : ℕ) → Written n bytes from rest → 10 ≤ rest
    → Written n (set bytes from (48 + rest % 10)) (from - 1) (rest / 10)
more_written n bytes zero rest w h = absurd (let s : rest < 10 = w.small in omega arith)
more_written n bytes (suc k) rest w h =
    let q : suc k - 1 ≡ k = omega arith in
    rw q (one_written n bytes k rest w h)

-- ---- lengths

length_digits : (k n : ℕ) → length (digits k n) ≤ k
unfolding digits
length_digits zero n = omega arith
length_digits (suc k) n = go (length_digits k (n / 10)) (ltb n 10)
  where
    go : length (digits k (n / 10)) ≤ k → (b : Bool) → length (cond b ((48 + n) ∷ []) (digits k (n / 10) ++ (48 + n % 10) ∷ [])) ≤ suc k
    go h true = omega arith
    go h false = omega (arith, length-append (digits k (n / 10)) ((48 + n % 10) ∷ []))

pub length_field : (n : ℕ) → length (field n) ≤ longest_field
unfolding field in_decimal
length_field n = omega (arith, length_digits most_digits n)
