-- What `from_le_bytes` makes of bytes is the number that they say, and an operand's place is within a command's operands.
use Rattle.std.proofs.Common.{ℕ, ◌≡◌, ◌+◌, ◌*◌, ◌-◌, ◌≤◌, ◌<◌, List, length, take, drop, get_or, ap, ◌∙◌, arith, drop_of_length-le, length-drop, add-one}
use Rattle.std.proofs.Math.Seq.{drop-cons}
use Rattle.std.proofs.lemmas.List.{drop-take, take-take, length-take-le}
use Rattle.std.specs.Int.{w16, w32, w64, from_le_bytes}
use Rattle.std.specs.Float.{binary64}
use Rattle.std.specs.Float.Ieee.{of_bits}
use Rattle.job_commands.specs.Command.{little, number, float}

module _ (bs : List ℕ) where
  -- the byte at a place, and the number behind it
  little_at : (k : ℕ) → k < length bs → little (drop k bs) ≡ get_or bs k 0 + 256 * little (drop (k + 1) bs)
  unfolding little
  little_at k h = rw (add-one k, drop-cons bs k 0 h)

  little_end : (k : ℕ) → length bs ≤ k → little (drop k bs) ≡ 0
  unfolding little
  little_end k h = rw (drop_of_length-le bs h)

  little_two : length bs ≡ 2 → from_le_bytes w16 bs ≡ little bs
  little_two h = omega (arith, little_at 0 (omega arith), little_at 1 (omega arith), little_end 2 (omega arith))

  little_four : length bs ≡ 4 → from_le_bytes w32 bs ≡ little bs
  little_four h =
      omega (
        arith,
        little_at 0 (omega arith),
        little_at 1 (omega arith),
        little_at 2 (omega arith),
        little_at 3 (omega arith),
        little_end 4 (omega arith),
      )

  little_eight : length bs ≡ 8 → from_le_bytes w64 bs ≡ little bs
  little_eight h =
      omega (
        arith,
        little_at 0 (omega arith),
        little_at 1 (omega arith),
        little_at 2 (omega arith),
        little_at 3 (omega arith),
        little_at 4 (omega arith),
        little_at 5 (omega arith),
        little_at 6 (omega arith),
        little_at 7 (omega arith),
        little_end 8 (omega arith),
      )

-- a number read at a place: of the byte there, and of the bytes taken from there
module _ (bs : List ℕ) (p : ℕ) where
  taken : (k : ℕ) → p + k ≤ length bs → length (take k (drop p bs)) ≡ k
  taken k h = length-take-le k (drop p bs) (omega (arith, length-drop p bs))

  pub number_one : p < length bs → number p 1 bs ≡ get_or bs p 0
  unfolding number little
  number_one h = rw (drop-cons bs p 0 h) (omega arith)

  module _ {xs : List ℕ} {n : ℕ} where
    pub number_two : p + 2 ≤ length bs → xs ≡ take 2 (drop p bs) → n ≡ from_le_bytes w16 xs → n ≡ number p 2 bs
    unfolding number
    number_two h e r = r ∙ rw e (little_two (take 2 (drop p bs)) (taken 2 h))

    pub number_four : p + 4 ≤ length bs → xs ≡ take 4 (drop p bs) → n ≡ from_le_bytes w32 xs → n ≡ number p 4 bs
    unfolding number
    number_four h e r = r ∙ rw e (little_four (take 4 (drop p bs)) (taken 4 h))

    pub number_eight : p + 8 ≤ length bs → xs ≡ take 8 (drop p bs) → n ≡ from_le_bytes w64 xs → n ≡ number p 8 bs
    unfolding number
    number_eight h e r = r ∙ rw e (little_eight (take 8 (drop p bs)) (taken 8 h))

  -- an operand of k bytes at p is within n bytes
  pub number_within : (k n : ℕ) → p + k ≤ n → number p k (take n bs) ≡ number p k bs
  unfolding number
  number_within k n h =
      let e : n ≡ p + (n - p) = omega arith in
      rw (e, drop-take p (n - p) bs) (ap little (take-take k (n - p) (drop p bs) (omega arith)))

  pub float_within : (n : ℕ) → p + 8 ≤ n → float p (take n bs) ≡ float p bs
  unfolding float
  float_within n h = ap (of_bits binary64) (number_within 8 n h)
