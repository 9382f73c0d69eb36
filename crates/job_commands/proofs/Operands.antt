-- A command is read from its operands alone, and decoding by its branches: a command with its operands, a cut one, and E.
use Rattle.std.proofs.Common.{ℕ, ◌≡◌, ap, ◌+◌, ◌-◌, ◌≤◌, ◌<◌, Option, Some, None, List, length, take, drop, arith, get_or, add-one, length-drop, drop_of_length-le}
use borrow.Author.Tests.{lt-ltb, le-ltb}
use Rattle.std.proofs.Math.Seq.{drop-cons, take_all}
use Rattle.std.specs.Array.{IsFirstChunk}
use Rattle.job_commands.specs.declared.Command.{Command}
use Rattle.job_commands.specs.declared.Command.TheVariants.{End}
use Rattle.job_commands.specs.declared.Decoded.{Decoded}
use Rattle.job_commands.specs.Command.{row_at, grid_read, set_grid_of, set_count_of, set_cosine_of, set_angle_of, most_of, least_of, with_operands, end_of, decode_as, decode}
use Rattle.job_commands.specs.State.{decoded_in}
use Rattle.job_commands.proofs.Numbers.{number_within, float_within}

-- ---- a command is read from its operands alone

module _ (l : List ℕ) where
  pub grid_within : set_grid_of (take 26 l) ≡ set_grid_of l
  unfolding set_grid_of grid_read
  grid_within =
      rw (
        number_within l 0 1 26 (omega arith),
        number_within l 1 1 26 (omega arith),
        float_within l 2 26 (omega arith),
        float_within l 10 26 (omega arith),
        float_within l 18 26 (omega arith),
      )

  pub count_within : set_count_of (take 6 l) ≡ set_count_of l
  unfolding set_count_of
  count_within = rw (number_within l 0 1 6 (omega arith), number_within l 1 1 6 (omega arith), number_within l 2 4 6 (omega arith))

  pub cosine_within : set_cosine_of (take 9 l) ≡ set_cosine_of l
  unfolding set_cosine_of row_at
  cosine_within = rw (number_within l 0 1 9 (omega arith), float_within l 1 9 (omega arith))

  pub angle_within : set_angle_of (take 11 l) ≡ set_angle_of l
  unfolding set_angle_of row_at
  angle_within =
      rw (number_within l 0 1 11 (omega arith), number_within l 1 1 11 (omega arith), number_within l 2 1 11 (omega arith), float_within l 3 11 (omega arith))

  pub most_within : most_of (take 4 l) ≡ most_of l
  unfolding most_of
  most_within = rw (number_within l 0 2 4 (omega arith), number_within l 2 2 4 (omega arith))

  pub least_within : least_of (take 10 l) ≡ least_of l
  unfolding least_of
  least_within = rw (number_within l 0 2 10 (omega arith), float_within l 2 10 (omega arith))

-- ---- decoding by its branches

module _ (bs : List ℕ) (from : ℕ) (in_bytes : from ≤ length bs) where
  -- the bytes from the place on, as the code takes them
  abbrev rest : List ℕ
  rest = take (length bs - from) (drop from bs)

  all_rest : rest ≡ drop from bs
  all_rest = take_all (length bs - from) (drop from bs) (omega (arith, length-drop from bs))

  module _ (size : ℕ) (make : List ℕ → Command) where
    pub operands_cut : length rest < size → None ≡ decoded_in bs (with_operands size make (drop from bs))
    unfolding decoded_in with_operands
    operands_cut h = let lt = rw all_rest at h in rw (lt-ltb (length (drop from bs)) size lt)

    pub operands_read : {c : Command} {o : List ℕ} {p : Command × ℕ} → make (take size (drop from bs)) ≡ make (drop from bs) → IsFirstChunk rest o size
        → c ≡ make o → p ≡ (c, size) → Some (record { command = p.0; next = from + p.1 }) ≡ decoded_in bs (with_operands size make (drop from bs))
    unfolding decoded_in with_operands
    operands_read within chunk made e =
        let h = rw all_rest at chunk.enough in
        let o_is = rw all_rest at chunk.same in
        let place : from + size ≡ length bs - length (drop size (drop from bs)) = omega (arith, length-drop size (drop from bs), length-drop from bs) in
        rw (e, made, o_is, within, le-ltb (length (drop from bs)) size h, place)

  pub end_followed : 0 < length rest → None ≡ decoded_in bs (end_of (drop from bs))
  unfolding decoded_in end_of
  end_followed h = let lt = rw all_rest at h in rw (drop-cons bs from 0 (omega (arith, lt, length-drop from bs)))

  pub end_last : {p : Command × ℕ} → length rest ≡ 0 → p ≡ (End, 0) → Some (record { command = p.0; next = from + p.1 }) ≡ decoded_in bs (end_of (drop from bs))
  unfolding decoded_in end_of
  end_last h e =
      let none = rw all_rest at h in
      let place : from + 0 ≡ length bs - 0 = omega (arith, none, length-drop from bs) in
      let past : length bs ≤ from = omega (arith, none, length-drop from bs) in
      rw (e, drop_of_length-le bs past, place)

-- by how many bytes are left behind a place
module _ (bs : List ℕ) (from : ℕ) where
  module _ (size : ℕ) (make : List ℕ → Command) where
    pub operands_cut_at : length bs - from < size → None ≡ decoded_in bs (with_operands size make (drop from bs))
    unfolding decoded_in with_operands
    operands_cut_at h = rw (length-drop from bs, lt-ltb (length bs - from) size h)

    pub operands_read_at : from ≤ length bs → (c : Command) → size ≤ length bs - from → c ≡ make (drop from bs)
        → Some (record { command = c; next = from + size }) ≡ decoded_in bs (with_operands size make (drop from bs))
    unfolding decoded_in with_operands
    operands_read_at in_bytes c h e =
        let place : from + size ≡ length bs - length (drop size (drop from bs)) = omega (arith, length-drop size (drop from bs), length-drop from bs) in
        rw (length-drop from bs, le-ltb (length bs - from) size h, e)
        (ap {B = Option Decoded} (λ (n : ℕ). Some (record { command = make (drop from bs); next = n })) place)

  pub end_followed_at : from < length bs → None ≡ decoded_in bs (end_of (drop from bs))
  unfolding decoded_in end_of
  end_followed_at h = rw (drop-cons bs from 0 h)

  pub end_last_at : from ≤ length bs → length bs ≤ from → Some (record { command = End; next = from }) ≡ decoded_in bs (end_of (drop from bs))
  unfolding decoded_in end_of
  end_last_at in_bytes h =
      let place : from ≡ length bs - 0 = omega arith in
      rw (drop_of_length-le bs h) (ap {B = Option Decoded} (λ (n : ℕ). Some (record { command = End; next = n })) place)

module _ (bs : List ℕ) (at : ℕ) where
  pub decode_letter : {letter : ℕ} → at < length bs → letter ≡ get_or bs at 0 → decode_as letter (drop (at + 1) bs) ≡ decode (drop at bs)
  unfolding decode
  decode_letter h e = rw (e, drop-cons bs at 0 h, add-one at)

  pub decode_none : length bs ≤ at → None ≡ decoded_in bs (decode (drop at bs))
  unfolding decoded_in decode
  decode_none h = rw (drop_of_length-le bs h)
