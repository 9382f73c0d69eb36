-- What the code decodes is the decoding: the bytes from the next place on are those left.
use Prim.Native.Nat.{ℕ, zero, suc, ◌+◌, ◌-◌}
use mathlib.Core.Path.{◌≡◌, refl, ap}
use mathlib.Core.Bool.{Bool, true, false, cond}
use mathlib.Core.List.{List, [], ◌∷◌}
use native.Mathlib.Omega.{arith}
use borrow.Author.Tests.{ltb-true, ltb-false}
use lib.Dec.{ltb, eqb}
use lib.ListN.{length, drop, get_or, length-drop, drop_of_length-le}
use lib.Seq.{drop-cons, drop-drop, drop-length}
use Rattle.job_commands.specs.declared.Command.{Command}
use Rattle.job_commands.specs.declared.Command.TheVariants.{End}
use Rattle.job_commands.specs.Command.{Decoding, command, malformed, set_grid_of, set_count_of, set_cosine_of, set_angle_of, most_of, least_of, with_operands, end_of, decode_as, decode}
use Rattle.job_commands.specs.State.{decoded_in, decoded_of}

-- as many places from the end as bytes are left
drop_left : (l : List ℕ) (k : ℕ) → drop (length l - length (drop k l)) l ≡ drop k l
drop_left l zero = let none : length l - length l ≡ 0 = omega arith in rw none
drop_left [] (suc k) = refl
drop_left (x ∷ l) (suc k) =
    let one : suc (length l) - length (drop k l) ≡ suc (length l - length (drop k l)) = omega (arith, length-drop k l) in
    rw one (drop_left l k)

module _ (job : List ℕ) where
  abbrev Seen : Decoding → Type 0
  Seen d = decoded_of job (decoded_in job d) ≡ d

  seen_malformed : Seen malformed
  unfolding decoded_of decoded_in
  seen_malformed = refl

  seen_cond : (b : Bool) (d e : Decoding) → Seen d → Seen e → Seen (cond b d e)
  seen_cond true d e p q = p
  seen_cond false d e p q = q

  seen_operands : (size from : ℕ) (make : List ℕ → Command) → Seen (with_operands size make (drop from job))
  unfolding with_operands decoded_of decoded_in
  seen_operands size from make =
      seen_cond (ltb (length (drop from job)) size) malformed (command (make (drop from job)) (drop size (drop from job))) seen_malformed
      (rw (drop-drop size from job) (ap (command (make (drop from job))) (drop_left job (from + size))))

  seen_end : (l : List ℕ) → Seen (end_of l)
  unfolding end_of decoded_of decoded_in
  seen_end [] = let all : length job - 0 ≡ length job = omega arith in rw (all) (ap (command End) (drop-length job))
  seen_end (b ∷ bs) = refl

  seen_letter : (letter from : ℕ) → Seen (decode_as letter (drop from job))
  unfolding decode_as
  seen_letter letter from =
      seen_cond (eqb letter 71) _ _ (seen_operands 26 from set_grid_of)
      (seen_cond (eqb letter 67) _ _ (seen_operands 6 from set_count_of)
      (seen_cond (eqb letter 75) _ _ (seen_operands 9 from set_cosine_of)
      (seen_cond (eqb letter 65) _ _ (seen_operands 11 from set_angle_of)
      (seen_cond (eqb letter 77) _ _ (seen_operands 4 from most_of)
      (seen_cond (eqb letter 82) _ _ (seen_operands 10 from least_of)
      (seen_cond (eqb letter 69) _ _ (seen_end (drop from job)) seen_malformed))))))

  pub decoded_seen : (at : ℕ) → decoded_of job (decoded_in job (decode (drop at job))) ≡ decode (drop at job)
  unfolding decode
  decoded_seen at = go (ltb at (length job)) refl
    where
      go : (b : Bool) → ltb at (length job) ≡ b → Seen (decode (drop at job))
      go true e = rw (drop-cons job at 0 (ltb-true at (length job) e)) (seen_letter (get_or job at 0) (suc at))
      go false e = rw (drop_of_length-le job (ltb-false at (length job) e)) seen_malformed
