-- A step by its shape: what it prints, and how many bytes it takes.
use Prim.Native.Nat.{ℕ, zero, suc, ◌+◌, ◌≤◌, ◌<◌}
use mathlib.Core.Path.{◌≡◌, refl}
use mathlib.Core.Bool.{Bool, true, false, cond}
use mathlib.Core.List.{List, [], ◌∷◌}
use native.Mathlib.Omega.{arith}
use borrow.Author.Tests.{ltb-false}
use lib.Dec.{ltb, eqb}
use lib.ListN.{length, drop, length-drop}
use lib.Ieee.{Float}
use Rattle.grid.specs.declared.Cell.{Cell}
use Rattle.grid.specs.declared.Grid.{Grid}
use Rattle.grid.specs.declared.Row.{Row}
use Rattle.grid.specs.Answer.{Answer, answered, refused, decide}
use Rattle.search_rules.specs.declared.MostPopulous.{MostPopulous}
use Rattle.probes.specs.declared.Smallest.{Smallest}
use Rattle.smallest_rules.specs.Call.{SmallestOutcome}
use Rattle.grid.specs.Map.{Map}
use Rattle.job_commands.specs.declared.Command.{Command}
use Rattle.job_commands.specs.declared.Command.TheVariants.{SetGrid, SetCount, SetCosine, SetAngle, Most, Least, End}
use Rattle.job_commands.specs.Command.{Decoding, command, malformed, set_grid_of, set_count_of, set_cosine_of, set_angle_of, most_of, least_of, with_operands, end_of, decode_as, decode}
use Rattle.job_lines.specs.Line.{refused_line, most_line, least_line}
use Rattle.job_world.specs.World.{World, State, empty, begun}
use Rattle.job_rules.specs.Apply.{Done, most_done, least_done, placed, in_world, first, apply, settle, applied}
use Rattle.job_rules.specs.Job.{Step, next, ended, step_after, step_with, step}

-- ---- what a command of so many operand bytes gives: only M and R print and go on, and M has 4

data DoneShape (size : ℕ) : Done → Type 0 where
  silent : (t : State) → DoneShape size (record { state = t; line = []; last = false })
  most : (t : State) (f : MostPopulous) → 4 ≤ size → DoneShape size (record { state = t; line = most_line f; last = false })
  least : (t : State) (a : Smallest) → 4 ≤ size → DoneShape size (record { state = t; line = least_line a; last = false })
  over : (t : State) → DoneShape size (record { state = t; line = []; last = true })
  refusal : (t : State) (n : ℕ) → DoneShape size (record { state = t; line = refused_line n; last = true })

module _ (s : State) where
  done_refused : (size n : ℕ) → DoneShape size (settle s (refused n))
  unfolding settle
  done_refused size n = refusal s n

  done_decided : (size n : ℕ) (d : Done) → DoneShape size d → DoneShape size (settle s (decide n d))
  unfolding settle decide
  done_decided size zero d h = h
  done_decided size (suc n) d h = refusal s (suc n)

  done_placed : (size : ℕ) (on : Bool) (w : World) → DoneShape size (settle s (placed on w))
  unfolding placed
  done_placed size on w = done_decided size _ _ (silent (begun w))

  done_searched : (w : World) (a : Answer MostPopulous) → DoneShape 4 (settle s (most_done w a))
  unfolding settle most_done
  done_searched w (answered f) = most (begun w) f (omega arith)
  done_searched w (refused n) = refusal s n

  done_settled : (m : Map) (o : SmallestOutcome) (a : Answer Smallest) → DoneShape 10 (settle s (least_done m o a))
  unfolding settle least_done
  done_settled m o (answered a) = least _ a (omega arith)
  done_settled m o (refused n) = refusal s n

done_grid : (s : State) (g : Grid) → DoneShape 26 (applied s (SetGrid g))
unfolding applied apply first in_world
done_grid (empty l) g = done_decided (empty l) 26 _ _ (silent _)
done_grid (begun w) g = done_refused (begun w) 26 14

done_count : (s : State) (x : Cell) (n : ℕ) → DoneShape 6 (applied s (SetCount x n))
unfolding applied apply first in_world
done_count (empty l) x n = done_refused (empty l) 6 14
done_count (begun w) x n = done_placed (begun w) 6 _ _

done_cosine : (s : State) (row : Row) (x : Float) → DoneShape 9 (applied s (SetCosine row x))
unfolding applied apply first in_world
done_cosine (empty l) row x = done_refused (empty l) 9 14
done_cosine (begun w) row x = done_placed (begun w) 9 _ _

done_angle : (s : State) (centre row : Row) (offset : ℕ) (x : Float) → DoneShape 11 (applied s (SetAngle centre row offset x))
unfolding applied apply first in_world
done_angle (empty l) centre row offset x = done_refused (empty l) 11 14
done_angle (begun w) centre row offset x = done_placed (begun w) 11 _ _

done_most : (s : State) (spacing km : ℕ) → DoneShape 4 (applied s (Most spacing km))
unfolding applied apply first in_world
done_most (empty l) spacing km = done_refused (empty l) 4 14
done_most (begun w) spacing km = done_searched (begun w) w _

done_least : (s : State) (spacing : ℕ) (share : Float) → DoneShape 10 (applied s (Least spacing share))
unfolding applied apply first in_world
done_least (empty l) spacing share = done_refused (empty l) 10 14
done_least (begun w) spacing share = done_settled (begun w) w.map _ _

done_end : (s : State) → DoneShape 0 (applied s End)
unfolding applied apply first in_world settle
done_end (empty l) = done_refused (empty l) 0 14
done_end (begun w) = over (begun w)

-- ---- a step on so many bytes: one that goes on takes a byte at least, and one that prints and goes on takes 5

pub data Shape (size : ℕ) : Step → Type 0 where
  on_silent : (t : State) (rest : List ℕ) → length rest < size → Shape size (next t [] rest)
  on_most : (t : State) (f : MostPopulous) (rest : List ℕ) → length rest + 5 ≤ size → Shape size (next t (most_line f) rest)
  on_least : (t : State) (a : Smallest) (rest : List ℕ) → length rest + 5 ≤ size → Shape size (next t (least_line a) rest)
  at_end : (t : State) → Shape size (ended t [])
  at_refusal : (t : State) (n : ℕ) → Shape size (ended t (refused_line n))

after_shape : (size k : ℕ) (rest : List ℕ) {d : Done} → length rest + k < size → DoneShape k d → Shape size (step_after rest d)
unfolding step_after
after_shape size k rest h (silent t) = on_silent t rest (omega arith)
after_shape size k rest h (most t f m) = on_most t f rest (omega arith)
after_shape size k rest h (least t a m) = on_least t a rest (omega arith)
after_shape size k rest h (over t) = at_end t
after_shape size k rest h (refusal t n) = at_refusal t n

module _ (s : State) (size : ℕ) where
  abbrev Good : Decoding → Type 0
  Good d = Shape size (step_with s d)

  good_malformed : Good malformed
  unfolding step_with settle step_after
  good_malformed = at_refusal s 13

  good_cond : (b : Bool) (d e : Decoding) → Good d → Good e → Good (cond b d e)
  good_cond true d e p q = p
  good_cond false d e p q = q

module _ (s : State) (bs : List ℕ) where
  good_operands : (k : ℕ) (make : List ℕ → Command) → DoneShape k (applied s (make bs)) → Good s (suc (length bs)) (with_operands k make bs)
  unfolding with_operands step_with
  good_operands k make h = go (ltb (length bs) k) refl
    where
      go : (b : Bool) → ltb (length bs) k ≡ b → Good s (suc (length bs)) (cond b malformed (command (make bs) (drop k bs)))
      go true e = good_malformed s (suc (length bs))
      go false e = after_shape (suc (length bs)) k (drop k bs) (omega (arith, length-drop k bs, ltb-false (length bs) k e)) h

good_end : (s : State) (bs : List ℕ) → Good s (suc (length bs)) (end_of bs)
unfolding end_of step_with
good_end s [] = after_shape 1 0 [] (omega arith) (done_end s)
good_end s (b ∷ bs) = good_malformed s _

good_command : (s : State) (letter : ℕ) (bs : List ℕ) → Good s (suc (length bs)) (decode_as letter bs)
unfolding decode_as set_grid_of set_count_of set_cosine_of set_angle_of most_of least_of
good_command s letter bs =
    let size : ℕ = suc (length bs) in
    good_cond s size (eqb letter 71) _ _ (good_operands s bs 26 set_grid_of (done_grid s _))
    (good_cond s size (eqb letter 67) _ _ (good_operands s bs 6 set_count_of (done_count s _ _))
    (good_cond s size (eqb letter 75) _ _ (good_operands s bs 9 set_cosine_of (done_cosine s _ _))
    (good_cond s size (eqb letter 65) _ _ (good_operands s bs 11 set_angle_of (done_angle s _ _ _ _))
    (good_cond s size (eqb letter 77) _ _ (good_operands s bs 4 most_of (done_most s _ _))
    (good_cond s size (eqb letter 82) _ _ (good_operands s bs 10 least_of (done_least s _ _))
    (good_cond s size (eqb letter 69) _ _ (good_end s bs) (good_malformed s size)))))))

pub step_shape : (s : State) (bs : List ℕ) → Shape (length bs) (step s bs)
unfolding step decode
step_shape s [] = good_malformed s 0
step_shape s (letter ∷ bs) = good_command s letter bs
