-- What each command of a job does to its state.
use Rattle.std.specs.Prelude.{ℕ, zero, suc, Bool, true, false, List, [], ◌∷◌, replicate}
use Rattle.grid.specs.Grid.{on_grid}
use Rattle.grid.specs.Map.{Map}
use Rattle.grid.specs.Answer.{question, first_no, Answer, answered, refused, decide}
use Rattle.grid.specs.Questions.{grid_questions}
use Rattle.spacing.specs.declared.Spacing.{Spacing}
use Rattle.spacing.specs.declared.Spacing.TheVariants.{Automatic, Cells}
use Rattle.search_rules.specs.declared.MostPopulous.{MostPopulous}
use Rattle.most_populous.specs.Call.{Buffers, buffers, search_call}
use Rattle.ledger.specs.declared.Ledger.{Ledger}
use Rattle.probes.specs.declared.Smallest.{Smallest}
use Rattle.smallest_rules.specs.Call.{SmallestOutcome, smallest_call}
use Rattle.job_commands.specs.declared.Command.{Command}
use Rattle.job_commands.specs.declared.Command.TheVariants.{SetGrid, SetCount, SetCosine, SetAngle, Most, Least, End}
use Rattle.job_sizes.specs.Sizes.{job_cells, job_sums, size_taken, row_on_grid, angle_on}
use Rattle.job_world.specs.World.{World, world, State, empty, begun, empty_map, emptied, with_map, with_count, with_cosine, with_angle}
use Rattle.job_lines.specs.Line.{refused_line, most_line, least_line}

-- what a command gives: the state after it, the line it prints, if any, and whether it is the last
pub record Done : Type 0 where
  pub state : State
  pub line : List ℕ
  pub last : Bool

-- the job goes on in a world
abbrev pub going : World → List ℕ → Done
going w printed = record { state = begun w; line = printed; last = false }

-- ---- M and R

-- 0 for automatic
unfoldable pub job_spacing : ℕ → Spacing
job_spacing zero = Automatic
job_spacing (suc n) = Cells (suc n)

-- buffers that are long enough for every grid that a job takes
unfoldable pub job_buffers : Buffers
job_buffers = buffers (replicate job_sums 0) (replicate job_cells 0) (replicate job_cells 0)

-- M's answer is a line; the world is as it was
unfoldable pub most_done : World → Answer MostPopulous → Answer Done
most_done w (answered f) = answered (going w (most_line f))
most_done w (refused n) = refused n

-- R's answer is a line, and the ledger is the call's
unfoldable pub least_done : Map → SmallestOutcome → Answer Smallest → Answer Done
least_done m o (answered a) = answered (going (world m o.ledger) (least_line a))
least_done m o (refused n) = refused n

-- ---- a command in a world

-- question 15: rows and columns on the grid, and an offset up to closing
unfoldable pub placed : Bool → World → Answer Done
placed on w = decide (first_no (question 15 on ∷ [])) (going w [])

-- a command after G
unfoldable pub in_world : World → Command → Answer Done
in_world w (SetGrid g) = refused 14
in_world w (SetCount x n) = placed (on_grid w.map.globe.grid x) (with_map w (with_count w.map x n))
in_world w (SetCosine row x) = placed (row_on_grid w.map.globe.grid row) (with_map w (with_cosine w.map row x))
in_world w (SetAngle centre row offset x) =
    placed (angle_on w.map.globe.grid centre row offset) (with_map w (with_angle w.map centre row offset x))
in_world w (Most spacing km) = most_done w (search_call w.map (job_spacing spacing) km job_buffers).answer
in_world w (Least spacing share) =
    let o = smallest_call w.map (job_spacing spacing) share w.ledger job_buffers in
    least_done w.map o o.answer
in_world w End = answered (record { state = begun w; line = []; last = true })

-- the first command is G: 14 for any other, and for a grid too large; then questions 1 to 3
unfoldable pub first : Ledger → Command → Answer Done
first l (SetGrid g) = decide (first_no (question 14 (size_taken g) ∷ grid_questions g)) (going (world (empty_map g) (emptied l)) [])
first l (SetCount x n) = refused 14
first l (SetCosine row x) = refused 14
first l (SetAngle centre row offset x) = refused 14
first l (Most spacing km) = refused 14
first l (Least spacing share) = refused 14
first l End = refused 14

-- a command in a state
unfoldable pub apply : State → Command → Answer Done
apply (empty l) c = first l c
apply (begun w) c = in_world w c

-- a refusal leaves the state as before the command, prints its number and ends the job
unfoldable pub settle : State → Answer Done → Done
settle s (answered d) = d
settle s (refused n) = record { state = s; line = refused_line n; last = true }

-- what a command does
unfoldable pub applied : State → Command → Done
applied s c = settle s (apply s c)

-- opens all of the above, for facts that are computed
unfoldable pub open_applied : Unit {0}
unfolding job_spacing job_buffers most_done least_done placed in_world first apply settle applied
open_applied = tt
