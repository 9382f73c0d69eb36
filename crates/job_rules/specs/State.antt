-- What a command and a step give, as the code has it.
use Rattle.std.specs.Prelude.{ℕ, ◌≡◌, true, false, Option, Some, None, List, drop}
use Rattle.grid.specs.Answer.{Answer, answered, refused}
use Rattle.smallest_rules.specs.Call.{smallest_call}
use Rattle.job_commands.specs.declared.Command.{Command}
use Rattle.job_commands.specs.declared.Command.TheVariants.{SetGrid, SetCount, SetCosine, SetAngle, Most, Least, End}
use Rattle.job_commands.specs.declared.Decoded.{Decoded}
use Rattle.job_commands.specs.Command.{decode}
use Rattle.job_commands.specs.State.{decoded_in}
use Rattle.job_lines.specs.declared.Line.{Line}
use Rattle.job_lines.specs.Line.{refused_line}
use Rattle.job_lines.specs.State.{text_of, line_of}
use Rattle.job_world.specs.declared.JobState.{JobState}
use Rattle.job_world.specs.State.{job_map, world_of, state_of, grid_state, count_state, cosine_state, angle_state, ledger_state}
use Rattle.job_rules.specs.declared.Applied.{Applied}
use Rattle.job_rules.specs.declared.StepResult.{StepResult}
use Rattle.job_rules.specs.Apply.{Done, job_spacing, job_buffers, in_world, first, apply, applied}
use Rattle.job_rules.specs.Job.{Step, step_after, step}

-- ---- what is seen of them

-- what a command gives, as the code has it
unfoldable pub done_of : Applied → Done
done_of a = record { state = state_of a.state; line = text_of a.line; last = a.last }

-- a step as the code has it: the bytes left are those of the job from the next place on
unfoldable pub step_of : List ℕ → StepResult → Step
step_of bs r = step_after (drop r.next bs) (record { state = state_of r.state; line = text_of r.line; last = r.ended })

-- ---- all of them: every place of the state, every byte of the line, and the place after the command

-- the state after a command that is not refused
unfoldable pub command_state : JobState → Command → JobState
command_state s (SetGrid g) = grid_state s.ledger g
command_state s (SetCount x n) = count_state s x n
command_state s (SetCosine row x) = cosine_state s row x
command_state s (SetAngle centre row offset x) = angle_state s centre row offset x
command_state s (Most spacing km) = s
command_state s (Least spacing share) = ledger_state s (smallest_call (job_map s) (job_spacing spacing) share s.ledger job_buffers).ledger
command_state s End = s

-- a refusal keeps the state
unfoldable pub refused_in : JobState → ℕ → Applied
refused_in s n = record { state = s; line = line_of (refused_line n); last = true }

-- the job goes on, with a line that may be none
unfoldable pub gone_on : JobState → Line → Applied
gone_on s line = record { state = s; line = line; last = false }

-- a command by its answer
unfoldable pub done_in : JobState → Command → Answer Done → Applied
done_in s c (answered d) = record { state = command_state s c; line = line_of d.line; last = d.last }
done_in s c (refused n) = refused_in s n

-- the first command, and a later one
abbrev pub first_in : JobState → Command → Applied
first_in s c = done_in s c (first s.ledger c)

abbrev pub later_in : JobState → Command → Applied
later_in s c = done_in s c (in_world (world_of s) c)

-- a command in its turn
unfoldable pub applied_in : JobState → Command → Applied
applied_in s c = done_in s c (apply (state_of s) c)

-- a step by what its command gave and the place after it
unfoldable pub stepped_to : ℕ → Applied → StepResult
stepped_to next a = record { state = a.state; line = a.line; next = next; ended = a.last }

-- by what is decoded: bytes that are no command are not passed over
unfoldable pub stepped_by : JobState → ℕ → Option Decoded → StepResult
stepped_by s at (Some d) = stepped_to d.next (applied_in s d.command)
stepped_by s at None = stepped_to at (refused_in s 13)

unfoldable pub stepped_in : List ℕ → ℕ → JobState → StepResult
stepped_in bs at s = stepped_by s at (decoded_in bs (decode (drop at bs)))

-- ---- what is seen of these is what the definitions of a job give

pub record StepsSeen : Type 0 where
  pub done : (s : JobState) (c : Command) → done_of (applied_in s c) ≡ applied (state_of s) c
  pub stepped : (bs : List ℕ) (at : ℕ) (s : JobState) → step_of bs (stepped_in bs at s) ≡ step (state_of s) (drop at bs)
