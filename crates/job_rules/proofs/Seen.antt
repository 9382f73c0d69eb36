-- What is seen of a command and of a step, whole as the code has them, is what the definitions of the job give.
use Prim.Native.Nat.{ℕ, zero, suc}
use mathlib.Core.Path.{◌≡◌, refl, ◌∙◌, ap}
use mathlib.Core.Bool.{Bool, true, false}
use mathlib.Core.List.{List, [], ◌∷◌}
use lib.Ieee.{Float}
use Rattle.std.proofs.Common.{Option, Some, None}
use lib.ListN.{drop}
use Rattle.grid.specs.declared.Grid.{Grid}
use Rattle.grid.specs.Answer.{question, first_no, Answer, answered, refused, decide}
use Rattle.grid.specs.Questions.{grid_questions}
use Rattle.search_rules.specs.declared.MostPopulous.{MostPopulous}
use Rattle.probes.specs.declared.Smallest.{Smallest}
use Rattle.smallest_rules.specs.Call.{smallest_call}
use Rattle.job_commands.specs.declared.Command.{Command}
use Rattle.job_commands.specs.declared.Command.TheVariants.{SetGrid, SetCount, SetCosine, SetAngle, Most, Least, End}
use Rattle.job_commands.specs.declared.Decoded.{Decoded}
use Rattle.job_commands.specs.Command.{decode}
use Rattle.job_commands.specs.State.{decoded_in, decoded_of}
use Rattle.job_commands.proofs.Seen.{decoded_seen}
use Rattle.job_lines.specs.Line.{refused_line}
use Rattle.job_lines.proofs.Texts.{text_line}
use Rattle.job_world.specs.declared.JobState.{JobState}
use Rattle.job_sizes.specs.Sizes.{size_taken}
use Rattle.job_world.specs.World.{World, world, begun, empty_map, emptied}
use Rattle.job_world.specs.State.{job_map, world_of, state_of}
use Rattle.job_world.proofs.Maps.{states_seen}
use Rattle.job_rules.specs.Apply.{Done, going, job_spacing, job_buffers, most_done, least_done, placed, in_world, first, apply, settle, applied}
use Rattle.job_rules.specs.Job.{step_after, step_with, step}
use Rattle.job_rules.specs.State.{done_of, step_of, command_state, refused_in, done_in, applied_in, stepped_to, stepped_by, stepped_in, StepsSeen}
use Rattle.job_rules.proofs.Commands.{state_begun, apply_early, apply_begun}

module _ (s : JobState) where
  refused_seen : (n : ℕ) → done_of (refused_in s n) ≡ settle (state_of s) (refused n)
  unfolding done_of refused_in settle
  refused_seen n = rw (text_line (refused_line n))

  module _ (c : Command) where
    abbrev Seen : Answer Done → Type 0
    Seen a = done_of (done_in s c a) ≡ settle (state_of s) a

    no_seen : (n : ℕ) → Seen (refused n)
    unfolding done_in
    no_seen n = refused_seen n

    -- an answer is seen where its state is
    yes_seen : (d : Done) → state_of (command_state s c) ≡ d.state → Seen (answered d)
    unfolding done_in done_of settle
    yes_seen d h = rw (h, text_line d.line)

    decided_seen : (n : ℕ) (d : Done) → state_of (command_state s c) ≡ d.state → Seen (decide n d)
    unfolding decide
    decided_seen zero d h = yes_seen d h
    decided_seen (suc n) d h = no_seen (suc n)

    placed_seen : (on : Bool) (w : World) → state_of (command_state s c) ≡ begun w → Seen (placed on w)
    unfolding placed
    placed_seen on w h = decided_seen _ (going w []) h

  first_seen : (g : Grid) (b : Bool) → size_taken g ≡ b
      → Seen (SetGrid g) (decide (first_no (question 14 b ∷ grid_questions g)) (going (world (empty_map g) (emptied s.ledger)) []))
  unfolding first_no command_state decide
  first_seen g true e = decided_seen (SetGrid g) (first_no (grid_questions g)) _ (states_seen.grid s.ledger g e)
  first_seen g false e = no_seen (SetGrid g) 14

  most_seen : (spacing km : ℕ) (a : Answer MostPopulous) → s.begun ≡ true → Seen (Most spacing km) (most_done (world_of s) a)
  unfolding most_done command_state
  most_seen spacing km (answered f) h = yes_seen (Most spacing km) _ (state_begun s h)
  most_seen spacing km (refused n) h = no_seen (Most spacing km) n

  least_seen : (spacing : ℕ) (share : Float) (a : Answer Smallest)
      → Seen (Least spacing share) (least_done (job_map s) (smallest_call (job_map s) (job_spacing spacing) share s.ledger job_buffers) a)
  unfolding least_done command_state
  least_seen spacing share (answered a) = yes_seen (Least spacing share) _ (states_seen.ledger s _)
  least_seen spacing share (refused n) = no_seen (Least spacing share) n

  early_seen : (c : Command) → Seen c (first s.ledger c)
  unfolding first
  early_seen (SetGrid g) = first_seen g (size_taken g) refl
  early_seen (SetCount x n) = no_seen _ 14
  early_seen (SetCosine row x) = no_seen _ 14
  early_seen (SetAngle centre row offset x) = no_seen _ 14
  early_seen (Most spacing km) = no_seen _ 14
  early_seen (Least spacing share) = no_seen _ 14
  early_seen End = no_seen _ 14

  begun_seen : (c : Command) → s.begun ≡ true → Seen c (in_world (world_of s) c)
  unfolding in_world world_of command_state
  begun_seen (SetGrid g) h = no_seen (SetGrid g) 14
  begun_seen (SetCount x n) h = placed_seen (SetCount x n) _ _ (states_seen.count s x n)
  begun_seen (SetCosine row x) h = placed_seen (SetCosine row x) _ _ (states_seen.cosine s row x)
  begun_seen (SetAngle centre row offset x) h = placed_seen (SetAngle centre row offset x) _ _ (states_seen.angle s centre row offset x)
  begun_seen (Most spacing km) h = most_seen spacing km _ h
  begun_seen (Least spacing share) h = least_seen spacing share _
  begun_seen End h = yes_seen End _ (state_begun s h)

  done_seen : (c : Command) → done_of (applied_in s c) ≡ applied (state_of s) c
  unfolding applied_in applied
  done_seen c = go s.begun refl
    where
      go : (b : Bool) → s.begun ≡ b → Seen c (apply (state_of s) c)
      go true e = rw (apply_begun s c e) (begun_seen c e)
      go false e = rw (apply_early s c e) (early_seen c)

  module _ (bs : List ℕ) (at : ℕ) where
    decoded_step : (d : Option Decoded) → step_of bs (stepped_by s at d) ≡ step_with (state_of s) (decoded_of bs d)
    unfolding stepped_by stepped_to step_of step_with decoded_of done_of step_after settle
    decoded_step (Some d) = ap (step_after (drop d.next bs)) (done_seen d.command)
    decoded_step None = ap (step_after (drop at bs)) (refused_seen 13)

    step_seen : step_of bs (stepped_in bs at s) ≡ step (state_of s) (drop at bs)
    unfolding stepped_in step
    step_seen = decoded_step (decoded_in bs (decode (drop at bs))) ∙ ap (step_with (state_of s)) (decoded_seen bs at)

pub steps_seen : StepsSeen
steps_seen = record { done = done_seen; stepped = λ bs at s. step_seen s bs at }
