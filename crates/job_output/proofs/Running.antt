-- The steps in turn: the lines so far stand in the buffer, and with the lines to come they are the job's.
use Prim.Native.Nat.{ℕ, suc, ◌+◌, ◌-◌, ◌*◌, ◌≤◌, ◌<◌}
use mathlib.Core.Path.{◌≡◌, refl, sym, ◌∙◌, ap}
use mathlib.Core.Bool.{true, false}
use mathlib.Core.List.{List, [], ◌++◌, append_assoc, append-nil}
use native.Mathlib.Omega.{arith}
use borrow.Author.Tests.{lt-ltb, le-ltb}
use lib.ListN.{length, drop}
use Rattle.ledger.specs.State.{fresh_ledger}
use Rattle.job_lines.specs.declared.Line.{Line}
use Rattle.job_rules.specs.declared.StepResult.{StepResult}
use Rattle.job_lines.specs.State.{line_room, text_of, line_of}
use Rattle.job_lines.proofs.Texts.{text_line}
use Rattle.job_lines.specs.Line.{refused_line}
use Rattle.job_world.specs.declared.JobState.{JobState}
use Rattle.job_world.specs.World.{State}
use Rattle.job_world.specs.State.{state_of, start_state}
use Rattle.job_world.proofs.Maps.{states_seen}
use Rattle.job_rules.specs.Job.{next, ended, step_after, step, lines_from, job, most_bytes, program}
use Rattle.job_rules.specs.State.{step_of, stepped_in}
use Rattle.job_rules.proofs.Seen.{steps_seen}
use Rattle.job_output.specs.Output.{printed_into, Output, output_of, output}
use Rattle.job_output.specs.State.{added}
use Rattle.job_output.proofs.Written.{added_written}

pub lines_next : (fuel : ℕ) (s t : State) (bs line rest : List ℕ) → step s bs ≡ next t line rest → lines_from (suc fuel) s bs ≡ line ++ lines_from fuel t rest
unfolding lines_from
lines_next fuel s t bs line rest e = rw (e, lines_from)

pub lines_ended : (fuel : ℕ) (s t : State) (bs line : List ℕ) → step s bs ≡ ended t line → lines_from (suc fuel) s bs ≡ line
unfolding lines_from
lines_ended fuel s t bs line e = rw (e, lines_from)

-- ---- a step as the code has it

step_next : (bs : List ℕ) (r : StepResult) → r.ended ≡ false → step_of bs r ≡ next (state_of r.state) (text_of r.line) (drop r.next bs)
unfolding step_of step_after
step_next bs r e = rw e

step_ended : (bs : List ℕ) (r : StepResult) → r.ended ≡ true → step_of bs r ≡ ended (state_of r.state) (text_of r.line)
unfolding step_of step_after
step_ended bs r e = rw e

-- ---- the loop

-- after i steps, with a line each at most
pub record Under (bytes out₀ out : List ℕ) (s : State) (at count i : ℕ) : Type 0 where
  pub text : List ℕ
  pub turn : i ≤ length bytes + 1
  pub few : count ≤ line_room * i
  pub counted : count ≡ length text
  pub there : out ≡ printed_into text out₀
  pub same : text ++ lines_from (length bytes + 1 - i) s (drop at bytes) ≡ job fresh_ledger bytes

module _ (bytes out₀ : List ℕ) where
  pub under_none : (s : JobState) → s ≡ start_state → Under bytes out₀ out₀ (state_of s) 0 0 0
  unfolding job printed_into
  under_none s e =
      let all : length bytes + 1 - 0 ≡ length bytes + 1 = omega arith in
      record { text = []; turn = omega arith; few = omega arith; counted = refl; there = refl; same = rw (all, e, states_seen.start) }

  module _ (out : List ℕ) (s : JobState) (at count i : ℕ) (u : Under bytes out₀ out (state_of s) at count i) (i≤ : i ≤ length bytes) (r : StepResult) (is : r ≡ stepped_in bytes at s)
      (n : ℕ) (out' : List ℕ) (add : output_of n out' ≡ added count (text_of r.line) out) where
    behind : output_of n out' ≡ output (u.text ++ text_of r.line) out₀
    behind = add ∙ rw (u.counted, u.there) (added_written u.text (text_of r.line) out₀)

    seen : step_of bytes r ≡ step (state_of s) (drop at bytes)
    seen = ap (step_of bytes) is ∙ steps_seen.stepped bytes at s

    fuel : length bytes + 1 - i ≡ suc (length bytes + 1 - (i + 1))
    fuel = omega arith

    pub under_more : r.ended ≡ false → n ≤ count + line_room → Under bytes out₀ out' (state_of r.state) r.next n (i + 1)
    unfolding output
    under_more e short =
        let b = behind in
        let k : n ≡ length (u.text ++ text_of r.line) = ap (λ (o : Output). o.count) b in
        record {
          text = u.text ++ text_of r.line;
          turn = omega arith;
          few = omega (arith, u.few);
          counted = k;
          there = ap (λ (o : Output). o.buffer) b;
          same = append_assoc u.text (text_of r.line) _
              ∙ ap (λ (t : List ℕ). u.text ++ t) (sym (lines_next _ (state_of s) (state_of r.state) (drop at bytes) (text_of r.line) (drop r.next bytes) (sym seen ∙ step_next bytes r e)))
              ∙ (rw fuel at u.same);
        }

    pub under_ended : r.ended ≡ true → output_of n out' ≡ output (job fresh_ledger bytes) out₀
    under_ended e =
        let last : u.text ++ text_of r.line ≡ job fresh_ledger bytes
        = ap (λ (t : List ℕ). u.text ++ t) (sym (lines_ended _ (state_of s) (state_of r.state) (drop at bytes) (text_of r.line) (sym seen ∙ step_ended bytes r e))) ∙ (rw fuel at u.same) in
        behind ∙ ap (λ (t : List ℕ). output t out₀) last

  -- no fuel is left
  pub under_all : (out : List ℕ) (s : State) (at count i : ℕ) → Under bytes out₀ out s at count i → length bytes < i
      → output_of count out ≡ output (job fresh_ledger bytes) out₀
  unfolding lines_from output
  under_all out s at count i u h =
      let none : length bytes + 1 - i ≡ 0 = omega arith in
      let all : u.text ≡ job fresh_ledger bytes = sym (append-nil u.text) ∙ (rw none at u.same) in
      rw (u.counted, u.there, all)

-- ---- the program

pub too_long : (bs out : List ℕ) (line : Line) → most_bytes < length bs → line ≡ line_of (refused_line 13) → added 0 (text_of line) out ≡ output (program fresh_ledger bs) out
unfolding program printed_into
too_long bs out line h e = added_written [] (text_of line) out ∙ rw (lt-ltb most_bytes (length bs) h, e, text_line (refused_line 13))

pub job_run : (bs out : List ℕ) → length bs ≤ most_bytes → output (job fresh_ledger bs) out ≡ output (program fresh_ledger bs) out
unfolding program
job_run bs out h = rw (le-ltb most_bytes (length bs) h)
