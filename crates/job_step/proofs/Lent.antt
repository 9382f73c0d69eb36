-- What the two calls are lent beside the map, and what their answers make of the state.
use Prim.Native.Nat.{ℕ, zero, suc}
use mathlib.Core.Path.{◌≡◌, refl, sym, ◌∙◌, ap}
use mathlib.Core.Bool.{false}
use lib.Ieee.{Float}
use Rattle.grid.specs.Map.{Map}
use Rattle.spacing.specs.declared.Spacing.{Spacing}
use Rattle.spacing.specs.declared.Spacing.TheVariants.{Cells}
use Rattle.search_rules.specs.declared.MostPopulous.{MostPopulous}
use Rattle.std.specs.Prelude.{Result, Ok, Err}
use Rattle.grid.specs.declared.refusal.Refusal.{Refusal}
use Rattle.grid.specs.Refusal.{refusal_number, answer_of}
use Rattle.grid.specs.Answer.{Answer, answered, refused}
use Rattle.most_populous.specs.Call.{Buffers, SearchOutcome, search_call}
use Rattle.ledger.specs.declared.Ledger.{Ledger}
use Rattle.probes.specs.declared.Smallest.{Smallest}
use Rattle.smallest_rules.specs.Call.{SmallestOutcome, smallest_call}
use Rattle.job_commands.specs.declared.Command.TheVariants.{Most, Least}
use Rattle.job_lines.specs.declared.Line.{Line}
use Rattle.job_lines.specs.Line.{most_line, least_line}
use Rattle.job_lines.specs.State.{line_of}
use Rattle.job_world.specs.declared.JobState.{JobState}
use Rattle.job_world.specs.World.{world}
use Rattle.job_world.specs.State.{job_map, world_of, ledger_state}
use Rattle.job_rules.specs.Apply.{job_spacing, job_buffers, most_done, least_done, in_world}
use Rattle.job_rules.specs.declared.Applied.{Applied}
use Rattle.job_rules.specs.State.{command_state, refused_in, gone_on, later_in}
use Rattle.job_rules.proofs.Commands.{refused_by, gone_on_lem}
use Rattle.job_step.specs.declared.Printed.{Printed}
use Rattle.job_step.specs.State.{IsLeast}

pub spacing_cells : (n : ℕ) → (n ≡ 0 → ⊥) → Cells n ≡ job_spacing n
unfolding job_spacing
spacing_cells zero h = absurd (h refl)
spacing_cells (suc n) h = refl

-- ---- a command that goes on, by the state that it leaves and what it prints

pub goes_on : {s : JobState} {p : Printed} {line : Line} {a : Applied} → p ≡ record { line = line; last = false } → gone_on s line ≡ a
    → ◌≡◌ {A = Applied} (record { state = s; line = p.line; last = p.last }) a
unfolding gone_on
goes_on e h = rw e h

-- ---- M

module _ (s : JobState) (spacing km : ℕ) where
  abbrev answer : Answer MostPopulous
  answer = (search_call (job_map s) (job_spacing spacing) km job_buffers).answer

  pub most_found : {f : MostPopulous} {line : Line} → answered f ≡ answer → line ≡ line_of (most_line f) → gone_on s line ≡ later_in s (Most spacing km)
  unfolding in_world world_of most_done command_state
  most_found e q = gone_on_lem s (Most spacing km) (ap (most_done (world_of s)) e) refl q

  pub most_refused : {n : ℕ} → refused n ≡ answer → refused_in s n ≡ later_in s (Most spacing km)
  unfolding in_world world_of most_done
  most_refused e = refused_by s (Most spacing km) (ap (most_done (world_of s)) e)

pub search_lent : (m : Map) (p : Spacing) (km : ℕ) (o : SearchOutcome) (n : Map) (q : Spacing) → o ≡ search_call n q km job_buffers → n ≡ m → q ≡ p
    → o.answer ≡ (search_call m p km job_buffers).answer
search_lent m p km o n q h d e = rw (sym d, sym e) (ap (λ (x : SearchOutcome). x.answer) h)

-- ---- R

module _ (s : JobState) (spacing : ℕ) (share : Float) {r : Result Smallest Refusal} {l : Ledger}
    (is : IsLeast (smallest_call (job_map s) (job_spacing spacing) share s.ledger job_buffers) r l) where
  pub least_found : {a : Smallest} {t : JobState} {line : Line} → r ≡ Ok a → t ≡ ledger_state s l → line ≡ line_of (least_line a)
      → gone_on t line ≡ later_in s (Least spacing share)
  unfolding in_world world_of least_done command_state
  least_found {a} e p q =
      gone_on_lem s (Least spacing share) {w = world (job_map s) l} {printed = least_line a} (rw (sym is.answer, e, is.ledger)) (p ∙ ap (ledger_state s) is.ledger) q

  pub least_refused : {e : Refusal} → r ≡ Err e → refused_in s (refusal_number e) ≡ later_in s (Least spacing share)
  unfolding in_world world_of least_done
  least_refused {e} h = refused_by s (Least spacing share) (rw (sym is.answer, h))

pub smallest_lent : (m : Map) (p : Spacing) (share : Float) (l : Ledger) (r : Result Smallest Refusal) (l' : Ledger) (lent : Buffers) (n : Map) (q : Spacing)
    → ◌≡◌ {A = SmallestOutcome} (record { answer = answer_of r; ledger = l'; lent = lent }) (smallest_call n q share l job_buffers)
    → n ≡ m → q ≡ p → IsLeast (smallest_call m p share l job_buffers) r l'
smallest_lent m p share l r l' lent n q h d e =
    rw (sym d, sym e) (record { answer = ap (λ (x : SmallestOutcome). x.answer) h; ledger = ap (λ (x : SmallestOutcome). x.ledger) h })
