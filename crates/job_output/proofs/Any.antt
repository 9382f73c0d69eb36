-- Any bytes at all: whole lines and at most one refusal, and how many bytes they have.
use Prim.Native.Nat.{ℕ, zero, suc, ◌+◌, ◌*◌, ◌≤◌, ◌<◌}
use mathlib.Core.Path.{◌≡◌, refl, sym, ◌∙◌, ap}
use mathlib.Core.Bool.{Bool, true, false, cond}
use mathlib.Core.List.{List, [], ◌∷◌, ◌++◌}
use native.Mathlib.Omega.{arith}
use borrow.Author.Tests.{ltb-false}
use lib.Dec.{ltb}
use lib.ListN.{length, take, length-append}
use Rattle.ledger.specs.declared.Ledger.{Ledger}
use Rattle.ledger.specs.State.{fresh_ledger}
use Rattle.job_lines.specs.Line.{refused_line, most_line, least_line, longest_line}
use Rattle.job_world.specs.World.{State, empty}
use Rattle.job_rules.specs.Job.{Step, step, lines_from, job, most_bytes, program}
use Rattle.job_lines.proofs.Lengths.{length_refused, length_most, length_least}
use Rattle.job_output.specs.Output.{printed_into, Output, output_of, output}
use Rattle.job_output.specs.Lines.{Lines, nothing, refusal, most, least, per_byte, most_output, AnyJob}
use Rattle.job_output.proofs.Running.{lines_next, lines_ended}
use Rattle.job_output.proofs.Shapes.{Shape, on_silent, on_most, on_least, at_end, at_refusal, step_shape}

-- ---- lines

lines_any : (fuel : ℕ) (s : State) (bs : List ℕ) → Lines (lines_from fuel s bs)
unfolding lines_from
lines_any zero s bs = nothing
lines_any (suc fuel) s bs = go (lines_any fuel) refl (step_shape s bs)
  where
    go : ((t : State) (rest : List ℕ) → Lines (lines_from fuel t rest)) → {d : Step} → step s bs ≡ d → Shape (length bs) d → Lines (lines_from (suc fuel) s bs)
    go more e (on_silent t rest h) = rw (lines_next fuel s t bs [] rest e) (more t rest)
    go more e (on_most t f rest h) = rw (lines_next fuel s t bs (most_line f) rest e) (most f _ (more t rest))
    go more e (on_least t a rest h) = rw (lines_next fuel s t bs (least_line a) rest e) (least a _ (more t rest))
    go more e (at_end t) = rw (lines_ended fuel s t bs [] e) nothing
    go more e (at_refusal t n) = rw (lines_ended fuel s t bs (refused_line n) e) (refusal n)

-- ---- how many bytes

length_lines : (fuel : ℕ) (s : State) (bs : List ℕ) → length (lines_from fuel s bs) ≤ per_byte * length bs + longest_line
unfolding lines_from
length_lines zero s bs = omega arith
length_lines (suc fuel) s bs = go (length_lines fuel) refl (step_shape s bs)
  where
    go : ((t : State) (rest : List ℕ) → length (lines_from fuel t rest) ≤ per_byte * length rest + longest_line) → {d : Step} → step s bs ≡ d → Shape (length bs) d → length (lines_from (suc fuel) s bs) ≤ per_byte * length bs + longest_line
    go more e (on_silent t rest h) = rw (lines_next fuel s t bs [] rest e) (omega (arith, more t rest))
    go more e (on_most t f rest h) =
        rw (lines_next fuel s t bs (most_line f) rest e) (omega (arith, more t rest, length_most f, length-append (most_line f) (lines_from fuel t rest)))
    go more e (on_least t a rest h) =
        rw (lines_next fuel s t bs (least_line a) rest e) (omega (arith, more t rest, length_least a, length-append (least_line a) (lines_from fuel t rest)))
    go more e (at_end t) = rw (lines_ended fuel s t bs [] e) (omega arith)
    go more e (at_refusal t n) = rw (lines_ended fuel s t bs (refused_line n) e) (omega (arith, length_refused n))

-- ---- more fuel than bytes and one more changes nothing

fuel_suffices : (fuel : ℕ) (s : State) (bs : List ℕ) → length bs < fuel → lines_from (suc fuel) s bs ≡ lines_from fuel s bs
fuel_suffices zero s bs h = absurd (omega arith)
fuel_suffices (suc fuel) s bs h = go (fuel_suffices fuel) refl (step_shape s bs)
  where
    go : ((t : State) (rest : List ℕ) → length rest < fuel → lines_from (suc fuel) t rest ≡ lines_from fuel t rest) → {d : Step} → step s bs ≡ d → Shape (length bs) d → lines_from (suc (suc fuel)) s bs ≡ lines_from (suc fuel) s bs
    go more e (on_silent t rest k) = rw (lines_next (suc fuel) s t bs [] rest e, lines_next fuel s t bs [] rest e) (more t rest (omega arith))
    go more e (on_most t f rest k) =
        rw (lines_next (suc fuel) s t bs (most_line f) rest e, lines_next fuel s t bs (most_line f) rest e) (ap (λ (x : List ℕ). most_line f ++ x) (more t rest (omega arith)))
    go more e (on_least t a rest k) =
        rw (lines_next (suc fuel) s t bs (least_line a) rest e, lines_next fuel s t bs (least_line a) rest e) (ap (λ (x : List ℕ). least_line a ++ x) (more t rest (omega arith)))
    go more e (at_end t) = lines_ended (suc fuel) s t bs [] e ∙ sym (lines_ended fuel s t bs [] e)
    go more e (at_refusal t n) = lines_ended (suc fuel) s t bs (refused_line n) e ∙ sym (lines_ended fuel s t bs (refused_line n) e)

fuel_more : (l : Ledger) (bs : List ℕ) (more : ℕ) → lines_from (length bs + 1 + more) (empty l) bs ≡ job l bs
unfolding job
fuel_more l bs zero = let all : length bs + 1 + 0 ≡ length bs + 1 = omega arith in rw all
fuel_more l bs (suc more) =
    let next : length bs + 1 + suc more ≡ suc (length bs + 1 + more) = omega arith in
    rw next (fuel_suffices (length bs + 1 + more) (empty l) bs (omega arith) ∙ fuel_more l bs more)

-- ---- the program

written_whole : (text buffer : List ℕ) → length text ≤ length buffer → take (length text) (printed_into text buffer) ≡ text
unfolding printed_into
written_whole [] buffer h = refl
written_whole (x ∷ text) [] h = absurd (omega arith)
written_whole (x ∷ text) (b ∷ buffer) h = ap (λ (t : List ℕ). x ∷ t) (written_whole text buffer (omega arith))

program_lines : (l : Ledger) (bs : List ℕ) → Lines (program l bs)
unfolding program job
program_lines l bs = go (ltb most_bytes (length bs))
  where
    go : (b : Bool) → Lines (cond b (refused_line 13) (job l bs))
    go true = refusal 13
    go false = lines_any (length bs + 1) _ bs

pub program_fits : (l : Ledger) (bs : List ℕ) → length (program l bs) ≤ most_output
unfolding program job
program_fits l bs = go (ltb most_bytes (length bs)) refl
  where
    go : (b : Bool) → ltb most_bytes (length bs) ≡ b → length (cond b (refused_line 13) (job l bs)) ≤ most_output
    go true e = omega (arith, length_refused 13)
    go false e = omega (arith, ltb-false most_bytes (length bs) e, length_lines (length bs + 1) (empty l) bs)

pub any_job : AnyJob
any_job =
    record {
      lines = program_lines;
      fits = program_fits;
      fuel = fuel_more;
      whole = λ l bs buffer h. written_whole (program l bs) buffer (omega (arith, program_fits l bs));
    }

-- of a run's count
pub count_fits : (n : ℕ) (bs buffer out : List ℕ) → output_of n buffer ≡ output (program fresh_ledger bs) out → n ≤ most_output
unfolding output
count_fits n bs buffer out e = let k : n ≡ length (program fresh_ledger bs) = ap (λ (o : Output). o.count) e in omega (arith, program_fits fresh_ledger bs)
