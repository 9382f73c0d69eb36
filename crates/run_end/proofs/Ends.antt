-- The end of a run: its answer is the definition's, and what it reads of the sheet.
use Prim.Native.Nat.{ℕ}
use mathlib.Core.Path.{◌≡◌, refl}
use mathlib.Core.Bool.{false, not}
use mathlib.Core.List.{List}
use Rattle.std.proofs.lemmas.Bool.{not-false}
use lib.Dec.{ltb}
use lib.Ieee.{Float}
use borrow.Author.Tests.{ltb-true}
use Rattle.lists.proofs.Bools.{and_left}
use Rattle.floats.specs.Binary.{whole}
use Rattle.grid.specs.declared.Grid.{Grid}
use Rattle.grid.specs.Grid.{on_grid}
use Rattle.grid.specs.Map.{Globe, Map, angle_at, globe_of, sheet_of}
use Rattle.sums.specs.Sums.{total}
use Rattle.circle_cells.specs.Circle.{angle_to, in_circle, covers_whole_grid}
use Rattle.reach.specs.Requires.{OnSheet}
use Rattle.kernel.specs.declared.Kernel.{Kernel}
use Rattle.kernel.specs.Kernel.{kernel_of, kernel_covers}
use Rattle.kernel.proofs.WholeGrid.{kernel_covers_lem}
use Rattle.spacing.specs.declared.Spacing.{Spacing}
use Rattle.candidates.specs.declared.Candidate.{Candidate}
use Rattle.ledger.specs.declared.Ledger.{Ledger}
use Rattle.climb.specs.Climb.{Ended, all_short, reached_at}
use Rattle.share.specs.declared.Target.{Target}
use Rattle.share.specs.Target.{target_of, predicate_slack_persons}
use Rattle.probes.specs.declared.RunEnd.{RunEnd}
use Rattle.probes.specs.Probes.{Run, smallest_run}
use Rattle.probes.specs.Smallest.{Settled, smallest_at, concluded, smallest}
use Rattle.probes.specs.Requires.{CanConclude}
use Rattle.probes.specs.State.{end_at, Ran, ran_to, ran, end_covers, answer_by}

-- the answer by where a run has ended, beside its ledger
abbrev pub settled_by : Map → Float → Ran → Settled
settled_by m share r =
    record {
      answer = answer_by m.globe (target_of share (total m)) (predicate_slack_persons m.globe.grid (whole (total m))) (total m) r.end;
      ledger = r.ledger;
    }

ran_concludes : (m : Map) (share : Float) (e : Ended Run Candidate) → settled_by m share (ran_to m share e) ≡ concluded m share e
unfolding ran_to end_at answer_by end_covers concluded smallest_at
ran_concludes m share (all_short r) = refl
ran_concludes m share (reached_at r km c) = refl

-- THE ANSWER OF A RUN IS THE DEFINITION'S
pub ran_settles : (m : Map) (spacing : Spacing) (share : Float) (l : Ledger) → settled_by m share (ran m spacing share l) ≡ smallest m spacing share l
unfolding ran smallest
ran_settles m spacing share l = ran_concludes m share (smallest_run m spacing share l)

-- where the target was reached the kernel at the end tells
pub told_by_kernel : (s : Globe) (e : RunEnd) → not e.reached ≡ false → OnSheet s.grid s.angles e.centre.row → (k : Kernel)
    → k ≡ kernel_of s e.centre.row (whole e.radius_km.0) → kernel_covers s.grid k ≡ end_covers s e
unfolding end_covers
told_by_kernel s e r on k is = rw (is, not-false e.reached r) (kernel_covers_lem s e.centre.row on (whole e.radius_km.0))

pub row_on : {g : Grid} {angles : List Float} {people : ℕ} {e : RunEnd} → CanConclude g angles people e → OnSheet g angles e.centre.row
unfolding on_grid
row_on {g} {e = e} can =
    record { sheet = can.sheet; on = ltb-true _ _ (and_left (ltb e.centre.row.0 g.height) (ltb e.centre.col.0 g.width) can.centre.on) }

-- no cosine is read
pub answer_sheet : (g : Grid) (angles cosines : List Float) (t : Target) (slack : Float) (people : ℕ) (e : RunEnd)
    → answer_by (sheet_of g angles) t slack people e ≡ answer_by (globe_of g angles cosines) t slack people e
unfolding answer_by end_covers covers_whole_grid in_circle angle_to angle_at
answer_sheet g angles cosines t slack people e = refl
