-- A step by its branches: a command that is applied, and bytes that are none.
use Prim.Native.Nat.{ℕ}
use mathlib.Core.Path.{◌≡◌, sym, ap}
use mathlib.Core.List.{List}
use lib.ListN.{drop}
use Rattle.std.proofs.Common.{Option, Some, None}
use Rattle.job_rules.specs.declared.Applied.{Applied}
use Rattle.job_commands.specs.declared.Command.{Command}
use Rattle.job_commands.specs.declared.Decoded.{Decoded}
use Rattle.job_world.specs.declared.JobState.{JobState}
use Rattle.job_commands.specs.Command.{decode}
use Rattle.job_commands.specs.State.{decoded_in}
use Rattle.job_rules.specs.State.{refused_in, applied_in, stepped_to, stepped_by, stepped_in}

module _ (bs : List ℕ) (at : ℕ) (s : JobState) (d : Option Decoded) (is : d ≡ decoded_in bs (decode (drop at bs))) (done : Applied) where
  pub step_applied : (c : Command) (next : ℕ) → d ≡ Some (record { command = c; next = next }) → done ≡ applied_in s c → stepped_to next done ≡ stepped_in bs at s
  unfolding stepped_in stepped_by
  step_applied c next e h = rw (sym is, e) (ap (stepped_to next) h)

  pub step_malformed : d ≡ None → done ≡ refused_in s 13 → stepped_to at done ≡ stepped_in bs at s
  unfolding stepped_in stepped_by
  step_malformed e h = rw (sym is, e) (ap (stepped_to at) h)
