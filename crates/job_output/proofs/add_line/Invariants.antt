-- Byte behind byte.
use Rattle.std.proofs.Common.{◌≡◌, take}
use Rattle.job_output.proofs.Written.{from}
use Rattle.job_output.proofs.add_line.Given as goal

abbrev pub invariant-loop-i : goal.invariant-loop-i
invariant-loop-i l = l.out ≡ from l.place (take l.i l.text) l.initial.out
