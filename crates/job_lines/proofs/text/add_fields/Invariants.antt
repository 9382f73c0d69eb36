-- Fields behind fields.
use Rattle.std.proofs.Common.{◌≡◌, take}
use Rattle.job_lines.specs.State.{longer}
use Rattle.job_lines.specs.Line.{fields}
use Rattle.job_lines.proofs.text.add_fields.Given as goal

abbrev pub invariant-loop-n : goal.invariant-loop-n
invariant-loop-n l = l.line ≡ longer l.initial.line (fields (take l.n-index l.numbers))
