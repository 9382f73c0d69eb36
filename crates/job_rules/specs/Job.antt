-- The job: its commands in turn, and all their lines.
use Rattle.std.specs.Prelude.{ℕ, zero, suc, ◌+◌, cond, List, [], ◌++◌, ltb, length}
use Rattle.grid.specs.Answer.{refused}
use Rattle.ledger.specs.declared.Ledger.{Ledger}
use Rattle.job_commands.specs.Command.{Decoding, command, malformed, decode}
use Rattle.job_lines.specs.Line.{refused_line}
use Rattle.job_world.specs.World.{State, empty}
use Rattle.job_rules.specs.Apply.{Done, settle, applied}

-- a step: the job goes on from a state after a line and with the bytes left, or it ends in a state with a last line, which may be none
pub data Step : Type 0 where
  next : State → List ℕ → List ℕ → Step
  ended : State → List ℕ → Step

-- a step by what its command gave, with the bytes after it
unfoldable pub step_after : List ℕ → Done → Step
step_after rest d = cond d.last (ended d.state d.line) (next d.state d.line rest)

-- by what the bytes begin with: 13 for no command, judged before anything else
unfoldable pub step_with : State → Decoding → Step
step_with s malformed = step_after [] (settle s (refused 13))
step_with s (command c rest) = step_after rest (applied s c)

-- the command that the bytes begin with
unfoldable pub step : State → List ℕ → Step
step s bs = step_with s (decode bs)

-- the lines from a state on; each command takes a byte at least, so as much fuel as bytes and one more suffices
unfoldable pub lines_from : ℕ → State → List ℕ → List ℕ
lines_from zero s bs = []
lines_from (suc fuel) s bs = elim (step s bs) [ next t line rest ↦ line ++ lines_from fuel t rest | ended t line ↦ line ]

-- all lines of a job, from a ledger
unfoldable pub job : Ledger → List ℕ → List ℕ
job l bs = lines_from (length bs + 1) (empty l) bs

-- the most bytes that the program reads
abbrev pub most_bytes : ℕ
most_bytes = 65536

-- what the program prints: `refused 13` alone for an input that is too long
unfoldable pub program : Ledger → List ℕ → List ℕ
program l bs = let lines = job l bs in cond (ltb most_bytes (length bs)) (refused_line 13) lines

-- opens all of the above, for facts that are computed
unfoldable pub open_jobs : Unit {0}
unfolding step_after step_with step lines_from job program
open_jobs = tt
