-- What a job prints, whatever its bytes are.
use Rattle.std.specs.Prelude.{ℕ, ◌+◌, ◌*◌, ◌≤◌, ◌≡◌, List, [], ◌++◌, length, take}
use Rattle.search_rules.specs.declared.MostPopulous.{MostPopulous}
use Rattle.ledger.specs.declared.Ledger.{Ledger}
use Rattle.probes.specs.declared.Smallest.{Smallest}
use Rattle.job_lines.specs.Line.{refused_line, most_line, least_line, longest_line}
use Rattle.job_world.specs.World.{empty}
use Rattle.job_rules.specs.Job.{lines_from, job, most_bytes, program}
use Rattle.job_output.specs.Output.{printed_into}

-- whole lines: answers, and at most one refusal, the last
pub data Lines : List ℕ → Type 0 where
  nothing : Lines []
  refusal : (n : ℕ) → Lines (refused_line n)
  most : (f : MostPopulous) (more : List ℕ) → Lines more → Lines (most_line f ++ more)
  least : (a : Smallest) (more : List ℕ) → Lines more → Lines (least_line a ++ more)

-- as many bytes as are printed for each byte read, at most: a command that prints a line and goes on has at least 5
abbrev pub per_byte : ℕ
per_byte = 48

-- the most bytes that the program prints: for each byte read, and a last line
abbrev pub most_output : ℕ
most_output = per_byte * most_bytes + longest_line

-- of any bytes at all: the program prints such lines, and a buffer of so many bytes takes all of them
pub record AnyJob : Type 0 where
  pub lines : (l : Ledger) (bs : List ℕ) → Lines (program l bs)
  pub fits : (l : Ledger) (bs : List ℕ) → length (program l bs) ≤ most_output
  -- the fuel of a job suffices: with more of it the lines are the same
  pub fuel : (l : Ledger) (bs : List ℕ) (more : ℕ) → lines_from (length bs + 1 + more) (empty l) bs ≡ job l bs
  pub whole : (l : Ledger) (bs buffer : List ℕ) → most_output ≤ length buffer
      → take (length (program l bs)) (printed_into (program l bs) buffer) ≡ program l bs
