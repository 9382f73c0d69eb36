-- A run's output under way.
use Rattle.std.specs.Prelude.{ℕ, ◌+◌, List, ◌++◌, length, take, drop}
use Rattle.job_output.specs.Output.{printed_into, Output, output_of}

-- a text from a place on, in a buffer; the count goes on from that place
unfoldable pub added : ℕ → List ℕ → List ℕ → Output
added place text buffer = output_of (place + length text) (take place buffer ++ printed_into text (drop place buffer))
