-- What is decoded, as the code has it: by the place of the next byte.
use Rattle.std.specs.Prelude.{ℕ, ◌-◌, Option, Some, None, List, length, drop}
use Rattle.job_commands.specs.declared.Decoded.{Decoded}
use Rattle.job_commands.specs.Command.{Decoding, command, malformed}

-- what a job's bytes give, whole: the next place is where the bytes left begin, the end where none are
unfoldable pub decoded_in : List ℕ → Decoding → Option Decoded
decoded_in job (command c rest) = Some (record { command = c; next = length job - length rest })
decoded_in job malformed = None

-- and back: the bytes left are those from the next place on
unfoldable pub decoded_of : List ℕ → Option Decoded → Decoding
decoded_of job (Some d) = command d.command (drop d.next job)
decoded_of job None = malformed
