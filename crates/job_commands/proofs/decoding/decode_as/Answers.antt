-- A letter decides by itself; none of the seven is no command.
use Rattle.std.proofs.Common.{drop, arith}
use borrow.Author.Tests.{ne_eqb}
use Rattle.job_commands.specs.State.{decoded_in}
use Rattle.job_commands.proofs.Operands.{grid_within, count_within, cosine_within, angle_within, most_within, least_within}
use Rattle.job_commands.proofs.Operands.{operands_read, end_followed, end_last}
use Rattle.job_commands.specs.Command.{decode_as, set_grid_of, set_count_of, set_cosine_of, set_angle_of, most_of, least_of}
use Rattle.job_commands.proofs.decoding.decode_as.Goals as goal
use Rattle.job_commands.proofs.decoding.decode_as.Goals.{in-71+in_ok-first_chunk-in-71, in-67+in_ok-first_chunk-in-67, in-75+in_ok-first_chunk-in-75}
use Rattle.job_commands.proofs.decoding.decode_as.Goals.{in-65+in_ok-first_chunk-in-65, in-77+in_ok-first_chunk-in-77, in-82+in_ok-first_chunk-in-82, in-69}

pub returns-in_default : goal.returns-in_default
unfolding decode_as
returns-in_default c = rw c.in-69.is (end_followed c.args.bytes.now c.args.from c.requires (grind arith))

pub returns-in_default-2 : goal.returns-in_default-2
unfolding decode_as decoded_in
returns-in_default-2 c =
    let letter = c.args.letter in
    rw (
      ne_eqb letter 71 (omega arith),
      ne_eqb letter 67 (omega arith),
      ne_eqb letter 75 (omega arith),
      ne_eqb letter 65 (omega arith),
      ne_eqb letter 77 (omega arith),
      ne_eqb letter 82 (omega arith),
      ne_eqb letter 69 (omega arith),
    )

pub returns : goal.returns
unfolding decode_as
returns c =
    let bytes = c.args.bytes.now in
    let from = c.args.from in
    let rest = drop from bytes in
    elim c.match-letter.branch [
      | in-71+in_ok-first_chunk-in-71 w ↦ rw w.in-71.is (operands_read bytes from c.requires 26 set_grid_of (grid_within rest) w.in_ok-first_chunk-in-71.ensures.cases w.set_grid.ensures w.command-is)
      | in-67+in_ok-first_chunk-in-67 w ↦ rw w.in-67.is (operands_read bytes from c.requires 6 set_count_of (count_within rest) w.in_ok-first_chunk-in-67.ensures.cases w.set_count.ensures w.command-is)
      | in-75+in_ok-first_chunk-in-75 w ↦ rw w.in-75.is (operands_read bytes from c.requires 9 set_cosine_of (cosine_within rest) w.in_ok-first_chunk-in-75.ensures.cases w.set_cosine.ensures w.command-is)
      | in-65+in_ok-first_chunk-in-65 w ↦ rw w.in-65.is (operands_read bytes from c.requires 11 set_angle_of (angle_within rest) w.in_ok-first_chunk-in-65.ensures.cases w.set_angle.ensures w.command-is)
      | in-77+in_ok-first_chunk-in-77 w ↦ rw w.in-77.is (operands_read bytes from c.requires 4 most_of (most_within rest) w.in_ok-first_chunk-in-77.ensures.cases w.most.ensures w.command-is)
      | in-82+in_ok-first_chunk-in-82 w ↦ rw w.in-82.is (operands_read bytes from c.requires 10 least_of (least_within rest) w.in_ok-first_chunk-in-82.ensures.cases w.least.ensures w.command-is)
      | in-69 w ↦ rw w.in-69.is (end_last bytes from c.requires (grind arith) w.command-is)
    ]
