-- What was taken of the reader are its bytes, as far as the limit.
use Rattle.std.proofs.Common.{ap}
use Rattle.lists.proofs.Taken.{taken}
use Rattle.circles.proofs.input_buffer.Goals as goal

pub returns : goal.returns
returns g c =
    taken _ _ _ _ _ _ (ap g.R.Read.remaining c.take.ensures.inner) c.take.ensures.limit c.new-input.ensures.items c.in_ok-read_to_end.ensures.bytes
