-- What a job prints is within the output buffer.
use Rattle.std.proofs.Common.{sym, arith, length-take-le}
use Rattle.job_output.proofs.Any.{count_fits}
use Rattle.circles.proofs.main.Goals as goal

pub slice_bounds-write_all-end : goal.slice_bounds-write_all-end
slice_bounds-write_all-end c = sym (length-take-le _ _ (omega (arith, count_fits _ _ _ _ c.run-count.ensures)))
