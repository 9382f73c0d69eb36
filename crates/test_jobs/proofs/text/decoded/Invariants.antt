-- The first of two digits is one.
use Rattle.std.proofs.Common.{◌<◌, IfSome}
use Rattle.test_jobs.proofs.text.decoded.Given as goal

abbrev pub invariant-loop-b : goal.invariant-loop-b
invariant-loop-b l = IfSome l.high (λ d. d < 16)
