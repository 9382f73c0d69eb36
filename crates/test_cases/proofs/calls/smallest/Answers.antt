-- What is lent, then the call.
use Rattle.std.proofs.Common.{rules}
use Rattle.most_populous.specs.Call.{Buffers}
use Rattle.test_cases.proofs.Fronts.{Lent, smallest_back}
use Rattle.test_cases.proofs.calls.smallest.Goals as goal

pub returns : goal.returns
returns c =
    let s = c.args in
    let b : Buffers = record { sums = s.sums.now; current = s.current.now; following = s.following.now } in
    let e : Lent s.board.now.map b _ _ _ = record { sums = c.min-n.ensures; current = c.min-of_current.ensures; following = c.min-of_following.ensures } in
    smallest_back s.board.now.map _ _ (rw (c.first.ensures, c.first-2.ensures, c.first-3.ensures, c.as_slice.ensures.value, c.as_slice-2.ensures.value, c.as_slice-3.ensures.value))
    b _ _ _ e _ _ _ _ _ _ (search rules) (search rules) _ _ _ _ _ _ _ c.jadurphen_smallest.ensures
