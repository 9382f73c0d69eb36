-- What is lent, then the call.
use Rattle.test_cases.proofs.Fronts.{circle_back}
use Rattle.test_cases.proofs.calls.circle.Goals as goal

pub returns : goal.returns
returns c =
    let s = c.args in
    circle_back s.board.now.map _ _ (rw (c.first.ensures, c.first-2.ensures, c.first-3.ensures, c.as_slice.ensures.value, c.as_slice-2.ensures.value, c.as_slice-3.ensures.value))
    s.asked.now s.sums.now _ _ _ _ _ _ _ _ c.min-n.ensures
    c.short_at.ensures c.short_at-2.ensures c.short_at-3.ensures
    c.jadurphen_circle.ensures
