-- What is copied is as much as there is room for.
use Rattle.std.proofs.Common.{◌≡◌, ◌+◌, ◌-◌, arith}
use Rattle.test_lines.proofs.Words.{sets_front}
use Rattle.test_lines.proofs.numbers.copy.Goals as goal

pub returns : goal.returns
returns c =
    let n = c.min-n.result in
    let room : (c.min-at.result + n) - c.min-at.result ≡ n = omega arith in
    rw (room, c.copy_from_slice.ensures.after) (sets_front c.args.to.now c.args.from.now _ _ n c.min-at.ensures c.min-n.ensures)
