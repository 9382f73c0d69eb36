-- Bytes behind a line's own.
use Rattle.std.proofs.Common.{◌+◌, ◌-◌, ◌≡◌, length, arith}
use Rattle.job_lines.proofs.Texts.{longer_is}
use Rattle.job_lines.proofs.text.append.Goals as goal

pub returns : goal.returns
returns c =
    let l = c.args.line in
    let more = c.args.more.now in
    let count : l.len + length more - l.len ≡ length more = omega arith in
    rw (c.copy_from_slice.ensures.after, count) (longer_is l more (omega arith))
