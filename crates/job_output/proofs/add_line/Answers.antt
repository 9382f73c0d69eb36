-- Byte behind byte.
use Rattle.std.proofs.Common.{◌∙◌, ◌≡◌, length, take, arith}
use Rattle.std.proofs.lemmas.List.{length-take-le}
use Rattle.job_lines.specs.State.{line_room, text_of}
use Rattle.job_output.proofs.Written.{from_nothing, line_front, text_next, text_all}
use Rattle.job_output.proofs.add_line.Goals as goal

pub loop-i-init : goal.loop-i-init
loop-i-init c = from_nothing c.args.place c.args.out.now

pub loop-i-preserved : goal.loop-i-preserved
loop-i-preserved c = c.put.ensures ∙ text_next c.args.place _ c.args.out.now c.loop-i.out c.loop-i.i (omega arith) c.loop-i.invariant

pub returns : goal.returns
returns c =
    let line = c.args.line in
    let n = c.min-n.result in
    let whole : length line.bytes ≡ line_room = omega arith in
    let count : c.loop-i.i ≡ n = omega (arith, length-take-le n line.bytes (omega arith)) in
    let text : take n line.bytes ≡ text_of line = rw c.min-n.ensures (line_front line whole) in
    let all = text_all c.args.place _ c.args.out.now c.loop-i.out c.loop-i.i (omega arith) c.loop-i.invariant in
    record {
      out_after = rw (count, text) at all;
      upper_bound = omega arith;
    }
