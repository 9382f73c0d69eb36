-- The words of each place in turn.
use Rattle.std.proofs.Common.{rules, ◌≡◌, ◌∙◌, length, arith}
use Rattle.ledger.specs.Ledger.{capacity}
use Rattle.words.proofs.Places.{write_none, write_next, write_whole}
use Rattle.words.proofs.write_ledger.Goals as goal

pub loop-i-init : goal.loop-i-init
loop-i-init c =
    let whole : length c.args.ledger.now.places ≡ capacity = search rules in
    (whole, write_none _ _ c.requires whole)

pub loop-i-preserved : goal.loop-i-preserved
loop-i-preserved c =
    let whole = c.loop-i.invariant.0 in
    (whole, c.write_place.ensures ∙ write_next _ _ c.requires whole _ _ _ (omega (arith, whole, c.loop-i-test.true)) c.loop-i.invariant.1)

pub returns : goal.returns
returns c =
    let whole = c.loop-i.invariant.0 in
    let end : c.loop-i.i ≡ capacity = omega (arith, whole) in
    write_whole _ _ _ c.requires whole (rw end at c.loop-i.invariant.1)
