-- Each place is overwritten in turn.
use Rattle.std.proofs.Common.{◌≡◌, refl, sym, ap, ◌∙◌, length, arith}
use Rattle.lists.proofs.Fronts.{over_none, over_step}
use Rattle.ledger.specs.declared.Ledger.{Ledger}
use Rattle.ledger.specs.Ledger.{capacity}
use Rattle.words.proofs.Places.{fits_length, fresh_length, read_whole}
use Rattle.words.proofs.read_ledger.Goals as goal
use Rattle.words.proofs.read_ledger.Goals.{After-fresh-ledger}

whole : (t : After-fresh-ledger) → length t.fresh-ledger.result.places ≡ capacity
whole t = ap (λ (l : Ledger). length l.places) t.fresh-ledger.ensures ∙ fresh_length

pub bounds-words-0 : goal.bounds-words-0
bounds-words-0 c = omega (arith, fits_length _ c.requires)

pub loop-i-init : goal.loop-i-init
loop-i-init c = (refl, sym (over_none _ _))

pub loop-i-preserved : goal.loop-i-preserved
loop-i-preserved c =
    (c.loop-i.invariant.0, over_step _ _ _ _ _ (omega (arith, whole (goal.at.loop-i-preserved c).After-fresh-ledger)) c.loop-i.invariant.1 c.place_at.ensures)

pub returns : goal.returns
returns c =
    let end : c.loop-i.i ≡ capacity = omega arith in
    read_whole _ _ _ c.loop-i.invariant.0 (whole (goal.at.returns c).After-fresh-ledger) (rw end at c.loop-i.invariant.1)
