-- The length, then each place in turn.
use Rattle.std.proofs.Common.{◌≡◌, sym, ◌∙◌, arith}
use Rattle.lists.proofs.All.{all_none, all_more, all_fails}
use Rattle.ledger.specs.Ledger.{capacity}
use Rattle.words.proofs.Places.{other_length, place_unfit, all_fit}
use Rattle.words.proofs.ledger_fits.Goals as goal

pub returns-then-words-ne-LEDGER_WORDS : goal.returns-then-words-ne-LEDGER_WORDS
returns-then-words-ne-LEDGER_WORDS c = other_length _ c.if-words-ne-LEDGER_WORDS.true

pub loop-i-init : goal.loop-i-init
loop-i-init c = all_none _

pub returns-then-not-place_fits : goal.returns-then-not-place_fits
returns-then-not-place_fits c =
    place_unfit _ c.if-words-ne-LEDGER_WORDS.false (all_fails capacity _ c.loop-i.i c.loop-i-test.true
    (sym c.place_fits.ensures ∙ c.if-not-place_fits.true))

pub loop-i-preserved : goal.loop-i-preserved
loop-i-preserved c = all_more c.loop-i.i _ c.loop-i.invariant (sym c.place_fits.ensures ∙ c.if-not-place_fits.false)

pub returns : goal.returns
returns c = let end : c.loop-i.i ≡ capacity = omega arith in all_fit _ c.if-words-ne-LEDGER_WORDS.false (rw end at c.loop-i.invariant)
