-- By whether the words fit.
use mathlib.Core.Path.{refl, sym, ap, ◌∙◌}
use Rattle.ledger.specs.declared.Ledger.{Ledger}
use Rattle.words.proofs.Places.{of_fitting, of_other}
use Rattle.words.proofs.ledger_of.Goals as goal

pub read_ledger-requires : goal.read_ledger-requires
read_ledger-requires c = sym c.ledger_fits.ensures ∙ c.if-ledger_fits.true

pub returns-then-ledger_fits : goal.returns-then-ledger_fits
returns-then-ledger_fits c = c.read_ledger.ensures ∙ of_fitting _ (sym c.ledger_fits.ensures ∙ c.if-ledger_fits.true)

pub returns : goal.returns
returns c = of_other _ _ (sym c.ledger_fits.ensures ∙ c.if-ledger_fits.false) refl (ap (λ (l : Ledger). l.places) c.fresh-ledger.ensures)
