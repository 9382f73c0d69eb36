-- How the code sees what a smallest radius has come to.
use Rattle.std.specs.Prelude.{◌≡◌}
use Rattle.probes.specs.Smallest.{Settled}
use Rattle.probes.specs.declared.Smallest.{Smallest}
use Rattle.ledger.specs.declared.Ledger.{Ledger}

-- the definition's answer and ledger
pub record IsSettled (s : Settled) (a : Smallest) (l : Ledger) : Type 0 where
  pub answer : a ≡ s.answer
  pub ledger : l ≡ s.ledger
