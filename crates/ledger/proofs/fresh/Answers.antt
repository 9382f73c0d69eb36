-- Both ends are the same 512 blank entries.
use Rattle.ledger.specs.State.{fresh_ledger}
use Rattle.ledger.proofs.fresh.Goals as goal

pub returns : goal.returns
unfolding fresh_ledger
returns c = rw c.at.ensures
