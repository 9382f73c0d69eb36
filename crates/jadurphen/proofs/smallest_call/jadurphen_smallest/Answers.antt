-- What the call gave, by its two cases; an answer was read from words that fit.
use Rattle.crossings.proofs.SmallestCrossings.{smallest_fits, smallest_found, smallest_refused}
use Rattle.jadurphen.proofs.smallest_call.jadurphen_smallest.Goals as goal

pub write_ledger-requires : goal.write_ledger-requires
write_ledger-requires c =
    smallest_fits _ _ _ _ _ _ _ _ _ _ _ c.spacing_from-side.ensures _ c.ledger_of-held.ensures _ c.smallest_radius.ensures
    c.in-Ok.is

pub returns-in-Ok : goal.returns-in-Ok
returns-in-Ok c =
    smallest_found _ _ _ _ _ _ _ _ _ _ _ c.spacing_from-side.ensures _ c.ledger_of-held.ensures _ _ _ _ _ _ c.smallest_radius.ensures
    c.in-Ok.is c.write_ledger.ensures c.smallest_words.ensures c.smallest_floats.ensures

pub returns-in-Err : goal.returns-in-Err
returns-in-Err c =
    smallest_refused _ _ _ _ _ _ _ _ _ _ _ c.spacing_from-side.ensures _ c.ledger_of-held.ensures _ _ _ _ c.smallest_radius.ensures
    c.in-Err.is c.number.ensures
