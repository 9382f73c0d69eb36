-- What the call gave, by its two cases; an answer was read from words that fit.
use Rattle.crossings.proofs.Crossings.{put_fits, put_done, put_refused}
use Rattle.jadurphen.proofs.put_call.jadurphen_put.Goals as goal

pub write_ledger-requires : goal.write_ledger-requires
write_ledger-requires c = put_fits _ _ _ _ _ c.at-centre.ensures _ c.ledger_of-held.ensures _ _ _ c.put_lent.ensures c.in-Ok.is

pub returns-in-Ok : goal.returns-in-Ok
returns-in-Ok c =
    put_done _ _ _ _ _ c.at-centre.ensures _ c.ledger_of-held.ensures _ _ _ _ c.put_lent.ensures c.in-Ok.is c.write_ledger.ensures

pub returns-in-Err : goal.returns-in-Err
returns-in-Err c = put_refused _ _ _ _ _ c.at-centre.ensures _ c.ledger_of-held.ensures _ _ _ _ c.put_lent.ensures c.in-Err.is c.number.ensures
