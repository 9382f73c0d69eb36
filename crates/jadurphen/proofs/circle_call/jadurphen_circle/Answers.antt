-- What the call gave, by its two cases.
use Rattle.crossings.proofs.Crossings.{circle_answered, circle_refused}
use Rattle.jadurphen.proofs.circle_call.jadurphen_circle.Goals as goal

pub returns-in-Ok : goal.returns-in-Ok
returns-in-Ok c = circle_answered _ _ _ _ _ _ _ _ c.circle.ensures c.in-Ok.is

pub returns-in-Err : goal.returns-in-Err
returns-in-Err c = circle_refused _ _ _ _ _ _ _ _ _ c.circle.ensures c.in-Err.is c.number.ensures
