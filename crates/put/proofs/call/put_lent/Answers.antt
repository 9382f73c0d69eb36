-- Refused by the first no, or put.
use Rattle.std.proofs.Common.{rules}
use Rattle.grid.proofs.Answers.{decided_yes}
use Rattle.put.proofs.Calls.{put_room, call_refused, call_done}
use Rattle.put.proofs.call.put_lent.Goals as goal

pub returns-in_err-put_asked : goal.returns-in_err-put_asked
returns-in_err-put_asked c = search (rules, call_refused)

pub put-requires : goal.put-requires
put-requires c = put_room _ _ _ (decided_yes _ tt _ c.in_ok-put_asked.ensures).0

pub returns : goal.returns
returns c = call_done _ _ _ _ c.in_ok-put_asked.ensures c.put.ensures
