-- `smallest::call::settle`: the total, the target and the slack, the run, and the answer from its end.
use Rattle.smallest.proofs.Settling.{can_run, can_conclude, is_settled}
use Rattle.smallest.proofs.call.settle.Goals as goal

pub run-end-requires : goal.run-end-requires
run-end-requires c =
    can_run c.args.map.now c.requires c.args.spacing (rw c.table_of-table.ensures at c.whole-total.ensures) c.target_of-target.ensures
    c.predicate_slack_persons-slack.ensures

pub conclude-requires : goal.conclude-requires
conclude-requires c =
    can_conclude c.args.map.now c.requires c.args.spacing (rw c.table_of-table.ensures at c.whole-total.ensures) c.target_of-target.ensures
    c.predicate_slack_persons-slack.ensures c.run-end.ensures.ended

pub returns-clause-settled : goal.returns-clause-settled
returns-clause-settled c =
    is_settled c.args.map.now c.requires c.args.spacing (rw c.table_of-table.ensures at c.whole-total.ensures) c.target_of-target.ensures
    c.predicate_slack_persons-slack.ensures c.run-end.ensures.ended c.conclude.ensures
