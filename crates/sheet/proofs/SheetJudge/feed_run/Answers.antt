-- The run by its ends.
use Rattle.sheet.proofs.Runs.{run_at_once}
use Rattle.sheet.proofs.SheetJudge.feed_run.Goals as goal

pub returns : goal.returns
returns c = rw (c.next_row.ensures, c.run_fits.ensures, run_at_once c.args.self c.args.run.now c.requires)
