-- What the judge asks of a run that it is fed at once.
use Rattle.std.specs.Prelude.{◌+◌, ◌<◌, ◌≡◌, List, Float, length}
use Rattle.sheet.specs.declared.SheetJudge.{SheetJudge}
use Rattle.grid.specs.Grid.{closing}

-- the judge's next run
pub record NextRun (j : SheetJudge) (run : List Float) : Type 0 where
  pub fresh : j.offset ≡ 0
  pub on : j.centre < j.grid.height
  pub size : length run ≡ closing j.grid + 1
