-- A run of the sheet, the angles of a centre row and a row, as the judge is fed it at once.
use Rattle.std.specs.Prelude.{ℕ, ◌+◌, ◌-◌, Bool, ◌&&◌, List, Float, ltb, eqb, get_or, length}
use Rattle.std.specs.Float.{nan}
use Rattle.std.specs.Float.Ieee.{le}
use Rattle.lists.specs.Counted.{all_below}
use Rattle.floats.specs.Binary.{whole}
use Rattle.sheet.specs.declared.SheetJudge.{SheetJudge}
use Rattle.grid.specs.Numbers.{π}
use Rattle.grid.specs.Grid.{closing}
use Rattle.sheet.specs.Judge.{head_fits}

-- none of them is below the one before it
unfoldable pub not_falling : List Float → Bool
not_falling run = all_below (length run - 1) (λ k. le (get_or run k nan) (get_or run (k + 1) nan))

-- then the first and the last bound the rest
unfoldable pub run_fits : SheetJudge → List Float → Bool
run_fits j run = le (whole 0) (get_or run 0 nan) && head_fits j (get_or run 0 nan) && le (get_or run (length run - 1) nan) π && not_falling run

-- the judge stands where a run begins, and n angles hold it
unfoldable pub run_ahead : SheetJudge → ℕ → Bool
run_ahead j n = eqb j.offset 0 && ltb j.centre j.grid.height && ltb (closing j.grid) n
