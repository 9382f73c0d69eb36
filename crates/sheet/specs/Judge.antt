-- Question 6 of the angles, by a judge that is fed one at a time in the sheet's order.
use Rattle.std.specs.Prelude.{◌+◌, true, Bool, cond, ◌&&◌, List, Float, leb, ltb, eqb}
use Rattle.std.specs.Float.Ieee.{le, eq}
use Rattle.lists.specs.Lists.{fold}
use Rattle.floats.specs.Binary.{whole}
use Rattle.grid.specs.declared.Grid.{Grid}
use Rattle.sheet.specs.declared.SheetJudge.{SheetJudge}
use Rattle.grid.specs.Numbers.{π}
use Rattle.grid.specs.Grid.{closing}

-- before the first angle
unfoldable pub judge_start : Grid → SheetJudge
judge_start g = record { grid = g; centre = 0; row = 0; offset = 0; before = whole 0; head = whole 0; well = true }

module _ (j : SheetJudge) where
  -- an angle at offset 0 is equal to 0 where the row is the centre row
  unfoldable pub own_fits : Float → Bool
  own_fits a = cond (eqb j.row j.centre) (eq a (whole 0)) true

  -- from row 1 on it is not above that of the row before up to the centre row, and not below it after
  unfoldable pub row_fits : Float → Bool
  row_fits a = cond (eqb j.row 0) true (cond (leb j.row j.centre) (le a j.head) (le j.head a))

  -- what is asked of an angle at offset 0 beyond its range
  unfoldable pub head_fits : Float → Bool
  head_fits a = own_fits a && row_fits a

  -- any angle is from 0 to half a turn, and at an offset above 0 not below the angle before
  unfoldable pub angle_fits : Float → Bool
  angle_fits a = le (whole 0) a && le a π && cond (eqb j.offset 0) (head_fits a) (le j.before a)

  -- the latest offset-0 angle, once an angle is fed
  unfoldable pub head_after : Float → Float
  head_after a = cond (eqb j.offset 0) a j.head

  -- on to the next row: of this centre row, or row 0 of the next centre row
  unfoldable pub next_row : Float → Float → Bool → SheetJudge
  next_row before head well =
      let south = ltb (j.row + 1) j.grid.height in
      record {
        grid = j.grid;
        centre = cond south j.centre (j.centre + 1);
        row = cond south (j.row + 1) 0;
        offset = 0;
        before = before;
        head = head;
        well = well;
      }

  -- on to the next offset of this row, or to the next row
  unfoldable pub next_place : Float → Float → Bool → SheetJudge
  next_place before head well =
      cond (ltb j.offset (closing j.grid))
      (record { grid = j.grid; centre = j.centre; row = j.row; offset = j.offset + 1; before = before; head = head; well = well })
      (next_row before head well)

  -- past the last angle the judge stays as it is
  unfoldable pub judge_feed : Float → SheetJudge
  judge_feed a = cond (ltb j.centre j.grid.height) (next_place a (head_after a) (j.well && angle_fits a)) j

-- what the judge says of the angles that it was fed
unfoldable pub judged : Grid → List Float → Bool
judged g angles = (fold judge_feed (judge_start g) angles).well
