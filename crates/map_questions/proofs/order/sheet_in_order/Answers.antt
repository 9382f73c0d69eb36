-- The cosines, and the judge's verdict.
use Rattle.std.proofs.Common.{◌≡◌, ◌&&◌, arith}
use Rattle.grid.specs.Map.{globe_lent}
use Rattle.sheet.specs.Judge.{judged}
use Rattle.grid.specs.Questions.{cosines_in_range, sheet_in_order}
use Rattle.grid.proofs.Sizes.{sheet_angles, sheet_cosines}
use Rattle.sheet.proofs.Judging.{order_as_read}
use Rattle.map_questions.proofs.order.sheet_in_order.Goals as goal
use Rattle.map_questions.proofs.order.sheet_in_order.Goals.{Start}

as_read : (s : Start) → sheet_in_order (globe_lent s.args.globe.now) ≡ (cosines_in_range (globe_lent s.args.globe.now) && judged s.args.globe.now.grid s.args.globe.now.angles.now)
as_read s = order_as_read s.args.globe.now.grid s.args.globe.now.angles.now s.args.globe.now.cosines.now (sheet_angles _ s.requires)

pub cosines_in_range-requires : goal.cosines_in_range-requires
cosines_in_range-requires c = sheet_cosines _ c.requires

pub angles_in_order-requires : goal.angles_in_order-requires
angles_in_order-requires c = sheet_angles _ c.requires

pub returns-then-cosines_in_range : goal.returns-then-cosines_in_range
returns-then-cosines_in_range c = grind (arith, as_read (goal.at.returns-then-cosines_in_range c).Start)

pub returns-else-cosines_in_range : goal.returns-else-cosines_in_range
returns-else-cosines_in_range c = grind (arith, as_read (goal.at.returns-else-cosines_in_range c).Start)
