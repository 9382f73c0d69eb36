-- `circle::call::circle`: refused with nothing written, or accepted, filled, built and summed.
use Rattle.std.proofs.Common.{rules, ◌≡◌, ◌∙◌}
use Rattle.grid.specs.Map.{Map, map_lent}
use Rattle.grid.specs.Answer.{first_no}
use Rattle.grid.proofs.Answers.{PassedCall, radius_left}
use Rattle.sums_fill.proofs.Tables.{bare_filled}
use Rattle.kernel.proofs.Placing.{rows_placed}
use Rattle.circle_rules.specs.Call.{circle_own, circle_questions}
use Rattle.circle_rules.proofs.Calls.{circle_passed, circle_refused, circle_answered}
use Rattle.circle.proofs.Accepted.{to_fill, to_build, to_ask, to_sum, summed_up}
use Rattle.circle.proofs.call.circle.Goals as goal
use Rattle.circle.proofs.call.circle.Goals.{In_ok-radius}

pub returns-in_err-radius : goal.returns-in_err-radius
returns-in_err-radius c = search (rules, circle_refused)

-- past the questions
module _ (r : In_ok-radius) where
  abbrev given : Map
  given = map_lent r.args.map.now

  left : (first_no (circle_questions given r.args.sums.now r.args.km r.args.centre) ≡ 0) × (r.args.km ≡ r.in_ok-radius.radius.0)
  left = radius_left _ _ _ r.in_ok-radius.ensures

  passed : PassedCall given (circle_own r.args.map.now.globe.grid r.args.sums.now r.args.km r.args.centre)
  passed = circle_passed _ _ _ _ left.0

pub fill_sums-requires : goal.fill_sums-requires
fill_sums-requires c = to_fill _ _ _ _ (passed (goal.at.fill_sums-requires c).In_ok-radius)

pub build-kernel-requires : goal.build-kernel-requires
build-kernel-requires c = to_build _ _ _ _ (passed (goal.at.build-kernel-requires c).In_ok-radius)

pub invariant_of-summed : goal.invariant_of-summed
invariant_of-summed c =
    let r = (goal.at.invariant_of-summed c).In_ok-radius in
    record { summed = rw c.table_of-table.ensures (to_ask _ _ _ _ (passed r) _ c.fill_sums.ensures.filled c.fill_sums.ensures.small) }

pub circle_population-requires : goal.circle_population-requires
circle_population-requires c =
    let r = (goal.at.circle_population-requires c).In_ok-radius in
    rw c.table_of-table.ensures (rows_placed (to_sum _ _ _ _ (passed r) _ (left r).1 _ (rw c.from.ensures at c.build-kernel.ensures)))

pub returns : goal.returns
returns c =
    let r = (goal.at.returns c).In_ok-radius in
    circle_answered _ _ _ _ _ _ (left r).0
    (rw c.table_of-table.ensures at c.circle_population.ensures
    ∙ summed_up _ _ _ _ (passed r) _ (left r).1 _ (rw c.from.ensures at c.build-kernel.ensures) _ c.fill_sums.ensures.filled)
    (c.fill_sums.ensures.filled ∙ bare_filled (given r) _)
