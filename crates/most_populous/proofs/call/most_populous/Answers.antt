-- `most_populous::call::most_populous`: refused with nothing written, or accepted, filled and searched.
use Rattle.std.proofs.Common.{rules, ◌≡◌, ◌∙◌}
use Rattle.grid.specs.Map.{Map, map_lent}
use Rattle.grid.specs.Answer.{first_no, shown}
use Rattle.grid.proofs.Answers.{PassedCall, radius_left}
use Rattle.sums_fill.proofs.Tables.{bare_filled}
use Rattle.most_populous.specs.Call.{Buffers, buffers, search_own, search_questions}
use Rattle.most_populous.proofs.SearchCalls.{search_passed, search_refused, search_answered, to_fill, to_search, to_lend, searched_map}
use Rattle.most_populous.proofs.call.most_populous.Goals as goal
use Rattle.most_populous.proofs.call.most_populous.Goals.{In_ok-radius}

pub returns-in_err-radius : goal.returns-in_err-radius
unfolding shown
returns-in_err-radius c = search (rules, search_refused)

-- past the questions
module _ (r : In_ok-radius) where
  abbrev given : Map
  given = map_lent r.args.map.now

  abbrev lent : Buffers
  lent = let a = r.args in buffers a.sums.now a.current.now a.following.now

  left : (first_no (search_questions given r.args.spacing r.args.km lent) ≡ 0) × (r.args.km ≡ r.in_ok-radius.radius.0)
  left = radius_left _ _ _ r.in_ok-radius.ensures

  passed : PassedCall given (search_own r.args.map.now.globe.grid r.args.spacing r.args.km lent)
  passed = search_passed _ _ _ _ left.0

pub fill_sums-requires : goal.fill_sums-requires
fill_sums-requires c = let p = passed (goal.at.fill_sums-requires c).In_ok-radius in to_fill _ _ p.map (p.yes 7).0

pub invariant_of-summed : goal.invariant_of-summed
invariant_of-summed c =
    let p = passed (goal.at.invariant_of-summed c).In_ok-radius in
    record { ready = to_lend _ _ p.map (p.yes 7).0 _ c.fill_sums.ensures.filled c.fill_sums.ensures.small }

pub search_at-requires : goal.search_at-requires
search_at-requires c = let p = passed (goal.at.search_at-requires c).In_ok-radius in to_search _ _ p.map (p.yes 7).0

pub returns : goal.returns
returns c =
    let r = (goal.at.returns c).In_ok-radius in
    let found = c.search_at in
    let p = passed r in
    search_answered _ _ _ _ found.result _ _ _ (left r).0
    (found.ensures.found ∙ searched_map _ _ p.map (p.yes 7).0 _ c.fill_sums.ensures.filled _ _ _ (left r).1)
    (c.fill_sums.ensures.filled ∙ bare_filled (given r) _) (search rules) (search rules)
