-- `smallest::call::smallest_radius`: refused with nothing written, or accepted, filled and settled.
use Rattle.std.proofs.Common.{rules, ◌≡◌, refl, ◌∙◌}
use Rattle.grid.specs.Answer.{first_no, shown}
use Rattle.grid.specs.Map.{Map, map_lent}
use Rattle.grid.proofs.Answers.{PassedCall, decided_yes}
use Rattle.sums_fill.proofs.Tables.{bare_filled}
use Rattle.smallest_rules.specs.Call.{smallest_own, smallest_questions}
use Rattle.smallest_rules.proofs.SmallestCalls.{smallest_passed, smallest_refused, smallest_answered}
use Rattle.smallest.proofs.Settling.{to_fill, to_settle, to_lend, settled_map}
use Rattle.most_populous.specs.Call.{Buffers, buffers}
use Rattle.smallest.proofs.call.smallest_radius.Goals as goal
use Rattle.smallest.proofs.call.smallest_radius.Goals.{In_ok-smallest_asked}

pub returns-in_err-smallest_asked : goal.returns-in_err-smallest_asked
unfolding shown
returns-in_err-smallest_asked c = search (rules, smallest_refused)

-- past the questions
module _ (e : In_ok-smallest_asked) where
  abbrev given : Map
  given = map_lent e.args.map.now

  abbrev lent : Buffers
  lent = let a = e.args in buffers a.sums.now a.current.now a.following.now

  none_left : first_no (smallest_questions given e.args.spacing e.args.share e.args.ledger.now lent) ≡ 0
  none_left = (decided_yes _ tt _ e.in_ok-smallest_asked.ensures).0

  passed : PassedCall given (smallest_own e.args.map.now.globe.grid e.args.spacing e.args.share e.args.ledger.now lent)
  passed = smallest_passed _ _ _ _ _ none_left

pub fill_sums-requires : goal.fill_sums-requires
fill_sums-requires c = to_fill _ _ _ _ _ (passed (goal.at.fill_sums-requires c).In_ok-smallest_asked)

pub invariant_of-summed : goal.invariant_of-summed
invariant_of-summed c =
    record { ready = to_lend _ _ _ _ _ (passed (goal.at.invariant_of-summed c).In_ok-smallest_asked) _ c.fill_sums.ensures.filled c.fill_sums.ensures.small }

pub settle-requires : goal.settle-requires
settle-requires c = to_settle _ _ _ _ _ (passed (goal.at.settle-requires c).In_ok-smallest_asked) _ refl refl

pub returns : goal.returns
returns c =
    let e = (goal.at.returns c).In_ok-smallest_asked in
    let f = c.fill_sums in
    smallest_answered _ _ _ _ _ c.settle.result _ _ _ _ (none_left e) (settled_map _ _ _ _ _ (passed e) _ f.ensures.filled c.settle.ensures.settled)
    (f.ensures.filled ∙ bare_filled (given e) _) (search rules) (search rules)
