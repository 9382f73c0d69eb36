-- Each place takes its number.
use Rattle.std.proofs.Common.{◌≡◌, length, arith, sym, ap, ◌∙◌}
use Rattle.lists.proofs.Fronts.{over_none, over_step}
use Rattle.test_cases.proofs.map.put.Goals as goal

pub loop-i-init : goal.loop-i-init
loop-i-init g c = λ f h. sym (over_none _ _)

pub loop-i-preserved : goal.loop-i-preserved
loop-i-preserved g c =
    λ f h. over_step _ c.loop-i.i _ _ _ (omega (arith, c.loop-i-test.true, c.loop-i.auto.places)) (c.loop-i.invariant f h) (h _ _ c.of.ensures ∙ ap f c.or_last.ensures)

pub returns : goal.returns
returns g c = λ f h. let all : c.loop-i.i ≡ length c.args.places.now = omega (arith, c.loop-i-test.false, c.loop-i.auto) in rw all at c.loop-i.invariant f h
