-- What the chain over them says.
use Rattle.std.proofs.Common.{◌≡◌, true, false, rules}
use Rattle.std.proofs.lemmas.Iterator.{cases_from_all, YieldsList-from_slice}
use Rattle.grid.specs.Map.{cosine_at}
use Rattle.grid.specs.Questions.{every_row, cosine_in_range, cosines_in_range}
use Rattle.map_questions.proofs.Cosines.{ranged, all_ranged}
use Rattle.map_questions.proofs.order.cosines_in_range.Goals as goal

pub returns : goal.returns
unfolding every_row cosine_in_range cosines_in_range cosine_at
returns c =
    all_ranged c.args.globe.now.cosines.now c.args.globe.now.grid.height c.all.result c.requires
    (cases_from_all _ _ _ (λ x. ranged x ≡ true) (λ x. ranged x ≡ false) c.all.ensures.ran (YieldsList-from_slice c.args.globe.now.cosines.now cc) (λ x q k. search rules) (λ x q k. search rules))
