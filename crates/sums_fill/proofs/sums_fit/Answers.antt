-- The rows' words and then one row more.
use Rattle.std.proofs.Common.{arith}
use Rattle.std.proofs.lemmas.Bool.Decides.{nat_tests}
use Rattle.sums.specs.Sums.{sums_fit, sums_words}
use Rattle.sums_fill.proofs.Filling.{all_rows}
use Rattle.sums_fill.proofs.sums_fit.Goals as goal

pub returns-then-rows-sums : goal.returns-then-rows-sums
unfolding sums_fit sums_words
returns-then-rows-sums c = grind (arith, nat_tests, all_rows c.args.grid.width c.args.grid.height)

pub returns-else-rows-sums : goal.returns-else-rows-sums
unfolding sums_fit sums_words
returns-else-rows-sums c = grind (arith, nat_tests, all_rows c.args.grid.width c.args.grid.height)
