-- The first `stride` words are `fill`'s, the others as they were.
use Rattle.std.proofs.Common.{◌∙◌, ap, sym, List, ℕ, ◌++◌, drop, replicate}
use Rattle.std.proofs.lemmas.List.{length-take-le}
use Rattle.lists.specs.Front.{over}
use Rattle.sums_fill.proofs.Filling.{tabulate_same}
use Rattle.sums_fill.proofs.zero_row.Goals as goal

pub returns : goal.returns
unfolding over
returns c =
    let zeros = c.fill.ensures.after (λ y e. e) in
    let n = length-take-le c.args.stride c.args.sums.now c.requires in
    ap (λ (xs : List ℕ). xs ++ drop c.args.stride c.args.sums.now) (zeros ∙ ap (λ (k : ℕ). replicate k 0) n ∙ sym (tabulate_same c.args.stride 0))
