-- The library's quotient rounded up is the definition's, of the number that it is asked of.
use Rattle.std.proofs.Common.{◌≡◌, ℕ, ◌+◌, ◌-◌, ◌*◌, ◌/◌, ◌<◌, ◌≤◌, ◌∙◌, sym, arith, rules}
use Rattle.std.proofs.Math.Nat.{div-eq_of_lt-le}
use Rattle.std.proofs.lemmas.Grind.{div_ceil_times}
use Rattle.std.specs.Int as Library
use Rattle.lists.specs.Counted.{div_ceil}
use Rattle.chunk_work.proofs.cut.chunk_size.Goals as goal

quotient : (n w k : ℕ) → 0 < w → (n ≤ k * w) × (k * w < n + w) → k ≡ (n + (w - 1)) / w
quotient n w k h t = sym (div-eq_of_lt-le w (omega arith) (omega arith))

rounded_up : (n w a k : ℕ) → 1 ≤ w → k ≡ Library.div_ceil a w → a ≡ n → k ≡ (n + (w - 1)) / w
rounded_up n w a k h e f = rw (← f) (e ∙ quotient a w _ h (div_ceil_times a w h))

pub returns : goal.returns
unfolding div_ceil
returns c =
    let w = c.workers-w in
    rw (← w.ensures.number) (rounded_up c.args.n w.result _ _ w.ensures.some c.div_ceil.ensures (search (rules, arith)))
