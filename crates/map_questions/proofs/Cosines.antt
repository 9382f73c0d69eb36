-- Every cosine in range, as the chain over them and as question 6 have it.
use Rattle.std.proofs.Common.{◌≡◌, ℕ, ◌<◌, List, Bool, true, false, ◌&&◌, length, get_or, sym, MatchBool, arith}
use Rattle.std.specs.List.{AllWithin, HoldsAt}
use Rattle.std.specs.Float.{Float, nan}
use Rattle.std.specs.Float.Ieee.{le, lt}
use Rattle.floats.specs.Binary.{whole}
use Rattle.lists.proofs.All.{all_of, all_fails}
use Rattle.lists.specs.Counted.{all_below}

abbrev pub ranged : Float → Bool
ranged x = lt (whole 0) x && le x (whole 1)

pub all_ranged : (xs : List Float) (n : ℕ) (r : Bool) → length xs ≡ n
    → MatchBool r (AllWithin (λ x. ranged x ≡ true) xs 0 (length xs)) ((k : ℕ) × (k < length xs) × HoldsAt (λ x. ranged x ≡ false) xs k)
    → r ≡ all_below n (λ i. ranged (get_or xs i nan))
all_ranged xs n true e h = sym (all_of n (λ i. ranged (get_or xs i nan)) (λ i l. h i nan (omega arith) (omega arith)))
all_ranged xs n false e h = sym (all_fails n (λ i. ranged (get_or xs i nan)) h.0 (omega (arith, h.1)) (h.2 nan))
