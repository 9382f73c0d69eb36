-- The target of a share, and what is measured against it.
use Rattle.std.specs.Prelude.{ℕ, Bool, cond, ◌&&◌, eqb, Float}
use Rattle.std.specs.Float.Ieee.{le, lt}
use Rattle.floats.specs.Binary.{whole, finite, ◌⊕◌, ◌⊖◌, ◌⊗◌, ◌⊘◌, absolute, next_up}
use Rattle.grid.specs.declared.Grid.{Grid}
use Rattle.grid.specs.Numbers.{ε}
use Rattle.candidates.specs.declared.Candidate.{Candidate}
use Rattle.share.specs.declared.Target.{Target}

-- question 9
unfoldable pub share_in_range : Float → Bool
share_in_range share = finite share && lt (whole 0) share && le share (whole 1)

-- the target of a share of a total: share × total, one rounding
abbrev pub target_of : Float → ℕ → Target
target_of share total = record { share = share; persons = share ⊗ whole total; total = whole total }

-- the target is at most the population
unfoldable pub reaches : Float → Candidate → Bool
reaches persons c = le persons (whole c.population)

-- rows × 4 × ulp + rows × EPSILON × total, left to right
unfoldable pub predicate_slack_persons : Grid → Float → Float
predicate_slack_persons g total =
    let rows = whole g.height in
    let ulp = next_up total ⊖ total in
    rows ⊗ whole 4 ⊗ ulp ⊕ rows ⊗ ε ⊗ total

-- a population no further from the target than the slack
unfoldable pub within_slack : Float → Float → Candidate → Bool
within_slack persons slack c = le (absolute (whole c.population ⊖ persons)) slack

-- a population as a share of a total, 0 where there is nobody
unfoldable pub share_of : ℕ → ℕ → Float
share_of population total = let share = whole population ⊘ whole total in cond (eqb total 0) (whole 0) share

-- opens all of the above, for facts that are computed
unfoldable pub open_shares : Unit {0}
unfolding share_in_range reaches predicate_slack_persons within_slack share_of
open_shares = tt
