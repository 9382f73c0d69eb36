-- How many radii a smallest-radius call goes through.
use Rattle.std.specs.Prelude.{◌+◌, ◌≤◌, ◌≡◌, Float}
use Rattle.grid.specs.Map.{Map}
use Rattle.grid.specs.Answer.{answered}
use Rattle.spacing.specs.declared.Spacing.{Spacing}
use Rattle.most_populous.specs.Call.{Buffers}
use Rattle.ledger.specs.declared.Ledger.{Ledger}
use Rattle.climb.specs.Climb.{most_radii}
use Rattle.probes.specs.declared.Smallest.{Smallest}
use Rattle.smallest_rules.specs.Call.{smallest_call}

-- of every answered call, on any map and from any ledger: radii evaluated + radii reused ≤ 28. Nothing is asked of the sheet's fairness or the entries
abbrev pub FewRadii : Type 0
FewRadii =
    (m : Map) (spacing : Spacing) (share : Float) (l : Ledger) (lent : Buffers) (a : Smallest) → (smallest_call m spacing share l lent).answer ≡ answered a
    → a.stats.radii_evaluated + a.stats.radii_reused ≤ most_radii
