-- The radii of the climb and the bisection one by one: what is known of them, the next one, and what its probe tells.
use Rattle.std.specs.Prelude.{ℕ, ◌+◌, ◌-◌, ◌*◌, ◌/◌, min, Bool, cond, true, false, ltb, leb}
use Rattle.climb.specs.declared.Bracket.{Bracket}

-- a bracket by its parts
abbrev pub bracket_at : ℕ → ℕ → Bool → Bracket
bracket_at low high reached = record { low = record { 0 = low }; high = record { 0 = high }; reached = reached }

-- nothing known, and 1 kilometre next
unfoldable pub bracket_start : Bracket
bracket_start = bracket_at 0 1 false

-- the bracket is one kilometre, or the last radius fell short
unfoldable pub bracket_closed : Bracket → Bool
bracket_closed c = cond c.reached (leb c.high.0 c.low.0) (ltb c.high.0 c.low.0)

-- the middle rounded down, or the next radius of the climb
unfoldable pub next_radius : Bracket → ℕ
next_radius c = cond c.reached (c.low.0 + (c.high.0 - c.low.0) / 2) c.high.0

-- after the next radius was probed: where it reached it is the lowest that has, otherwise the lowest left is one more, and the climb doubles
unfoldable pub bracket_next : ℕ → Bracket → Bool → Bracket
bracket_next last c reached =
    let km = next_radius c in
    let upper = cond c.reached (bracket_at (km + 1) c.high.0 true) (bracket_at (km + 1) (min (2 * km) last) false) in
    cond reached (bracket_at c.low.0 km true) upper
