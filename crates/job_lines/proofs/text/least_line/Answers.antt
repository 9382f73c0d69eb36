-- A word, four numbers, the witness, two numbers and the end.
use native.Mathlib.Omega.{arith}
use Rattle.job_lines.proofs.Lengths.{length_fields, length_short, length_least}
use Rattle.job_lines.proofs.Texts.{len_longer, begun_len, line_four}
use Prim.Native.Nat.{◌+◌, ◌*◌, ◌≤◌}
use mathlib.Core.List.{[], ◌∷◌}
use Rattle.job_lines.specs.Line.{longest_field, least_word, newline, least_line}
use Rattle.job_lines.proofs.text.least_line.Goals as goal
use Rattle.job_lines.proofs.text.least_line.Goals.{After-begin_line-begun, After-add_short-shown}

-- the line as far as its first numbers
begun-short : (c : After-begin_line-begun) → c.begin_line-begun.result.len ≤ 5 + 4 * longest_field
begun-short c =
    let found = c.args.found in
    let centre = found.centre in
    begun_len c.begin_line-begun.result least_word (found.radius_km.0 ∷ centre.row.0 ∷ centre.col.0 ∷ centre.population ∷ [])
    (rw (c.from.ensures, c.from-2.ensures, c.from-3.ensures) at c.begin_line-begun.ensures)

-- and as far as its witness
short-len : (c : After-add_short-shown) → c.add_short-shown.result.len ≤ 5 + 6 * longest_field
short-len c =
    let begun = c.begin_line-begun in
    let found = c.args.found in
    let centre = found.centre in
    let e = rw (c.from.ensures, c.from-2.ensures, c.from-3.ensures) at begun.ensures in
    let begun-len = begun_len begun.result least_word (found.radius_km.0 ∷ centre.row.0 ∷ centre.col.0 ∷ centre.population ∷ []) e in
    let longer = len_longer begun.result c.add_short-shown.result _ c.add_short-shown.ensures in
    omega (arith, begun-len, longer, length_short found.short_below)

pub add_short-shown-requires : goal.add_short-shown-requires
add_short-shown-requires c = omega (arith, begun-short (goal.at.add_short-shown-requires c).After-begin_line-begun)

pub add_fields-requires : goal.add_fields-requires
add_fields-requires c = omega (arith, short-len (goal.at.add_fields-requires c).After-add_short-shown)

pub end_line-requires : goal.end_line-requires
end_line-requires c =
    let all-len = len_longer c.add_short-shown.result c.add_fields.result _ c.add_fields.ensures in
    let stats = c.args.found.stats in
    omega (arith, short-len (goal.at.end_line-requires c).After-add_short-shown, all-len, length_fields (stats.radii_evaluated ∷ stats.radii_reused ∷ []))

pub returns : goal.returns
unfolding least_line
returns c =
    let begun = c.begin_line-begun in
    line_four begun.result c.add_short-shown.result c.add_fields.result c.end_line.result _ _ _ newline
    (rw (c.from.ensures, c.from-2.ensures, c.from-3.ensures) at begun.ensures) c.add_short-shown.ensures c.add_fields.ensures c.end_line.ensures (omega (arith, length_least c.args.found))
