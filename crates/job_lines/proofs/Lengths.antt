-- How many bytes fields and lines have.
use Rattle.std.proofs.Common.{Option, None, Some}
use Prim.Native.Nat.{ℕ, ◌+◌, ◌*◌, ◌≤◌}
use mathlib.Core.Path.{◌≡◌}
use mathlib.Core.List.{List, [], ◌∷◌, ◌++◌}
use native.Mathlib.Omega.{arith}
use lib.ListN.{length, length-append}
use Rattle.search_rules.specs.declared.MostPopulous.{MostPopulous}
use Rattle.probes.specs.declared.Witness.{Witness}
use Rattle.probes.specs.declared.Smallest.{Smallest}
use Rattle.job_lines.specs.Line.{field, fields, most_word, least_word, refused_word, newline, most_fields, short_fields, refused_line, most_line, least_line, longest_field, longest_line}
use Rattle.job_lines.proofs.Decimals.{length_field}

pub length_fields : (ns : List ℕ) → length (fields ns) ≤ longest_field * length ns
unfolding fields
length_fields [] = omega arith
length_fields (n ∷ ns) = omega (arith, length_fields ns, length_field n, length-append (field n) (fields ns))

length_three : (xs ys zs : List ℕ) → length (xs ++ ys ++ zs) ≡ length xs + length ys + length zs
length_three xs ys zs = omega (arith, length-append (xs ++ ys) zs, length-append xs ys)

pub length_refused : (n : ℕ) → length (refused_line n) ≤ longest_line
unfolding refused_line
length_refused n = omega (arith, length_three refused_word (fields (n ∷ [])) newline, length_fields (n ∷ []))

pub length_most : (f : MostPopulous) → length (most_line f) ≤ longest_line
unfolding most_line most_fields
length_most f = omega (arith, length_three most_word (fields (most_fields f)) newline, length_fields (most_fields f))

pub length_short : (b : Option Witness) → length (short_fields b) ≤ 2 * longest_field
unfolding short_fields
length_short None = omega arith
length_short (Some w) = length_fields (w.km.0 ∷ w.population ∷ [])

pub length_least : (a : Smallest) → length (least_line a) ≤ longest_line
unfolding least_line
length_least a =
    let head : List ℕ = fields (a.radius_km.0 ∷ a.centre.row.0 ∷ a.centre.col.0 ∷ a.centre.population ∷ []) in
    let short : List ℕ = short_fields a.short_below in
    let tail : List ℕ = fields (a.stats.radii_evaluated ∷ a.stats.radii_reused ∷ []) in
    omega (
      arith,
      length_three least_word head short,
      length_three (least_word ++ head ++ short) tail newline,
      length_fields (a.radius_km.0 ∷ a.centre.row.0 ∷ a.centre.col.0 ∷ a.centre.population ∷ []),
      length_short a.short_below,
      length_fields (a.stats.radii_evaluated ∷ a.stats.radii_reused ∷ []),
    )
