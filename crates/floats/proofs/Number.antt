-- Where an operation's result is a number, and no `nan`.
use Prim.Native.Nat.{ℕ, zero, suc, ◌+◌, ◌*◌, ◌^◌}
use mathlib.Core.Bool.{Bool, true, false, cond}
use lib.Dec.{T, ltb}
use lib.Ieee.{Float, nan, inf, fin, Format, binary64, prec, emax, low, up, down, odd, units, round, add, div, lt}
use lib.Ieee.Fits.{round_is}
use lib.Ieee.Order.{kept, drop}
use Rattle.floats.specs.Binary.{◌⊕◌, ◌⊘◌, finite}
use Rattle.floats.proofs.Round.{+0}
use Rattle.floats.proofs.Total.{number}
use Rattle.floats.proofs.Add.{sum_is}
use Rattle.floats.proofs.Div.{above_zero, div_is}

odd_number : (d : ℕ) (s : Bool) (q k l : ℕ) → T (number (odd d s q k l))
unfolding odd
odd_number d s zero k l = tt
odd_number d s (suc q) k l = tt

units_number : (f : Format) (s : Bool) (q k : ℕ) → T (number (units f s q k))
unfolding units
units_number f s q k = go (ltb (q * 2 ^ k) (2 ^ (low f + suc (emax f))))
  where
    go : (b : Bool) → T (number (cond b (odd (suc (prec f)) s q k (low f)) (inf s)))
    go true = odd_number (suc (prec f)) s q k (low f)
    go false = tt

pub round_number : (f : Format) (s : Bool) (a b : ℕ) → T (number (round f s a b))
round_number f s a b = rw (round_is f s a b) (units_number f s (kept (prec f) (a * 2 ^ low f) b) (drop (prec f) (a * 2 ^ low f) b))

pub add_number : (x c : Float) → T (finite x) → T (number c) → T (number (x ⊕ c))
unfolding add finite
add_number nan c X C = absurd X
add_number (inf s) c X C = absurd X
add_number (fin s m e) nan X C = absurd C
add_number (fin s m e) (inf t) X C = tt
add_number (fin s m e) (fin t n d) X C =
    let r = sum_is binary64 s (m * up e * down d) t (n * up d * down e) (down e * down d) in
    rw r.rounded (round_number binary64 r.sign r.size (down e * down d))

pub div_number : (x c : Float) → T (number x) → T (finite c) → T (lt +0 c) → T (number (x ⊘ c))
unfolding div lt finite
div_number nan c X C P = absurd X
div_number (inf s) nan X C P = absurd C
div_number (inf s) (inf t) X C P = absurd C
div_number (inf s) (fin t k g) X C P = tt
div_number (fin s m e) nan X C P = absurd C
div_number (fin s m e) (inf t) X C P = absurd C
div_number (fin s m e) (fin true k g) X C P = absurd P
div_number (fin s m e) (fin false k g) X C P = rw (div_is binary64 s m e k g (above_zero k g P)) (round_number binary64 s (m * up e * down g) (k * up g * down e))
