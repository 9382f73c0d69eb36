-- Whole numbers as binary64: exact up to 2 ^ 53, and in order.
use Prim.Native.Nat.{ℕ, ◌*◌, ◌^◌, ◌≤◌, ◌<◌}
use mathlib.Core.Path.{◌≡◌, sym, ◌∙◌}
use mathlib.Core.Bool.{true, false, true≢false}
use native.Mathlib.Omega.{arith}
use native.Mathlib.Nat.{mul-one, mul_assoc, mul_right_comm, mul-pos, mul-lt-mul_of_pos_right, zero-lt-suc}
use lib.Dec.{T, lt→ltb}
use lib.Ieee.{Float, nan, inf, fin, binary64, up, down, lt, le, of_int}
use lib.Ieee.Fits.{down_pos}
use lib.Ieee.Exact.{HasValue}
use lib.Ieee.Back.{round_whole}
use lib.Ieee.Order.{round_mono}
use Rattle.floats.specs.Binary.{whole}

pub whole_value : (n : ℕ) → n ≤ 2 ^ 53 → HasValue (whole n) false n 1
unfolding of_int
whole_value n h = round_whole binary64 false n h

-- for every n and k: above 2 ^ 53 both are rounded
pub whole_le : (n k : ℕ) → n ≤ k → T (le (whole n) (whole k))
unfolding of_int
whole_le n k h = round_mono binary64 n 1 k 1 (zero-lt-suc 0) (zero-lt-suc 0) (omega arith)

cross : (a e b d n k : ℕ) → 0 < e → 0 < d → a * 1 ≡ n * e → b * 1 ≡ k * d → n < k → a * d < b * e
cross a e b d n k E D p q h =
    let l : n * (e * d) < k * (e * d) = mul-lt-mul_of_pos_right h (mul-pos E D) in
    let p' : a ≡ n * e = sym (mul-one a) ∙ p in
    let q' : b ≡ k * d = sym (mul-one b) ∙ q in
    rw (p', q', mul_right_comm k d e, mul_assoc n e d, mul_assoc k e d) l

lt_of_values : (x y : Float) (n k : ℕ) → HasValue x false n 1 → HasValue y false k 1 → n < k → T (lt x y)
unfolding lt
lt_of_values nan y n k p q h = absurd p
lt_of_values (inf s) y n k p q h = absurd p
lt_of_values (fin true m e) y n k p q h = absurd (true≢false p.0)
lt_of_values (fin false m e) nan n k p q h = absurd q
lt_of_values (fin false m e) (inf t) n k p q h = absurd q
lt_of_values (fin false m e) (fin true n' d) n k p q h = absurd (true≢false q.0)
lt_of_values (fin false m e) (fin false n' d) n k p q h =
    lt→ltb (m * up e * down d) (n' * up d * down e) (cross (m * up e) (down e) (n' * up d) (down d) n k (down_pos e) (down_pos d) p.1 q.1 h)

pub whole_lt : (n k : ℕ) → n < k → k ≤ 2 ^ 53 → T (lt (whole n) (whole k))
whole_lt n k h b = lt_of_values (whole n) (whole k) n k (whole_value n (omega arith)) (whole_value k b) h
