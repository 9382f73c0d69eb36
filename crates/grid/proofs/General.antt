-- What a test or a refusal has said: for the proofs of functions that ask.
use Prim.Native.Nat.{ℕ, ◌≤◌}
use mathlib.Core.Path.{◌≡◌, sym, ◌∙◌}
use mathlib.Core.Bool.{Bool, true, false}
use native.Mathlib.Omega.{arith}

-- what a function that returned r has said of d, where the code then tests `!r`
pub said_no : {r d : Bool} → r ≡ d → r ≡ false → d ≡ false
said_no e t = sym e ∙ t

pub said_yes : {r d : Bool} → r ≡ d → r ≡ true → d ≡ true
said_yes e t = sym e ∙ t

-- a refusal that is not above 0
pub no_number : {n m : ℕ} → n ≡ m → n ≤ 0 → m ≡ 0
no_number e h = omega arith
