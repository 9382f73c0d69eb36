-- Tests as types and as equations, conjunctions, and choices by a test.
use mathlib.Core.Path.{◌≡◌, refl, sym, subst}
use mathlib.Core.Bool.{Bool, true, false, cond, not, ◌&&◌, ◌||◌, true≢false}
use mathlib.Core.Logic.{◌⊎◌, inl, inr}
use lib.Dec.{T}
use mir.Val.{bool_byte}
use Rattle.lists.specs.Counted.{one}

-- ---- `T b` and `b ≡ true`

pub is_true : (b : Bool) → T b → b ≡ true
is_true true t = refl
is_true false t = absurd t

pub of_true : (b : Bool) → b ≡ true → T b
of_true b e = subst (λ (x : Bool). T x) (sym e) tt

pub is_false : (b : Bool) → (T b → ⊥) → b ≡ false
is_false true h = absurd (h tt)
is_false false h = refl

pub of_false : (b : Bool) → b ≡ false → T (not b)
of_false b e = subst (λ (x : Bool). T (not x)) (sym e) tt

pub not_both : (b : Bool) → b ≡ true → b ≡ false → ⊥
not_both true t f = true≢false f
not_both false t f = true≢false (sym t)

-- a test passes or fails
pub cases : {P : Type 0} (b : Bool) → (b ≡ true → P) → (b ≡ false → P) → P
cases true f g = f refl
cases false f g = g refl

-- two tests, each of which passes where the other does
pub same_test : (a b : Bool) → (T a → T b) → (T b → T a) → a ≡ b
same_test true true f g = refl
same_test true false f g = absurd (f tt)
same_test false true f g = absurd (g tt)
same_test false false f g = refl

-- ---- conjunctions and disjunctions

pub and_both : (a b : Bool) → a ≡ true → b ≡ true → (a && b) ≡ true
and_both a b p q = rw (p, q)

pub and_left : (a b : Bool) → (a && b) ≡ true → a ≡ true
and_left true b e = refl
and_left false b e = e

pub and_right : (a b : Bool) → (a && b) ≡ true → b ≡ true
and_right true b e = e
and_right false b e = absurd (true≢false (sym e))

-- the second fails, so both together do; where the first fails the conjunction computes
pub and_no : (a b : Bool) → b ≡ false → (a && b) ≡ false
and_no true b e = e
and_no false b e = refl

pub or_left : (a b : Bool) → T a → T (a || b)
or_left true b t = tt
or_left false b t = absurd t

pub or_right : (a b : Bool) → T b → T (a || b)
or_right true b t = tt
or_right false b t = t

pub or_split : (a b : Bool) → T (a || b) → T a ⊎ T b
or_split true b t = inl tt
or_split false b t = inr t

pub or_none : (b : Bool) → b ≡ (b || false)
or_none true = refl
or_none false = refl

pub or_assoc : (p q r : Bool) → ((p || q) || r) ≡ (p || (q || r))
or_assoc true q r = refl
or_assoc false q r = refl

-- ---- the byte of a test, as the code adds it

pub byte_one : (b : Bool) → bool_byte b ≡ one b
unfolding one
byte_one true = refl
byte_one false = refl

-- ---- choices

module _ {A : Type 0} where
  pub cond_true : (b : Bool) (x y : A) → b ≡ true → cond b x y ≡ x
  cond_true b x y e = rw e

  pub cond_false : (b : Bool) (x y : A) → b ≡ false → cond b x y ≡ y
  cond_false b x y e = rw e

  -- to prove something of a choice: prove it of each branch, with what the test said
  pub cond_case : (P : A → Type 0) (b : Bool) (x y : A) → (b ≡ true → P x) → (b ≡ false → P y) → P (cond b x y)
  cond_case P true x y f g = f refl
  cond_case P false x y f g = g refl
