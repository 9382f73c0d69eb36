-- Steps of the walks from the centre row outward.
use Prim.Native.Nat.{ℕ, ◌+◌, ◌≤◌, ◌<◌}
use mathlib.Core.Path.{◌≡◌, refl, ◌∙◌}
use mathlib.Core.List.{List}
use mathlib.Core.Logic.{◌⊎◌, inl, inr}
use native.Mathlib.Decide.{ℕ_discrete}
use native.Mathlib.Omega.{arith}
use lib.ListN.{length, get_or, set}
use lib.Seq.{get_or-set_same, get_or-set_other}
use Rattle.reach.specs.State.{Filled}

module _ {f : ℕ → ℕ} where
  pub filled_none : (n : ℕ) (was : List ℕ) → Filled f n n was was
  filled_none n was =
      record { ordered = omega arith; filled = λ i h l. absurd (omega arith); touched = λ i h l. absurd (omega arith); kept = λ i h. refl }

  module _ {start end : ℕ} {was is : List ℕ} (w : Filled f start end was is) (i v : ℕ) (I : i < length is) (e : v ≡ f i) (pos : 0 < v) where
    set_same : get_or (set is i v) i 0 ≡ f i
    set_same = get_or-set_same is i v 0 I ∙ e

    set_other : (j : ℕ) → (j ≡ i → ⊥) → get_or (set is i v) j 0 ≡ get_or is j 0
    set_other j n = get_or-set_other is i j v 0 n

    -- the place itself, and any other
    filled_at : (j : ℕ) → ((j ≡ i → ⊥) → get_or is j 0 ≡ f j) → get_or (set is i v) j 0 ≡ f j
    filled_at j old = elim (ℕ_discrete j i) [
      | yes q ↦ rw q set_same
      | no q ↦ set_other j q ∙ old q
    ]

    touched_at : (j : ℕ) → ((j ≡ i → ⊥) → 0 < f j) → 0 < f j
    touched_at j old = elim (ℕ_discrete j i) [
      | yes q ↦ rw q (omega (arith, e))
      | no q ↦ old q
    ]

    -- a value into the place before the first, and into the place after the last
    pub filled_before : i + 1 ≡ start → Filled f i end was (set is i v)
    filled_before s =
        record {
          ordered = omega (arith, w.ordered);
          filled = λ j h l. filled_at j (λ q. w.filled j (omega arith) l);
          touched = λ j h l. touched_at j (λ q. w.touched j (omega arith) l);
          kept = λ j h. set_other j (apart j h) ∙ w.kept j (wider j h);
        }
      where
        apart : (j : ℕ) → (j < i) ⊎ (end ≤ j) → j ≡ i → ⊥
        apart j (inl l) q = omega arith
        apart j (inr l) q = omega (arith, w.ordered)

        wider : (j : ℕ) → (j < i) ⊎ (end ≤ j) → (j < start) ⊎ (end ≤ j)
        wider j (inl l) = inl (omega arith)
        wider j (inr l) = inr l

    pub filled_after : i ≡ end → Filled f start (i + 1) was (set is i v)
    filled_after s =
        record {
          ordered = omega (arith, w.ordered);
          filled = λ j h l. filled_at j (λ q. w.filled j h (omega arith));
          touched = λ j h l. touched_at j (λ q. w.touched j h (omega arith));
          kept = λ j h. set_other j (apart j h) ∙ w.kept j (wider j h);
        }
      where
        apart : (j : ℕ) → (j < start) ⊎ (i + 1 ≤ j) → j ≡ i → ⊥
        apart j (inl l) q = omega (arith, w.ordered)
        apart j (inr l) q = omega arith

        wider : (j : ℕ) → (j < start) ⊎ (i + 1 ≤ j) → (j < start) ⊎ (end ≤ j)
        wider j (inl l) = inl l
        wider j (inr l) = inr (omega arith)
