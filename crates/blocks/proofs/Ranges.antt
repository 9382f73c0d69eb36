-- Ranges of numbers cut in steps and by halves: what adds up over neighbours adds up over the pieces, and the pieces stay inside.
use Prim.Native.Nat.{ℕ, zero, suc, ◌+◌, ◌-◌, ◌*◌, ◌≤◌, ◌<◌}
use mathlib.Core.Path.{◌≡◌, refl, sym, ap, ◌∙◌}
use mathlib.Core.Bool.{Bool, true, false, cond, ◌&&◌}
use mathlib.Core.List.{List, [], ◌∷◌}
use native.Mathlib.Omega.{arith}
use native.Mathlib.Nat.{le_refl, mul-zero, zero-mul, mul-add, add-mul}
use lib.Dec.{leb, eqb}
use borrow.Author.Tests.{leb-true, leb-false, eqb-true, eqb-false}
use Rattle.lists.specs.Counted.{one}
use Rattle.lists.specs.Lists.{each, concat_each}
use Rattle.lists.proofs.Bools.{cond_case}
use Rattle.lists.specs.Elements.{AllOf, none, also, total_of}
use Rattle.lists.proofs.Elements.{all_map, all_each, all_concat, total_append}
use Rattle.blocks.specs.declared.Block.{Block}
use Rattle.blocks.specs.Block.{Range, range, block, middle, steps, cross, halves}

-- ---- what adds up

-- a number of a range that is nothing of an empty one, and of two neighbours the sum
pub record Additive (f : Range → ℕ) : Type 0 where
  pub empty : (low high : ℕ) → high < low → f (range low high) ≡ 0
  pub joins : (low mid high : ℕ) → low ≤ mid → mid ≤ high → f (range low mid) + f (range (mid + 1) high) ≡ f (range low high)

-- how many numbers a range has
abbrev pub size : Range → ℕ
size r = r.high + 1 - r.low

pub size_additive : Additive size
size_additive = record { empty = λ low high h. omega arith; joins = λ low mid high p q. omega arith }

-- 1 where a range has a number, and 0 where it has not
unfoldable pub having : ℕ → Range → ℕ
having k r = one (leb r.low k && leb k r.high)

pub record Within (k : ℕ) (r : Range) : Type 0 where
  pub low : r.low ≤ k
  pub high : k ≤ r.high

-- the range has the number or not, with its count
data Having (k : ℕ) (r : Range) : ℕ → Type 0 where
  inside : Within k r → Having k r 1
  outside : (Within k r → ⊥) → Having k r 0

having_case : (k : ℕ) (r : Range) → Having k r (having k r)
unfolding having one
having_case k r = go (leb r.low k) refl (leb k r.high) refl
  where
    go : (s : Bool) → leb r.low k ≡ s → (t : Bool) → leb k r.high ≡ t → Having k r (cond (s && t) 1 0)
    go true p true q = inside (record { low = leb-true _ _ p; high = leb-true _ _ q })
    go true p false q = outside (λ w. omega (arith, leb-false, w.high))
    go false p t q = outside (λ w. omega (arith, leb-false, w.low))

pub having_of : (k : ℕ) (r : Range) → Within k r → having k r ≡ 1
having_of k r w = go (having k r) (having_case k r)
  where
    go : (n : ℕ) → Having k r n → n ≡ 1
    go n (inside v) = refl
    go n (outside v) = absurd (v w)

pub of_having : (k : ℕ) (r : Range) → 1 ≤ having k r → Within k r
of_having k r h = go (having k r) (having_case k r) h
  where
    go : (n : ℕ) → Having k r n → 1 ≤ n → Within k r
    go n (inside v) l = v
    go n (outside v) l = absurd (omega arith)

pub having_not : (k : ℕ) (r : Range) → (Within k r → ⊥) → having k r ≡ 0
having_not k r w = go (having k r) (having_case k r)
  where
    go : (n : ℕ) → Having k r n → n ≡ 0
    go n (inside v) = absurd (w v)
    go n (outside v) = refl

pub having_additive : (k : ℕ) → Additive (having k)
having_additive k = record { empty = λ low high h. having_not k (range low high) (λ w. omega arith); joins = joins }
  where
    joins : (low mid high : ℕ) → low ≤ mid → mid ≤ high → having k (range low mid) + having k (range (mid + 1) high) ≡ having k (range low high)
    joins low mid high p q =
        go (having k (range low mid)) (having k (range (mid + 1) high)) (having k (range low high)) (having_case k (range low mid))
        (having_case k (range (mid + 1) high)) (having_case k (range low high))
      where
        go : (a b c : ℕ) → Having k (range low mid) a → Having k (range (mid + 1) high) b → Having k (range low high) c → a + b ≡ c
        go a b c (inside u) (inside v) w = absurd (omega arith)
        go a b c (inside u) (outside v) (inside w) = refl
        go a b c (inside u) (outside v) (outside w) = absurd (w (record { low = omega arith; high = omega arith }))
        go a b c (outside u) (inside v) (inside w) = refl
        go a b c (outside u) (inside v) (outside w) = absurd (w (record { low = omega arith; high = omega arith }))
        go a b c (outside u) (outside v) (outside w) = refl
        go a b c (outside u) (outside v) (inside w) = absurd (neither u v w)
          where
            neither : (Within k (range low mid) → ⊥) → (Within k (range (mid + 1) high) → ⊥) → Within k (range low high) → ⊥
            neither u v w =
                let low_half : k ≤ mid → ⊥ = λ h. u (record { low = w.low; high = h }) in
                let high_half : mid + 1 ≤ k → ⊥ = λ h. v (record { low = h; high = w.high }) in
                omega (arith, low_half, high_half)

-- ---- the middle

pub middle_low : (low high : ℕ) → low ≤ middle low high
unfolding middle
middle_low low high = omega arith

pub middle_high : (low high : ℕ) → low ≤ high → middle low high ≤ high
unfolding middle
middle_high low high h = omega arith

pub middle_less : (low high : ℕ) → low < high → middle low high < high
unfolding middle
middle_less low high h = omega arith

-- ---- the pieces add up to the whole

module _ (f : Range → ℕ) (a : Additive f) where
  first_step : (low end high : ℕ) (rest : List Range) → low ≤ end → end ≤ high → total_of f rest ≡ f (range (end + 1) high)
      → total_of f (range low end ∷ rest) ≡ f (range low high)
  unfolding total_of
  first_step low end high rest p q e = omega (arith, a.joins low end high p q)

  no_step : (low high : ℕ) → high < low → total_of f [] ≡ f (range low high)
  unfolding total_of
  no_step low high h = sym (a.empty low high h)

  pub steps_add : (fuel step low high : ℕ) → high + 1 ≤ fuel + low → total_of f (steps fuel step low high) ≡ f (range low high)
  unfolding steps
  steps_add zero step low high h = no_step low high (omega arith)
  steps_add (suc fuel) step low high h =
      cond_case (λ (l : List Range). total_of f l ≡ f (range low high)) (leb low high) _ _
      (λ e. let l = leb-true low high e in
      first_step low _ high _ (omega arith) (omega arith) (steps_add fuel step _ high (omega arith)))
      (λ e. no_step low high (leb-false low high e))

  pub halves_add : (low high : ℕ) → low ≤ high → total_of f (halves low high) ≡ f (range low high)
  unfolding halves total_of
  halves_add low high h =
      let mid = middle low high in
      cond_case (λ (l : List Range). total_of f l ≡ f (range low high)) (eqb low high) _ _
      (λ e. omega arith)
      (λ e. omega (arith, a.joins low mid high (middle_low low high) (middle_high low high h)))

-- a number of the rows times a number of the columns
abbrev pub times : (Range → ℕ) → (Range → ℕ) → Block → ℕ
times rows cols b = cols (range b.first.0 b.last.0) * rows (range b.north.0 b.south.0)

-- over every range of rows with every range of columns: the product of the sums
pub cross_times : (f g : Range → ℕ) (rows cols : List Range) → total_of (times f g) (cross rows cols) ≡ total_of g cols * total_of f rows
unfolding cross concat_each each total_of
cross_times f g [] cols = sym (mul-zero (total_of g cols))
cross_times f g (r ∷ rows) cols =
    total_append (times f g) (each (block r) cols) (cross rows cols) ∙ ap (λ (n : ℕ). n + total_of (times f g) (cross rows cols)) (row cols)
    ∙ ap (λ (n : ℕ). total_of g cols * f r + n) (cross_times f g rows cols) ∙ sym (mul-add (total_of g cols) (f r) (total_of f rows))
  where
    row : (cs : List Range) → total_of (times f g) (each (block r) cs) ≡ total_of g cs * f r
    row [] = sym (zero-mul (f r))
    row (c ∷ cs) = ap (λ (n : ℕ). g c * f r + n) (row cs) ∙ sym (add-mul (g c) (total_of g cs) (f r))

-- ---- the pieces stay inside

pub record Part (first last : ℕ) (r : Range) : Type 0 where
  pub low : first ≤ r.low
  pub order : r.low ≤ r.high
  pub high : r.high ≤ last

pub steps_part : (fuel step low high : ℕ) → AllOf (Part low high) (steps fuel step low high)
unfolding steps
steps_part zero step low high = none
steps_part (suc fuel) step low high =
    cond_case (AllOf (Part low high)) (leb low high) _ _
    (λ e. let l = leb-true low high e in
    also (record { low = le_refl low; order = omega arith; high = omega arith })
    (all_map (λ r p. record { low = omega arith; order = p.order; high = p.high }) (steps_part fuel step _ high)))
    (λ e. none)

-- a half is inside, and shorter where there are two
pub record Half (low high : ℕ) (r : Range) : Type 0 where
  pub part : Part low high r
  pub shorter : low < high → r.high - r.low < high - low

pub halves_half : (low high : ℕ) → low ≤ high → AllOf (Half low high) (halves low high)
unfolding halves
halves_half low high h =
    let mid = middle low high in
    cond_case (AllOf (Half low high)) (eqb low high) _ _
    (λ e. let same = eqb-true low high e in
    also (record { part = record { low = le_refl low; order = h; high = le_refl high }; shorter = λ l. omega arith }) none)
    (λ e. let l : low < high = omega (arith, eqb-false low high e) in
    let p = middle_low low high in
    let q = middle_less low high l in
    also (record { part = record { low = le_refl low; order = p; high = omega arith }; shorter = λ k. omega arith })
    (also (record { part = record { low = omega arith; order = omega arith; high = le_refl high }; shorter = λ k. omega arith }) none))

pub cross_all : {P Q : Range → Type 0} {R : Block → Type 0} → ((r c : Range) → P r → Q c → R (block r c)) → {rows cols : List Range}
    → AllOf P rows → AllOf Q cols → AllOf R (cross rows cols)
unfolding cross
cross_all f {cols = cols} ps qs = all_concat (λ r. each (block r) cols) (λ r p. all_each (block r) (λ c q. f r c p q) qs) ps
