-- Runs of places of one value: where they end, and the values in them.
use Prim.Native.Nat.{ℕ, zero, suc, ◌+◌, ◌-◌, ◌≤◌, ◌<◌}
use mathlib.Core.Path.{◌≡◌, refl, sym, ap, ◌∙◌}
use mathlib.Core.Bool.{Bool, true, false, cond}
use mathlib.Core.List.{List}
use native.Mathlib.Decide.{ℕ_discrete}
use native.Mathlib.Omega.{arith}
use borrow.Author.Tests.{eq-eqb, ne_eqb, eqb-true, eqb-false}
use lib.Dec.{eqb}
use lib.ListN.{get_or}
use Rattle.lists.proofs.Bools.{cases, cond_true, cond_false, cond_case}
use Rattle.kernel.specs.Kernel.{run_end}
use Rattle.reach.specs.Reach.{row_places}
use Rattle.kernel.specs.State.{run_in}

module _ (f : ℕ → ℕ) where
  run_step : (i : ℕ) → i < row_places → run_end f (row_places - i) i ≡ cond (eqb (f (i + 1)) (f i)) (run_end f (row_places - (i + 1)) (i + 1)) (i + 1)
  unfolding run_end
  run_step i h =
      let e : row_places - i ≡ suc (row_places - (i + 1)) = omega arith in
      ap (λ (n : ℕ). run_end f n i) e

  pub run_onward : (n i : ℕ) → i < run_end f n i
  unfolding run_end
  run_onward zero i = omega arith
  run_onward (suc n) i =
      cond_case (λ (e : ℕ). i < e) (eqb (f (i + 1)) (f i)) (run_end f n (i + 1)) (i + 1) (λ t. omega (arith, run_onward n (i + 1))) (λ t. omega arith)

  pub run_alike : (n i j : ℕ) → i ≤ j → j < run_end f n i → f j ≡ f i
  unfolding run_end
  run_alike zero i j h l = ap f (omega arith)
  run_alike (suc n) i j h l = elim (ℕ_discrete j i) [
    | yes q ↦ ap f q
    | no q ↦ further (omega arith) (λ h' l'. run_alike n (i + 1) j h' l') (eqb (f (i + 1)) (f i)) (λ t. eqb-true (f (i + 1)) (f i) t) l
  ]
    where
      further : i + 1 ≤ j → (i + 1 ≤ j → j < run_end f n (i + 1) → f j ≡ f (i + 1)) → (b : Bool) → (b ≡ true → f (i + 1) ≡ f i)
          → j < cond b (run_end f n (i + 1)) (i + 1) → f j ≡ f i
      further q rest true e u = rest q u ∙ e refl
      further q rest false e u = absurd (omega arith)

-- the run of a row, of its reach and of the reach and the run of the row below it
pub run_next : (l : List ℕ) (i row here below to : ℕ) → i + 1 ≡ row → i < row_places → here ≡ get_or l i 0 → 0 < here → below ≡ get_or l row 0
    → (0 < below → to ≡ run_in l row) → cond (eqb below here) to (i + 1) ≡ run_in l i
run_next l i row here below to e h a p b t =
    let f : ℕ → ℕ = λ r. get_or l r 0 in
    let next : below ≡ f (i + 1) = b ∙ ap f (sym e) in
    cases (eqb below here)
    (λ q.
    let s : below ≡ here = eqb-true below here q in
    rw q (t (omega arith) ∙ ap (run_in l) (sym e) ∙ sym (run_step f i h ∙ cond_true (eqb (f (i + 1)) (f i)) _ _ (eq-eqb (f (i + 1)) (f i) (sym next ∙ s ∙ a)))))
    (λ q. rw q (sym (run_step f i h ∙ cond_false (eqb (f (i + 1)) (f i)) _ _ (ne_eqb (f (i + 1)) (f i) (λ z. eqb-false below here q (next ∙ z ∙ sym a))))))
