-- The order of candidates: fewer people, or as many at a later cell. Of two candidates `better` is the greater.
use Rattle.std.proofs.Common.{Option, None, Some, IfSome, IsSomeAnd}
use Prim.Native.Nat.{ℕ, ◌≤◌, ◌<◌}
use mathlib.Core.Path.{◌≡◌, refl, sym, ◌∙◌}
use mathlib.Core.Logic.{◌⊎◌, inl, inr}
use mathlib.Core.Bool.{true, false, false≢true}
use native.Mathlib.Omega.{arith}
use lib.Dec.{T}
use borrow.Author.Tests.{ltb-true, ltb-false}
use Rattle.lists.proofs.Bools.{of_true, is_true, not_both, cond_case}
use Rattle.grid.specs.Grid.{before}
use Rattle.candidates.specs.declared.Candidate.{Candidate}
use Rattle.candidates.specs.Candidate.{candidate_of, centre_of, better, better_held, prunes}
use Rattle.grid.proofs.CellOrder.{before_trans, Compared, first, same, second, compare}

infix 50 ◌≼◌
pub data ◌≼◌ (c d : Candidate) : Type 0 where
  fewer : c.population < d.population → c ≼ d
  later : c.population ≡ d.population → T (before (centre_of d) (centre_of c)) → c ≼ d
  equal : c ≡ d → c ≼ d

candidate_path : (c d : Candidate) → c.population ≡ d.population → centre_of c ≡ centre_of d → c ≡ d
candidate_path c d p q = λ i. candidate_of (q i) (p i)

-- ---- an order

pub ≼_refl : (c : Candidate) → c ≼ c
≼_refl c = equal refl

pub ≼_trans : {c d e : Candidate} → c ≼ d → d ≼ e → c ≼ e
≼_trans (fewer a) (fewer b) = fewer (omega arith)
≼_trans (fewer a) (later p b) = fewer (omega arith)
≼_trans (later p a) (fewer b) = fewer (omega arith)
≼_trans {c} {d} {e} (later p a) (later q b) = later (p ∙ q) (before_trans (centre_of e) (centre_of d) (centre_of c) b a)
≼_trans (fewer a) (equal q) = rw (← q) (fewer a)
≼_trans (later p a) (equal q) = rw (← q) (later p a)
≼_trans (equal p) b = rw p b

-- ---- the better of two

-- both are at most the chosen one, and it is one of the two
pub record Chosen (c d e : Candidate) : Type 0 where
  pub first : c ≼ e
  pub second : d ≼ e
  pub either : (e ≡ c) ⊎ (e ≡ d)

pub chosen : (c d : Candidate) → Chosen c d (better c d)
unfolding better
chosen c d =
    cond_case (Chosen c d) _ _ _ (λ more. record { first = fewer (ltb-true _ _ more); second = ≼_refl d; either = inr refl })
    (λ no_more. cond_case (Chosen c d) _ _ _ (λ less. record { first = ≼_refl c; second = fewer (ltb-true _ _ less); either = inl refl })
    (λ no_less. let p : c.population ≡ d.population = omega (arith, ltb-false, ltb-false) in
    cond_case (Chosen c d) _ _ _ (λ e. record { first = later p (of_true _ e); second = ≼_refl d; either = inr refl })
    (λ e. record { first = ≼_refl c; second = stays e p (compare (centre_of c) (centre_of d)); either = inl refl })))
  where
    stays : before (centre_of d) (centre_of c) ≡ false → c.population ≡ d.population → Compared (centre_of c) (centre_of d) → d ≼ c
    stays e p (first b) = later (sym p) b
    stays e p (same q) = equal (sym (candidate_path c d p q))
    stays e p (second b) = absurd (not_both (before (centre_of d) (centre_of c)) (is_true (before (centre_of d) (centre_of c)) b) e)

-- ---- what is held

-- a candidate is at most what is held
abbrev pub Below : Candidate → Option Candidate → Type 0
Below k h = IsSomeAnd h (λ d. k ≼ d)

pub better_first : (k : Candidate) (a b : Option Candidate) → Below k a → Below k (better_held a b)
unfolding better_held
better_first k None b p = absurd p
better_first k (Some c) None p = p
better_first k (Some c) (Some d) p = ≼_trans p (chosen c d).first

pub better_second : (k : Candidate) (a b : Option Candidate) → Below k b → Below k (better_held a b)
unfolding better_held
better_second k None b p = p
better_second k (Some c) None p = absurd p
better_second k (Some c) (Some d) p = ≼_trans p (chosen c d).second

-- what is true of the candidate that is held, if there is one, stays
pub better_of : (P : Candidate → Type 0) (a b : Option Candidate) → IfSome a P → IfSome b P → IfSome (better_held a b) P
unfolding better_held
better_of P None b p q = q
better_of P (Some c) None p q = p
better_of P (Some c) (Some d) p q = pick (chosen c d).either
  where
    pick : (better c d ≡ c) ⊎ (better c d ≡ d) → P (better c d)
    pick (inl e) = rw e p
    pick (inr e) = rw e q

-- a bound that prunes is above nobody who is not below what is held
pub pruned_below : (bound : ℕ) (h : Option Candidate) → prunes bound h ≡ true → (k : Candidate) → k.population ≤ bound → Below k h
unfolding prunes
pruned_below bound None e k l = absurd (false≢true e)
pruned_below bound (Some d) e k l = fewer (omega (arith, ltb-true bound d.population e))
