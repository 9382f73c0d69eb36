-- Laws of questions and refusals: the first "no" of a list, what a list without one says, and what an accepted map has passed.
use Prim.Native.Nat.{ℕ, zero, suc}
use mathlib.Core.Path.{◌≡◌, refl, sym, ap, ◌∙◌}
use mathlib.Core.Bool.{Bool, true, false, cond, ◌&&◌}
use mathlib.Core.List.{List, [], ◌∷◌, ◌++◌}
use native.Mathlib.Omega.{arith}
use lib.Dec.{ltb, eqb}
use borrow.Author.Tests.{ltb-true}
use Rattle.lists.proofs.Bools.{and_left, and_right}
use Rattle.grid.specs.declared.Grid.{Grid}
use Rattle.grid.specs.declared.RadiusKm.{RadiusKm}
use Rattle.grid.specs.Map.{Map}
use Rattle.grid.specs.Answer.{Question, question, first_no, Answer, answered, refused, decide}
use Rattle.grid.specs.Questions.{sizes_in_range, latitudes_in_range, columns_close, counts_complete, sheet_complete, sheet_in_order, grid_questions, sheet_questions, map_questions}

-- ---- question by question: a "yes" leaves the rest to decide, a "no" gives its number, and where nothing is left there is no refusal

pub asked_yes : {n : ℕ} {b : Bool} (k : ℕ) (qs : List Question) → b ≡ true → n ≡ first_no qs → n ≡ first_no (question k b ∷ qs)
unfolding first_no
asked_yes k qs e h = rw e h

pub asked_no : {n : ℕ} {b : Bool} (qs : List Question) → b ≡ false → n ≡ first_no (question n b ∷ qs)
unfolding first_no
asked_no qs e = rw e

pub asked_none : 0 ≡ first_no []
unfolding first_no
asked_none = refl

-- ---- list by list

-- every number is above 0
abbrev pub numbered : List Question → Bool
numbered [] = true
numbered (q ∷ qs) = ltb 0 q.number && numbered qs

-- every question is answered "yes"
abbrev pub AllYes : List Question → Type 0
AllYes [] = Unit {0}
AllYes (q ∷ qs) = (q.yes ≡ true) × AllYes qs

-- then there is no refusal, and the other way round
pub yes_all : (qs : List Question) → AllYes qs → 0 ≡ first_no qs
yes_all [] ys = asked_none
yes_all (q ∷ qs) ys = asked_yes q.number qs ys.0 (yes_all qs ys.1)

all_yes : (qs : List Question) → numbered qs ≡ true → first_no qs ≡ 0 → AllYes qs
unfolding first_no
all_yes [] h e = tt
all_yes (q ∷ qs) h e = go q.yes (all_yes qs (and_right (ltb 0 q.number) (numbered qs) h)) e
  where
    go : (b : Bool) → (first_no qs ≡ 0 → AllYes qs) → cond b (first_no qs) q.number ≡ 0 → (b ≡ true) × AllYes qs
    go true more z = (refl, more z)
    go false more z = absurd (omega (arith, z, ltb-true 0 q.number (and_left (ltb 0 q.number) (numbered qs) h)))

-- the questions of one number are answered "yes", in their order: a question that joins the list moves no other
abbrev Also : Bool → Bool → Type 0 → Type 0
Also true said rest = (said ≡ true) × rest
Also false said rest = rest

abbrev pub Yes : ℕ → List Question → Type 0
Yes n [] = Unit {0}
Yes n (q ∷ qs) = Also (eqb n q.number) q.yes (Yes n qs)

pub yes_to : (qs : List Question) → numbered qs ≡ true → first_no qs ≡ 0 → (n : ℕ) → Yes n qs
yes_to qs h e n = go qs (all_yes qs h e)
  where
    go : (qs : List Question) → AllYes qs → Yes n qs
    go [] ys = tt
    go (q ∷ qs) ys = by (eqb n q.number) (go qs ys.1)
      where
        by : (b : Bool) → Yes n qs → Also b q.yes (Yes n qs)
        by true more = (ys.0, more)
        by false more = more

-- one list after another: a refusal by the first stands, and without one the second decides
module _ (ps qs : List Question) where
  after_yes : AllYes ps → first_no qs ≡ first_no (ps ++ qs)
  after_yes = go ps
    where
      go : (ps : List Question) → AllYes ps → first_no qs ≡ first_no (ps ++ qs)
      go [] ys = refl
      go (p ∷ ps) ys = asked_yes p.number (ps ++ qs) ys.0 (go ps ys.1)

  refused_first : (n : ℕ) → first_no ps ≡ suc n → first_no (ps ++ qs) ≡ suc n
  unfolding first_no
  refused_first n = go ps
    where
      go : (ps : List Question) → first_no ps ≡ suc n → first_no (ps ++ qs) ≡ suc n
      go [] e = absurd (omega (arith, e))
      go (p ∷ ps) e = by p.yes (go ps) e
        where
          by : (b : Bool) → (first_no ps ≡ suc n → first_no (ps ++ qs) ≡ suc n) → cond b (first_no ps) p.number ≡ suc n
              → cond b (first_no (ps ++ qs)) p.number ≡ suc n
          by true more h = more h
          by false more h = h

  pub refused_before : {n : ℕ} → n ≡ first_no ps → (n ≡ 0 → ⊥) → n ≡ first_no (ps ++ qs)
  refused_before {n} e h = go n e h
    where
      go : (n : ℕ) → n ≡ first_no ps → (n ≡ 0 → ⊥) → n ≡ first_no (ps ++ qs)
      go zero e h = absurd (h refl)
      go (suc n) e h = sym (refused_first n (sym e))

  pub asked_after : {n : ℕ} → numbered ps ≡ true → first_no ps ≡ 0 → n ≡ first_no qs → n ≡ first_no (ps ++ qs)
  asked_after h e q = q ∙ after_yes (all_yes ps h e)

  pub none_before : first_no (ps ++ qs) ≡ 0 → first_no ps ≡ 0
  none_before e = go (first_no ps) refl
    where
      go : (n : ℕ) → first_no ps ≡ n → n ≡ 0
      go zero z = refl
      go (suc n) z = absurd (omega (arith, refused_first n z, e))

-- ---- the grid's questions, and what an accepted grid has passed

pub record PassedGrid (g : Grid) : Type 0 where
  pub sizes : sizes_in_range g ≡ true
  pub latitudes : latitudes_in_range g ≡ true
  pub columns : columns_close g ≡ true

module _ (g : Grid) where
  pub grid_passed : first_no (grid_questions g) ≡ 0 → PassedGrid g
  unfolding grid_questions
  grid_passed e = let said = yes_to (grid_questions g) refl e in record { sizes = (said 1).0; latitudes = (said 2).0; columns = (said 3).0 }

  -- what is asked after the grid's questions
  module _ (own : List Question) where
    pub after_grid : {n : ℕ} → first_no (grid_questions g) ≡ 0 → n ≡ first_no own → n ≡ first_no (grid_questions g ++ own)
    unfolding grid_questions
    after_grid = asked_after (grid_questions g) own refl

    pub grid_then : numbered own ≡ true → first_no (grid_questions g ++ own) ≡ 0 → PassedGrid g × ((n : ℕ) → Yes n own)
    grid_then h e =
        let none = none_before (grid_questions g) own e in
        (grid_passed none, yes_to own h (after_grid none refl ∙ e))

-- ---- the map's questions, and what an accepted map has passed

pub record Passed (m : Map) : Type 0 where
  pub grid : PassedGrid m.globe.grid
  pub counts : counts_complete m ≡ true
  pub sheet : sheet_complete m.globe ≡ true
  pub order : sheet_in_order m.globe ≡ true

module _ (m : Map) where
  pub map_passed : first_no (map_questions m) ≡ 0 → Passed m
  unfolding map_questions sheet_questions
  map_passed e =
      let all = grid_then m.globe.grid (question 4 (counts_complete m) ∷ sheet_questions m.globe) refl e in
      record { grid = all.0; counts = (all.1 4).0; sheet = (all.1 5).0; order = (all.1 6).0 }

  -- what is asked after the map's questions
  module _ (own : List Question) where
    pub after_map : {n : ℕ} → first_no (map_questions m) ≡ 0 → n ≡ first_no own → n ≡ first_no (map_questions m ++ own)
    unfolding map_questions grid_questions sheet_questions
    after_map = asked_after (map_questions m) own refl

    -- what an accepted call on a map has passed: the map's questions, and its own by their numbers
    pub record PassedCall : Type 0 where
      pub map : Passed m
      pub yes : (n : ℕ) → Yes n own

    pub map_then : numbered own ≡ true → first_no (map_questions m ++ own) ≡ 0 → PassedCall
    map_then h e =
        let none = none_before (map_questions m) own e in
        record { map = map_passed none; yes = yes_to own h (after_map none refl ∙ e) }

-- ---- what a decision leaves

module _ {A : Type 0} where
  pub decide_yes : (n : ℕ) (a : A) → n ≡ 0 → decide n a ≡ answered a
  unfolding decide
  decide_yes n a e = rw e

  pub decide_no : (n k : ℕ) (a : A) → n ≡ k → (n ≡ 0 → ⊥) → decide k a ≡ refused n
  unfolding decide
  decide_no zero k a e h = absurd (h refl)
  decide_no (suc n) k a e h = rw (← e)

  -- and what a decision that has left it was
  pub not_answered : (n : ℕ) (a : A) → refused n ≡ answered a → ⊥
  not_answered n a e = let o : ◌≡◌ {A = ℕ} 0 1 = cc in omega arith

  pub decided_yes : (n : ℕ) (a b : A) → answered b ≡ decide n a → (n ≡ 0) × (a ≡ b)
  unfolding decide
  decided_yes zero a b e = (refl, cc)
  decided_yes (suc n) a b e = absurd (not_answered (suc n) b (sym e))

  pub decided_no : (n k : ℕ) (a : A) → refused n ≡ decide k a → n ≡ 0 → ⊥
  unfolding decide
  decided_no n zero a e z = not_answered n a e
  decided_no n (suc k) a e z = let is : n ≡ suc k = cc in omega (arith, is, z)

  pub left_refusal : (n k : ℕ) (a : A) → refused n ≡ decide k a → (n ≡ k) × (n ≡ 0 → ⊥)
  unfolding decide
  left_refusal n zero a e = absurd (not_answered n a e)
  left_refusal n (suc k) a e = let is : n ≡ suc k = cc in (is, λ z. omega (arith, is, z))

-- ---- what is decided by a list of questions: one after another

module _ {A : Type 0} (a : A) where
  pub says_no : (k : ℕ) {b : Bool} (qs : List Question) → b ≡ false → refused (suc k) ≡ decide (first_no (question (suc k) b ∷ qs)) a
  unfolding first_no decide
  says_no k qs e = rw e

  pub says_yes : (k : ℕ) {b : Bool} (qs : List Question) {x : Answer A} → b ≡ true → x ≡ decide (first_no qs) a → x ≡ decide (first_no (question k b ∷ qs)) a
  unfolding first_no
  says_yes k qs e h = rw e h

  pub says_all : {x : A} → x ≡ a → answered x ≡ decide (first_no []) a
  unfolding first_no decide
  says_all e = rw e

-- and one list after another

module _ {A : Type 0} (ps qs : List Question) (a : A) where
  -- a refusal by the first stands
  pub refused_stands : {n : ℕ} → refused n ≡ decide (first_no ps) (tt {0}) → refused n ≡ decide (first_no (ps ++ qs)) a
  unfolding decide
  refused_stands {n} e = go (first_no ps) refl e
    where
      go : (k : ℕ) → first_no ps ≡ k → refused n ≡ decide k (tt {0}) → refused n ≡ decide (first_no (ps ++ qs)) a
      go zero z e = absurd (not_answered n (tt {0}) e)
      go (suc k) z e = let is : n ≡ suc k = cc in rw (refused_first ps qs k z, is)

  -- where the first refuses nothing the second decides
  accepted_then : {u : Unit {0}} {x : Answer A} → numbered ps ≡ true → answered u ≡ decide (first_no ps) (tt {0})
      → x ≡ decide (first_no qs) a → x ≡ decide (first_no (ps ++ qs)) a
  accepted_then {u} h e d = rw (← asked_after ps qs h (decided_yes (first_no ps) tt u e).0 refl) d

module _ {A : Type 0} (own : List Question) (a : A) {u : Unit {0}} {x : Answer A} where
  -- past the grid's questions, and past the map's
  pub past_grid : (g : Grid) → answered u ≡ decide (first_no (grid_questions g)) (tt {0})
      → x ≡ decide (first_no own) a → x ≡ decide (first_no (grid_questions g ++ own)) a
  unfolding grid_questions
  past_grid g = accepted_then (grid_questions g) own a refl

  pub past_map : (m : Map) → answered u ≡ decide (first_no (map_questions m)) (tt {0})
      → x ≡ decide (first_no own) a → x ≡ decide (first_no (map_questions m ++ own)) a
  unfolding map_questions grid_questions sheet_questions
  past_map m = accepted_then (map_questions m) own a refl

-- a decision by the same number: refused whatever it would answer, and what it answers where it is not
pub refused_alike : {A B : Type 0} (n k : ℕ) (a : A) (b : B) → refused n ≡ decide k a → decide k b ≡ refused n
unfolding decide
refused_alike n zero a b e = absurd (not_answered n a e)
refused_alike n (suc k) a b e = let is : n ≡ suc k = cc in rw is

pub radius_left : (n km : ℕ) (r : RadiusKm) → answered r ≡ decide n (record { 0 = km }) → (n ≡ 0) × (km ≡ r.0)
radius_left n km r e = let said = decided_yes n (record { 0 = km }) r e in (said.0, ap (λ (x : RadiusKm). x.0) said.1)
