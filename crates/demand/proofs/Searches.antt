-- The search call of an accepted map: who is answered, and what an answer is.
use Prim.Native.Nat.{ℕ}
use mathlib.Core.Path.{◌≡◌, refl, sym, ap, ◌∙◌}
use lib.Dec.{T}
use borrow.Author.Tests.{le-leb}
use Rattle.lists.proofs.Bools.{is_true, of_true}
use Rattle.grid.specs.Grid.{ceiling}
use Rattle.grid.specs.Map.{Map}
use Rattle.grid.specs.Answer.{first_no, answered, decide}
use Rattle.grid.proofs.Answers.{yes_all, yes_to, after_map, decide_yes, decided_yes}
use Rattle.grid.specs.Questions.{radius_in_range}
use Rattle.spacing.specs.declared.Spacing.{Spacing}
use Rattle.spacing.specs.Spacing.{spacing_given}
use Rattle.search_rules.specs.declared.MostPopulous.{MostPopulous}
use Rattle.search_rules.specs.Search.{search}
use Rattle.most_populous.specs.Call.{Buffers, search_own, search_questions, search_call}
use Rattle.demand.specs.Demand3.{Accepted, SearchAnswers}

module _ (m : Map) (a : Accepted m) where
  -- the map's questions passed, the others decide
  own_decide : (km : ℕ) (spacing : Spacing) (lent : Buffers)
      → (search_call m spacing km lent).answer
      ≡ decide (first_no (search_own m.globe.grid spacing km lent)) (search m spacing km)
  unfolding search_call search_questions
  own_decide km spacing lent = ap (λ n. decide n (search m spacing km)) (sym (after_map m _ a.asked refl))

  -- THE SEARCHES ANSWERED
  pub search_answers : SearchAnswers m
  unfolding radius_in_range
  search_answers km h spacing given lent fit =
      own_decide km spacing lent ∙ decide_yes _ _
      (sym (yes_all (search_own m.globe.grid spacing km lent) (is_true _ fit, (le-leb km (ceiling m.globe.grid) h, (is_true _ given, tt)))))

  -- an answer is the search's, and its spacing was given
  pub search_answered : (km : ℕ) (spacing : Spacing) (lent : Buffers) (f : MostPopulous) → (search_call m spacing km lent).answer ≡ answered f
      → T (spacing_given spacing) × (search m spacing km ≡ f)
  search_answered km spacing lent f e =
      let own = search_own m.globe.grid spacing km lent in
      let was = decided_yes (first_no own) (search m spacing km) f (sym e ∙ own_decide km spacing lent) in
      (of_true _ (yes_to own refl was.0 10).0, was.1)
