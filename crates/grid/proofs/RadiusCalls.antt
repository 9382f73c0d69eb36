-- The questions of a call for a radius: the map's, then 7 of its buffers, 8 of the radius, and one of its own.
use Rattle.std.specs.Prelude.{Some, None, ℕ, suc, ◌≡◌, Bool, true, false, List, [], ◌∷◌, ◌++◌}
use Rattle.grid.specs.declared.RadiusKm.{RadiusKm}
use Rattle.grid.specs.Map.{Map}
use Rattle.grid.specs.Grid.{radius_found}
use Rattle.grid.specs.Answer.{Question, question, first_no, Answer, answered, refused, decide}
use Rattle.grid.specs.Questions.{map_questions, radius_in_range}
use Rattle.grid.proofs.Answers.{says_yes, says_no, says_all, past_map}
use Rattle.grid.proofs.Found.{radius_is}
use Rattle.grid.proofs.Radii.{within_range, beyond_range}

module _ (m : Map) (km last : ℕ) (fit own : Bool) {u : Unit {0}} (asked : answered u ≡ decide (first_no (map_questions m)) (tt {0})) where
  abbrev after_map : List Question
  after_map = question 7 fit ∷ question 8 (radius_in_range m.globe.grid km) ∷ question (suc last) own ∷ []

  abbrev Says : Answer RadiusKm → Type 0
  Says x = x ≡ decide (first_no (map_questions m ++ after_map)) (record { 0 = km })

  pub no_room : fit ≡ false → Says (refused 7)
  no_room f = past_map _ _ m asked (says_no _ 6 _ f)

  module _ (f : fit ≡ true) where
    pub no_radius : radius_found m.globe.grid km ≡ None → Says (refused 8)
    no_radius none = past_map _ _ m asked (says_yes _ 7 _ f (says_no _ 7 _ (beyond_range _ _ none)))

    module _ (r : RadiusKm) (found : radius_found m.globe.grid km ≡ Some r) where
      pub own_no : own ≡ false → Says (refused (suc last))
      own_no o = past_map _ _ m asked (says_yes _ 7 _ f (says_yes _ 8 _ (within_range _ _ r found) (says_no _ last _ o)))

      pub asked_all : own ≡ true → Says (answered r)
      asked_all o =
          past_map _ _ m asked
          (says_yes _ 7 _ f (says_yes _ 8 _ (within_range _ _ r found) (says_yes _ (suc last) _ o (says_all _ (radius_is _ _ r found)))))
