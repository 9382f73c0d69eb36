-- Commands by their branches: refused, off the grid, or done.
use Prim.Native.Nat.{ℕ}
use mathlib.Core.Path.{◌≡◌, refl, sym, ◌∙◌, ap}
use mathlib.Core.Bool.{Bool, true, false}
use mathlib.Core.List.{List, []}
use lib.Ieee.{Float}
use Rattle.grid.specs.declared.Cell.{Cell}
use Rattle.grid.specs.declared.Row.{Row}
use Rattle.grid.specs.Grid.{row_found}
use Rattle.grid.specs.declared.Grid.{Grid}
use Rattle.grid.specs.Answer.{first_no, Answer, answered, refused, decide}
use Rattle.grid.proofs.Answers.{says_no, says_yes, says_all, refused_alike, decided_yes, decide_yes}
use Rattle.grid.specs.Questions.{grid_questions}
use Rattle.job_commands.specs.declared.Command.{Command}
use Rattle.job_commands.specs.declared.Command.TheVariants.{SetGrid, SetCount, SetCosine, SetAngle, End}
use Rattle.job_world.specs.declared.JobState.{JobState}
use Rattle.job_lines.specs.declared.Line.{Line}
use Rattle.job_lines.specs.State.{line_of}
use Rattle.job_sizes.specs.Sizes.{size_taken, cell_found, angle_found}
use Rattle.std.proofs.Common.{Option, Some, None}
use Rattle.job_sizes.specs.declared.AngleIndices.{AngleIndices}
use Rattle.job_sizes.proofs.Found.{cell_is, cell_none, row_is, row_none, angle_is, angle_none}
use Rattle.job_world.specs.World.{World, State, empty, begun, with_map, with_count, with_cosine, with_angle}
use Rattle.job_world.specs.State.{job_map, world_of, state_of, grid_state, count_state, cosine_state, angle_state}
use Rattle.job_rules.specs.Apply.{Done, going, placed, in_world, first, apply}
use Rattle.job_rules.specs.State.{command_state, refused_in, gone_on, done_in, first_in, later_in, applied_in}

module _ (s : JobState) where
  pub state_empty : s.begun ≡ false → state_of s ≡ empty s.ledger
  unfolding state_of
  state_empty h = rw h

  pub state_begun : s.begun ≡ true → state_of s ≡ begun (world_of s)
  unfolding state_of
  state_begun h = rw h

  module _ (c : Command) where
    pub apply_early : s.begun ≡ false → apply (state_of s) c ≡ first s.ledger c
    unfolding apply
    apply_early h = ap (λ (t : State). apply t c) (state_empty h)

    pub apply_begun : s.begun ≡ true → apply (state_of s) c ≡ in_world (world_of s) c
    unfolding apply
    apply_begun h = ap (λ (t : State). apply t c) (state_begun h)

    -- a command in its turn
    pub first_applied : s.begun ≡ false → first_in s c ≡ applied_in s c
    unfolding applied_in
    first_applied h = ap (done_in s c) (sym (apply_early h))

    pub later_applied : s.begun ≡ true → later_in s c ≡ applied_in s c
    unfolding applied_in
    later_applied h = ap (done_in s c) (sym (apply_begun h))

    -- by its answer: refused, and going on
    module _ {a : Answer Done} where
      pub refused_by : {n : ℕ} → refused n ≡ a → refused_in s n ≡ done_in s c a
      unfolding done_in
      refused_by e = ap (done_in s c) e

      pub gone_on_lem : {w : World} {printed : List ℕ} {t : JobState} {line : Line} → answered (going w printed) ≡ a → t ≡ command_state s c → line ≡ line_of printed
          → gone_on t line ≡ done_in s c a
      unfolding gone_on done_in
      gone_on_lem e p q = rw (← e, p, q)

    -- an index off the grid, and one on it
    module _ {on : Bool} (w : World) where
      pub off_grid : on ≡ false → refused_in s 15 ≡ done_in s c (placed on w)
      unfolding placed
      off_grid t = refused_by (says_no _ 14 [] t)

      pub on_grid_lem : {t : JobState} → on ≡ true → t ≡ command_state s c → gone_on t (line_of []) ≡ done_in s c (placed on w)
      unfolding placed
      on_grid_lem b p = gone_on_lem (says_yes _ 15 [] b (says_all _ refl)) p refl

  -- ---- G, the first command

  module _ (g : Grid) where
    pub grid_large : size_taken g ≡ false → refused_in s 14 ≡ first_in s (SetGrid g)
    unfolding first
    grid_large t = refused_by (SetGrid g) (says_no _ 13 (grid_questions g) t)

    module _ (taken : size_taken g ≡ true) where
      pub grid_refused : {n : ℕ} → refused n ≡ decide (first_no (grid_questions g)) (tt {0}) → refused_in s n ≡ first_in s (SetGrid g)
      unfolding first
      grid_refused {n} e = refused_by (SetGrid g) (says_yes _ 14 (grid_questions g) taken (sym (refused_alike n _ _ _ e)))

      pub grid_begins : {u : Unit {0}} {t : JobState} → answered u ≡ decide (first_no (grid_questions g)) (tt {0}) → t ≡ grid_state s.ledger g
          → gone_on t (line_of []) ≡ first_in s (SetGrid g)
      unfolding first command_state
      grid_begins {u} e p =
          gone_on_lem (SetGrid g) (says_yes _ 14 (grid_questions g) taken (sym (decide_yes _ _ (decided_yes _ _ _ e).0))) p refl

    -- and a second one
    pub second_grid : refused_in s 14 ≡ later_in s (SetGrid g)
    unfolding in_world
    second_grid = refused_by (SetGrid g) refl

  -- ---- C, K and A, by what was found of their indices on the grid

  module _ (x : Cell) (n : ℕ) where
    abbrev counted : World
    counted = with_map (world_of s) (with_count (job_map s) x n)

    pub count_off : {r : Option Cell} → r ≡ cell_found s.grid x → r ≡ None → refused_in s 15 ≡ later_in s (SetCount x n)
    unfolding in_world world_of job_map
    count_off f e = off_grid (SetCount x n) counted (cell_none s.grid x (sym f ∙ e))

    pub count_on : {r : Option Cell} {y : Cell} {t : JobState} → r ≡ cell_found s.grid x → r ≡ Some y → t ≡ count_state s y n
        → gone_on t (line_of []) ≡ later_in s (SetCount x n)
    unfolding in_world world_of job_map command_state
    count_on {r} {y} f e p = let is = cell_is s.grid x y (sym f ∙ e) in on_grid_lem (SetCount x n) counted is.0 (rw is.1 p)

  module _ (row : Row) (x : Float) where
    abbrev narrowed : World
    narrowed = with_map (world_of s) (with_cosine (job_map s) row x)

    pub cosine_off : {r : Option Row} → r ≡ row_found s.grid row.0 → r ≡ None → refused_in s 15 ≡ later_in s (SetCosine row x)
    unfolding in_world world_of job_map
    cosine_off f e = off_grid (SetCosine row x) narrowed (row_none s.grid row (sym f ∙ e))

    pub cosine_on : {r : Option Row} {y : Row} {t : JobState} → r ≡ row_found s.grid row.0 → r ≡ Some y → t ≡ cosine_state s y x
        → gone_on t (line_of []) ≡ later_in s (SetCosine row x)
    unfolding in_world world_of job_map command_state
    cosine_on {r} {y} f e p = let is = row_is s.grid row y (sym f ∙ e) in on_grid_lem (SetCosine row x) narrowed is.0 (rw is.1 p)

  module _ (centre row : Row) (offset : ℕ) (x : Float) where
    abbrev turned : World
    turned = with_map (world_of s) (with_angle (job_map s) centre row offset x)

    pub angle_off : {r : Option AngleIndices} → r ≡ angle_found s.grid centre row offset → r ≡ None → refused_in s 15 ≡ later_in s (SetAngle centre row offset x)
    unfolding in_world world_of job_map
    angle_off f e = off_grid (SetAngle centre row offset x) turned (angle_none s.grid centre row offset (sym f ∙ e))

    pub angle_on_lem : {r : Option AngleIndices} {y : AngleIndices} {t : JobState} → r ≡ angle_found s.grid centre row offset → r ≡ Some y
        → t ≡ angle_state s y.centre y.row y.offset x
        → gone_on t (line_of []) ≡ later_in s (SetAngle centre row offset x)
    unfolding in_world world_of job_map command_state
    angle_on_lem {r} {y} f e p =
        let is = angle_is s.grid centre row offset y (sym f ∙ e) in
        on_grid_lem (SetAngle centre row offset x) turned is.0 (let q = rw (← is.1) at p in q)

  -- ---- E

  pub end_last : {t : JobState} {line : Line} → t ≡ s → line ≡ line_of [] → record { state = t; line = line; last = true } ≡ later_in s End
  unfolding in_world command_state done_in
  end_last p q = rw (p, q)
