-- What a block adds to a chunk's counts, and what an evaluated one leaves.
use Rattle.std.proofs.Common.{Option, Some}
use Prim.Native.Nat.{ℕ, ◌+◌, ◌≤◌, ◌^◌}
use mathlib.Core.Path.{◌≡◌}
use mathlib.Core.Bool.{Bool, true, false}
use mathlib.Core.List.{[]}
use native.Mathlib.Omega.{arith}
use lib.Ieee.{Float}
use Rattle.lists.specs.Counted.{one}
use Rattle.grid.specs.declared.Cell.{Cell}
use Rattle.blocks.specs.declared.Block.{Block}
use Rattle.blocks.specs.Block.{is_cell, probe}
use Rattle.tally.specs.declared.Tally.{Tally}
use Rattle.tally.specs.Counts.{stats, tally, plus}
use Rattle.tally.specs.State.{weight, stats_weight}
use Rattle.candidates.specs.declared.Candidate.{Candidate}
use Rattle.candidates.specs.Candidate.{candidate_of, better_held}
use Rattle.chunk_work.specs.declared.ChunkWork.{ChunkWork}
use Rattle.chunk_work.specs.Work.{Work, wide_built, exact_built}
use Rattle.chunk_work.specs.State.{work_of, evaluated_work}

pub one_le : (b : Bool) → one b ≤ 1
unfolding one
one_le true = omega arith
one_le false = omega arith

pub wide_le : (w : Work) (b : Block) (wide : Float) → wide_built w b wide ≤ 1
unfolding wide_built
wide_le w b wide = one_le _

pub exact_le : (w : Work) (b : Block) → exact_built w b ≤ 1
unfolding exact_built
exact_le w b = one_le _

pub one_few : (n : ℕ) (b : Bool) → n ≡ one b → n ≤ 1
one_few n b e = rw e (one_le b)

pub wide_few : (w : ChunkWork) (b : Block) (wide : Float) → wide_built (work_of w []) b wide ≤ 1
wide_few w b wide = wide_le (work_of w []) b wide

pub exact_few : (w : ChunkWork) (b : Block) → exact_built (work_of w []) b ≤ 1
exact_few w b = exact_le (work_of w []) b

-- what a block adds
pub plus_light : (t d : Tally) → weight t ≤ 2 ^ 30 → weight d ≤ 2 ^ 21 → weight t + weight d ≤ 2 ^ 31
plus_light t d p q = omega arith

pub added_light : (n p e k a s : ℕ) → n ≤ 1 → p ≤ 1 → e ≤ 1 → k ≤ 2 → a ≤ 2 ^ 20 → s ≤ 1 → weight (tally (stats 0 n p e k) a s) ≤ 2 ^ 21
unfolding weight stats_weight
added_light n p e k a s h₁ h₂ h₃ h₄ h₅ h₆ = omega arith

-- what an evaluated block leaves, from what each step gave
pub evaluated_is : (w : ChunkWork) (b : Block) (wide : Float) (people : ℕ) (p : Cell) (held : Option Candidate) (sum : Tally) → p ≡ probe b
    → held ≡ better_held w.held (Some (candidate_of p people))
    → sum ≡ plus w.tally (tally (stats 0 1 0 1 (wide_built (work_of w []) b wide + exact_built (work_of w []) b)) 0 (one (is_cell b)))
    → record { held = held; tally = sum; wide_row = p.row; wide_km = wide; exact_row = p.row } ≡ evaluated_work w b wide people
unfolding evaluated_work
evaluated_is w b wide people p held sum e h s = rw (h, s, e)
